-- The text of a condition with its parts one after another.
use Rattle.std.proofs.Common.{◌≡◌, true, false, List, [], ◌∷◌, ◌++◌, ℕ, refl, ap}
use Rattle.std.specs.Prelude.{codes, ◌||◌}
use Rattle.condition_syntax.specs.Trees.{Condition, conjunction, disjunction}
use Rattle.condition_syntax.specs.CanonicalText.{is_conjunction, is_disjunction, bracketed_if, condition_text}

pub is_conjunction-conjunction : (cs : List Condition) → is_conjunction (conjunction cs) ≡ true
unfolding is_conjunction
is_conjunction-conjunction [] = refl
is_conjunction-conjunction (c ∷ cs) = refl

pub is_conjunction-disjunction : (cs : List Condition) → is_conjunction (disjunction cs) ≡ false
unfolding is_conjunction
is_conjunction-disjunction [] = refl
is_conjunction-disjunction (c ∷ cs) = refl

pub is_disjunction-conjunction : (cs : List Condition) → is_disjunction (conjunction cs) ≡ false
unfolding is_disjunction
is_disjunction-conjunction [] = refl
is_disjunction-conjunction (c ∷ cs) = refl

pub is_disjunction-disjunction : (cs : List Condition) → is_disjunction (disjunction cs) ≡ true
unfolding is_disjunction
is_disjunction-disjunction [] = refl
is_disjunction-disjunction (c ∷ cs) = refl

-- the text of a part of a conjunction, of a part of a disjunction
abbrev pub and_part : Condition → List ℕ
and_part c = bracketed_if (is_conjunction c || is_disjunction c) (condition_text c)

abbrev pub or_part : Condition → List ℕ
or_part c = bracketed_if (is_disjunction c) (condition_text c)

-- the parts, the first behind `before` and each other behind `between`
abbrev pub listed : List ℕ → List ℕ → (Condition → List ℕ) → List Condition → List ℕ
listed before between part [] = []
listed before between part (c ∷ cs) = before ++ (part c ++ listed between between part cs)

pub text-conjunction : (cs : List Condition) → condition_text (conjunction cs) ≡ listed [] (codes " and ") and_part cs
unfolding condition_text
text-conjunction [] = refl
text-conjunction (c ∷ []) = refl
text-conjunction (c ∷ d ∷ cs) = ap (λ (text : List ℕ). and_part c ++ (codes " and " ++ text)) (text-conjunction (d ∷ cs))

pub text-disjunction : (cs : List Condition) → condition_text (disjunction cs) ≡ listed [] (codes " or ") or_part cs
unfolding condition_text
text-disjunction [] = refl
text-disjunction (c ∷ []) = refl
text-disjunction (c ∷ d ∷ cs) = ap (λ (text : List ℕ). or_part c ++ (codes " or " ++ text)) (text-disjunction (d ∷ cs))
