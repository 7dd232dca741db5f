-- The least common multiple of the denominators of conditions, number by number and part by part.
use Rattle.std.proofs.Common.{◌≡◌, ℕ, ◌+◌, ◌<◌, ◌≤◌, Option, List, [], ◌∷◌, ◌++◌, length, map, get_or, drop, drop_of_length-le, refl, sym, ap, subst, ◌∙◌}
use Rattle.std.specs.List.{flat_map}
use Rattle.std.specs.Global.{Vec}
use Rattle.weighing.specs.declared.scales.Num.{Num}
use Rattle.condition_syntax.specs.Trees.{Condition, conjunction, disjunction, condition_of}
use Rattle.condition_syntax.specs.declared.conditions.Cond.{Cond}
use Rattle.condition_syntax.specs.declared.conditions.Cond.TheVariants.{True, False, And, Or}
use Rattle.condition_syntax.specs.declared.expressions.ETerm.{ETerm}
use Rattle.condition_syntax.proofs.TreeLaws.{condition_of-True, condition_of-False, condition_of-And, condition_of-Or}
use Rattle.ctrl_types.specs.Denominators.{with_number, with_numbers}
use Rattle.ctrl_types.specs.Statements.{coefs, condition_numbers}
use Rattle.ctrl_types.proofs.DenominatorLaws.{numbers-append}
use Rattle.question_text.specs.Resolution.{EachAsked, IsAsked}
use Rattle.question_text.proofs.FoundLoop.{next_is}

-- ---- terms, one after another

pub terms_go_on : (terms : List ETerm) (i : ℕ) (t : ETerm) (s next total : Option ℕ) → t ≡ get_or terms i t → i < length terms → next ≡ with_number s t.coef
    → with_numbers s (coefs (drop i terms)) ≡ total → with_numbers next (coefs (drop (i + 1) terms)) ≡ total
unfolding with_numbers
terms_go_on terms i t s next total here inside is so_far =
    let one : with_numbers s (coefs (drop i terms)) ≡ with_numbers (with_number s t.coef) (coefs (drop (i + 1) terms)) = rw (next_is terms i t here inside) refl in
    ap (λ (o : Option ℕ). with_numbers o (coefs (drop (i + 1) terms))) is ∙ sym one ∙ so_far

pub terms_end : (terms : List ETerm) (i : ℕ) (s total : Option ℕ) → length terms ≤ i → with_numbers s (coefs (drop i terms)) ≡ total → s ≡ total
unfolding with_numbers
terms_end terms i s total done so_far =
    let one : with_numbers s (coefs (drop i terms)) ≡ s = rw (drop_of_length-le terms done) refl in
    sym one ∙ so_far

-- ---- parts

numbers-conjunction : (cs : List Condition) → condition_numbers (conjunction cs) ≡ flat_map condition_numbers cs
numbers-conjunction [] = refl
numbers-conjunction (c ∷ cs) = ap (λ (ns : List Num). condition_numbers c ++ ns) (numbers-conjunction cs)

numbers-disjunction : (cs : List Condition) → condition_numbers (disjunction cs) ≡ flat_map condition_numbers cs
numbers-disjunction [] = refl
numbers-disjunction (c ∷ cs) = ap (λ (ns : List Num). condition_numbers c ++ ns) (numbers-disjunction cs)

asked_of_all : (cs : List Condition) → IsAsked (conjunction cs) → EachAsked cs
asked_of_all [] are = tt
asked_of_all (c ∷ cs) are = ((are.0.0, are.1.0), asked_of_all cs (are.0.1, are.1.1))

asked_of_any : (cs : List Condition) → IsAsked (disjunction cs) → EachAsked cs
asked_of_any [] are = tt
asked_of_any (c ∷ cs) are = ((are.0.0, are.1.0), asked_of_any cs (are.0.1, are.1.1))

module _ (s : Option ℕ) (cond : Cond) where
  pub True_numbers : cond ≡ True → s ≡ with_numbers s (condition_numbers (condition_of cond))
  unfolding with_numbers
  True_numbers is = sym (ap (λ (c : Cond). with_numbers s (condition_numbers (condition_of c))) is ∙ ap (λ (c : Condition). with_numbers s (condition_numbers c)) condition_of-True)

  pub False_numbers : cond ≡ False → s ≡ with_numbers s (condition_numbers (condition_of cond))
  unfolding with_numbers
  False_numbers is = sym (ap (λ (c : Cond). with_numbers s (condition_numbers (condition_of c))) is ∙ ap (λ (c : Condition). with_numbers s (condition_numbers c)) condition_of-False)

  pub And_numbers : (parts : Vec Cond) (total : Option ℕ) → cond ≡ And parts → total ≡ with_numbers s (flat_map condition_numbers (map condition_of parts.items))
      → total ≡ with_numbers s (condition_numbers (condition_of cond))
  And_numbers parts total is told =
      told ∙ ap (with_numbers s) (sym (numbers-conjunction (map condition_of parts.items)))
      ∙ ap (λ (c : Condition). with_numbers s (condition_numbers c)) (sym (ap condition_of is ∙ condition_of-And parts))

  pub Or_numbers : (parts : Vec Cond) (total : Option ℕ) → cond ≡ Or parts → total ≡ with_numbers s (flat_map condition_numbers (map condition_of parts.items))
      → total ≡ with_numbers s (condition_numbers (condition_of cond))
  Or_numbers parts total is told =
      told ∙ ap (with_numbers s) (sym (numbers-disjunction (map condition_of parts.items)))
      ∙ ap (λ (c : Condition). with_numbers s (condition_numbers c)) (sym (ap condition_of is ∙ condition_of-Or parts))

  pub parts_of_And : (parts : Vec Cond) → cond ≡ And parts → IsAsked (condition_of cond) → EachAsked (map condition_of parts.items)
  parts_of_And parts is asked = asked_of_all (map condition_of parts.items) (subst IsAsked (ap condition_of is ∙ condition_of-And parts) asked)

  pub parts_of_Or : (parts : Vec Cond) → cond ≡ Or parts → IsAsked (condition_of cond) → EachAsked (map condition_of parts.items)
  parts_of_Or parts is asked = asked_of_any (map condition_of parts.items) (subst IsAsked (ap condition_of is ∙ condition_of-Or parts) asked)

-- ---- parts, one after another

module _ (parts : List Cond) (i : ℕ) (part : Cond) (here : part ≡ get_or parts i part) (inside : i < length parts) where
  next_parts : map condition_of (drop i parts) ≡ condition_of part ∷ map condition_of (drop (i + 1) parts)
  next_parts = ap (map condition_of) (next_is parts i part here inside)

  pub asked_next : EachAsked (map condition_of (drop i parts)) → IsAsked (condition_of part) × EachAsked (map condition_of (drop (i + 1) parts))
  asked_next asked = subst EachAsked next_parts asked

  pub parts_go_on : (s next total : Option ℕ) → next ≡ with_numbers s (condition_numbers (condition_of part))
      → with_numbers s (flat_map condition_numbers (map condition_of (drop i parts))) ≡ total
      → with_numbers next (flat_map condition_numbers (map condition_of (drop (i + 1) parts))) ≡ total
  parts_go_on s next total is so_far =
      ap (λ (o : Option ℕ). with_numbers o (flat_map condition_numbers (map condition_of (drop (i + 1) parts)))) is
      ∙ sym (numbers-append s (condition_numbers (condition_of part)) (flat_map condition_numbers (map condition_of (drop (i + 1) parts))))
      ∙ ap (λ (cs : List Condition). with_numbers s (flat_map condition_numbers cs)) (sym next_parts) ∙ so_far

pub parts_end : (parts : List Cond) (i : ℕ) (s total : Option ℕ) → length parts ≤ i
    → with_numbers s (flat_map condition_numbers (map condition_of (drop i parts))) ≡ total → s ≡ total
unfolding with_numbers
parts_end parts i s total done so_far =
    let one : with_numbers s (flat_map condition_numbers (map condition_of (drop i parts))) ≡ s = rw (drop_of_length-le parts done) refl in
    sym one ∙ so_far
