-- The formulas of conjunctions and disjunctions of claims, and of claims one after another.
use Rattle.std.proofs.Common.{◌≡◌, ℕ, suc, ◌+◌, List, [], ◌∷◌, ◌++◌, map, refl, sym, ◌∙◌, ap, arith}
use Rattle.std.proofs.lemmas.List.{append_assoc, map-append}
use Rattle.condition_tree.specs.Trees.{Tree, all_of, any_of, conjunction, disjunction, with_leaves}
use Rattle.claims.specs.Subjects.{Symbolic, each_flow}
use Rattle.run_rows.specs.declared.shapes.Shape.{Shape}
use Rattle.linear_form.specs.declared.relations.Comparison.{Comparison}
use Rattle.clause_form.specs.declared.formulas.Formula.{Formula}
use Rattle.unroll.specs.ClaimFormulas.{Adds, claim_formula, claim_formulas, formula_at, in_all, in_any, trees}

-- ---- conjunctions and disjunctions

rest_of_all : (s : Shape) (cs : List Symbolic) → formula_at s in_all (conjunction cs) ≡ conjunction (claim_formulas s cs)
rest_of_all s [] = refl
rest_of_all s (c ∷ cs) = ap (all_of (claim_formula s c)) (rest_of_all s cs)

rest_of_any : (s : Shape) (cs : List Symbolic) → formula_at s in_any (disjunction cs) ≡ disjunction (claim_formulas s cs)
rest_of_any s [] = refl
rest_of_any s (c ∷ cs) = ap (any_of (claim_formula s c)) (rest_of_any s cs)

conjunction_formula : (s : Shape) (cs : List Symbolic) → claim_formula s (conjunction cs) ≡ conjunction (claim_formulas s cs)
conjunction_formula s [] = refl
conjunction_formula s (c ∷ cs) = ap (all_of (claim_formula s c)) (rest_of_all s cs)

disjunction_formula : (s : Shape) (cs : List Symbolic) → claim_formula s (disjunction cs) ≡ disjunction (claim_formulas s cs)
disjunction_formula s [] = refl
disjunction_formula s (c ∷ cs) = ap (any_of (claim_formula s c)) (rest_of_any s cs)

thrice : {A B C D : Type 0} (f : C → D) (g : B → C) (h : A → B) (xs : List A) → map f (map g (map h xs)) ≡ map (λ x. f (g (h x))) xs
thrice f g h [] = refl
thrice f g h (x ∷ xs) = ap (λ ys. f (g (h x)) ∷ ys) (thrice f g h xs)

-- the formulas of conditions, made leaf by leaf
pub conjunction_made : {L X : Type 0} (s : Shape) (claim : Tree L → Symbolic) (tree : X → Tree L)
    → ((cs : List (Tree L)) → claim (conjunction cs) ≡ conjunction (map claim cs)) → (xs : List X)
    → claim_formula s (claim (conjunction (map tree xs))) ≡ conjunction (map (λ x. claim_formula s (claim (tree x))) xs)
conjunction_made s claim tree splits xs =
    ap (claim_formula s) (splits (map tree xs)) ∙ conjunction_formula s (map claim (map tree xs)) ∙ ap conjunction (thrice (claim_formula s) claim tree xs)

pub disjunction_made : {L X : Type 0} (s : Shape) (claim : Tree L → Symbolic) (tree : X → Tree L)
    → ((cs : List (Tree L)) → claim (disjunction cs) ≡ disjunction (map claim cs)) → (xs : List X)
    → claim_formula s (claim (disjunction (map tree xs))) ≡ disjunction (map (λ x. claim_formula s (claim (tree x))) xs)
disjunction_made s claim tree splits xs =
    ap (claim_formula s) (splits (map tree xs)) ∙ disjunction_formula s (map claim (map tree xs)) ∙ ap disjunction (thrice (claim_formula s) claim tree xs)

pub all_with : {L M : Type 0} (f : L → M) (cs : List (Tree L)) → with_leaves f (conjunction cs) ≡ conjunction (map (with_leaves f) cs)
all_with f [] = refl
all_with f (c ∷ cs) = ap (all_of (with_leaves f c)) (all_with f cs)

pub any_with : {L M : Type 0} (f : L → M) (cs : List (Tree L)) → with_leaves f (disjunction cs) ≡ disjunction (map (with_leaves f) cs)
any_with f [] = refl
any_with f (c ∷ cs) = ap (any_of (with_leaves f c)) (any_with f cs)

-- ---- formulas one after another

-- claims after those before
adds_joined : (s : Shape) (start before after : List Formula) (cs ds : List Symbolic) → Adds s start cs before → Adds s before ds after → Adds s start (cs ++ ds) after
adds_joined s start before after cs ds so_far more =
    more ∙ ap (λ ts. ts ++ claim_formulas s ds) so_far ∙ append_assoc (trees start) (claim_formulas s cs) (claim_formulas s ds)
    ∙ ap (λ ts. trees start ++ ts) (sym (map-append (claim_formula s) cs ds))

-- the claims of the next flow come after those before
pub adds_flow : (s : Shape) (start before after : List Formula) (claims : ℕ → List Symbolic) (n : ℕ)
    → Adds s start (each_flow claims n) before → Adds s before (claims (n + 1)) after → Adds s start (each_flow claims (n + 1)) after
adds_flow s start before after claims n so_far more =
    let next : n + 1 ≡ suc n = omega arith in
    adds_joined s start before after (each_flow claims n) (claims (n + 1)) so_far more
    ∙ ap (λ k. trees start ++ claim_formulas s (each_flow claims n ++ claims k)) next
    ∙ ap (λ k. trees start ++ claim_formulas s (each_flow claims k)) (sym next)

-- ---- wholes

pub conjunction_is : (s : Shape) (cs : List Symbolic) (ts : List (Tree Comparison)) → ts ≡ claim_formulas s cs → conjunction ts ≡ claim_formula s (conjunction cs)
conjunction_is s cs ts is = ap conjunction is ∙ sym (conjunction_formula s cs)

pub one_more_claim : (s : Shape) (cs : List Symbolic) (c : Symbolic) (ts us : List (Tree Comparison)) (t : Tree Comparison)
    → ts ≡ claim_formulas s cs → us ≡ ts ++ t ∷ [] → t ≡ claim_formula s c → us ≡ claim_formulas s (cs ++ c ∷ [])
one_more_claim s cs c ts us t is more here =
    more ∙ ap (λ vs. vs ++ t ∷ []) is ∙ ap (λ u. claim_formulas s cs ++ u ∷ []) here ∙ sym (map-append (claim_formula s) cs (c ∷ []))

-- the formulas of claims that are made of other things
pub claims_once : {X : Type 0} (s : Shape) (claim : X → Symbolic) (xs : List X) → map (λ x. claim_formula s (claim x)) xs ≡ claim_formulas s (map claim xs)
claims_once s claim [] = refl
claims_once s claim (x ∷ xs) = ap (λ ts. claim_formula s (claim x) ∷ ts) (claims_once s claim xs)
