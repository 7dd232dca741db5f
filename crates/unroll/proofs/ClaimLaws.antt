-- What the formula of a claim means: at any values of the columns it is true exactly where the claim holds of them. So it
-- is true of the values that make a run exactly where the claim holds in that run, and of the values of a run likewise.
use Rattle.std.proofs.Common.{◌≡◌, ℕ, ℤ, pos, ◌+ℤ◌, ◌*ℤ◌, inl, inr, List, [], ◌∷◌, ◌++◌, map, sym, ◌∙◌, ap, subst, arith}
use Rattle.std.specs.Prelude.{All}
use Rattle.std.proofs.lemmas.Int.{ints}
use Rattle.std.proofs.lemmas.List.Elements.{All-cons, All-head, All-nil, All-tail}
use Rattle.whole.proofs.Integers.{+ℤ-*ℤ}
use Rattle.condition_tree.specs.Trees.{Tree, always, never, leaf, opposite, end_of_all, all_of, end_of_any, any_of, Truth}
use Rattle.weighing.specs.Claim.{Claim, Compared, Holds, total}
use Rattle.weighing.specs.Weighed.{Stands}
use Rattle.weighing.specs.declared.weighings.Rel5.{Rel5}
use Rattle.weighing.specs.declared.weighings.Rel5.TheVariants.{AtMost, Below, AtLeast, Above, Equal}
use Rattle.run_rows.specs.Columns.{column_of, value_at}
use Rattle.run_rows.specs.declared.rows.Run.{Run}
use Rattle.run_rows.specs.declared.shapes.Shape.{Shape}
use Rattle.claims.specs.Subjects.{Part, Subject, Symbolic, at, by_values, constant, entry, made, with_values}
use Rattle.claims.specs.Columns.{IsOver, column_value, run_of}
use Rattle.claims.proofs.Made.{claim_made, claim_read}
use Rattle.linear_form.specs.Sums.{sum_of}
use Rattle.linear_form.specs.declared.lists.Term.{Term}
use Rattle.linear_form.specs.declared.relations.Comparison.{Comparison}
use Rattle.linear_form.specs.NormalForm.{Meets}
use Rattle.clause_form.specs.Formulas.{AreTrueAt, IsTrueAt}
use Rattle.path_server.proofs.RuleLaws.{Means}
use Rattle.unroll.specs.Sums.{ColumnSum, no_sum, summed, with_part, with_parts}
use Rattle.unroll.specs.ClaimFormulas.{Standing, alone, in_all, in_any, claim_formula, compared, formula_at, last_part, more_of_all, more_of_any, related}

-- one fact by another
pub through : (P Q R : Type 0) → Means P Q → Means Q R → Means P R
through P Q R first second = (λ p. second.0 (first.0 p), λ r. first.1 (second.1 r))

-- ---- sums

sum_of-append : (value : ℕ → ℤ) (xs ys : List Term) → sum_of value (xs ++ ys) ≡ sum_of value xs +ℤ sum_of value ys
sum_of-append value [] ys = omega (arith, ints)
sum_of-append value (t ∷ xs) ys = let rest = sum_of-append value xs ys in omega (arith, ints)

-- what a sum is worth at these values over one denominator, in units of 1 / den
abbrev pub worth_of : (ℕ → ℤ) → ℕ → ColumnSum → ℤ
worth_of value den sum = sum_of value sum.terms +ℤ sum.constant *ℤ pos den

one_part : (s : Shape) (value : ℕ → ℤ) (den : ℕ) (sum : ColumnSum) (k : ℤ) (of : Subject)
    → worth_of value den (with_part s sum k of) ≡ worth_of value den sum +ℤ k *ℤ column_value s value (pos den) of
one_part s value den sum k constant = let split = +ℤ-*ℤ sum.constant k (pos den) in omega (arith, ints)
one_part s value den sum k (entry e) =
    let split = sum_of-append value sum.terms (record { column = column_of s e; coef = k } ∷ []) in omega (arith, ints)

abbrev total_of : Shape → (ℕ → ℤ) → ℕ → List Part → ℤ
total_of s value den ps = total (map (made (by_values (column_value s value (pos den)))) ps)

parts_worth : (s : Shape) (value : ℕ → ℤ) (den : ℕ) (sum : ColumnSum) (ps : List Part)
    → worth_of value den (with_parts s sum ps) ≡ worth_of value den sum +ℤ total_of s value den ps
parts_worth s value den sum [] = omega (arith, ints)
parts_worth s value den sum (p ∷ ps) =
    let here = one_part s value den sum p.coefficient p.of in
    let rest = parts_worth s value den (with_part s sum p.coefficient p.of) ps in omega (arith, ints)

-- the sum of a claim's parts is the claim's total
pub summed_worth : (s : Shape) (value : ℕ → ℤ) (den : ℕ) (ps : List Part) → worth_of value den (summed s ps) ≡ total_of s value den ps
summed_worth s value den ps =
    let none : pos 0 *ℤ pos den ≡ pos 0 = omega (arith, ints) in
    let all = parts_worth s value den no_sum ps in omega (arith, ints)

-- ---- comparisons

related_means : (value : ℕ → ℤ) (den : ℕ) (sum : ColumnSum) (rel : Rel5) → Means (IsTrueAt value den (related sum rel)) (Stands rel (worth_of value den sum))
related_means value den sum AtMost = (λ h. h, λ h. h)
related_means value den sum Below = (λ h. h, λ h. h)
related_means value den sum AtLeast = (λ h. h, λ h. h)
related_means value den sum Above = (λ h. h, λ h. h)
related_means value den sum Equal = (λ h. omega (arith, ints), λ h. (omega (arith, ints), (omega (arith, ints), tt)))

compared_means : (s : Shape) (value : ℕ → ℤ) (den : ℕ) (c : Compared Part)
    → Means (IsTrueAt value den (compared s c)) (Stands c.rel (total_of s value den c.terms))
compared_means s value den c =
    let law = related_means value den (summed s c.terms) c.rel in
    let same = summed_worth s value den c.terms in
    (λ h. subst (Stands c.rel) same (law.0 h), λ h. law.1 (subst (Stands c.rel) (sym same) h))

-- ---- where a claim stands changes nothing of its meaning

last_means : (m : Comparison → Type 0) (at : Standing) (f : Tree Comparison) → Means (Truth m (last_part at f)) (Truth m f)
last_means m alone f = (λ h. h, λ h. h)
last_means m in_all f = (λ h. h.0, λ h. (h, tt))
last_means m in_any f = (λ h. elim h [ inl one ↦ one | inr none ↦ absurd none ], λ h. inl h)

more_of_all_means : (m : Comparison → Type 0) (at : Standing) (f : Tree Comparison) → Means (Truth m (more_of_all at f)) (Truth m f)
more_of_all_means m alone f = (λ h. h, λ h. h)
more_of_all_means m in_all f = (λ h. h, λ h. h)
more_of_all_means m in_any f = (λ h. elim h [ inl one ↦ one | inr none ↦ absurd none ], λ h. inl h)

more_of_any_means : (m : Comparison → Type 0) (at : Standing) (f : Tree Comparison) → Means (Truth m (more_of_any at f)) (Truth m f)
more_of_any_means m alone f = (λ h. h, λ h. h)
more_of_any_means m in_all f = (λ h. h.0, λ h. (h, tt))
more_of_any_means m in_any f = (λ h. h, λ h. h)

-- ---- the formula of a claim

abbrev HoldsAt : Shape → (ℕ → ℤ) → ℕ → Symbolic → Type 0
HoldsAt s value den c = Holds (with_values (column_value s value (pos den)) c)

formula_at_means : (s : Shape) (value : ℕ → ℤ) (den : ℕ) (at : Standing) (c : Symbolic) → Means (IsTrueAt value den (formula_at s at c)) (HoldsAt s value den c)
formula_at_means s value den at always = last_means (Meets value den) at always
formula_at_means s value den at never = last_means (Meets value den) at never
formula_at_means s value den at (leaf c) =
    through _ _ _ (last_means (Meets value den) at (compared s c)) (compared_means s value den c)
formula_at_means s value den at (opposite c) =
    let inner = formula_at_means s value den alone c in
    let last = last_means (Meets value den) at (opposite (formula_at s alone c)) in
    (λ h. λ held. last.0 h (inner.1 held), λ h. last.1 (λ held. h (inner.0 held)))
formula_at_means s value den at end_of_all = more_of_all_means (Meets value den) at end_of_all
formula_at_means s value den at (all_of c rest) =
    let one = formula_at_means s value den alone c in
    let others = formula_at_means s value den in_all rest in
    let more = more_of_all_means (Meets value den) at (all_of (formula_at s alone c) (formula_at s in_all rest)) in
    (λ h. let both = more.0 h in (one.0 both.0, others.0 both.1), λ h. more.1 (one.1 h.0, others.1 h.1))
formula_at_means s value den at end_of_any = more_of_any_means (Meets value den) at end_of_any
formula_at_means s value den at (any_of c rest) =
    let one = formula_at_means s value den alone c in
    let others = formula_at_means s value den in_any rest in
    let more = more_of_any_means (Meets value den) at (any_of (formula_at s alone c) (formula_at s in_any rest)) in (
      λ h. elim (more.0 h) [ inl first ↦ inl (one.0 first) | inr later ↦ inr (others.0 later) ],
      λ h. more.1 (elim h [ inl first ↦ inl (one.1 first) | inr later ↦ inr (others.1 later) ]),
    )

-- true exactly where the claim holds of the columns' values
pub formula_means : (s : Shape) (value : ℕ → ℤ) (den : ℕ) (c : Symbolic)
    → Means (IsTrueAt value den (claim_formula s c)) (Holds (with_values (column_value s value (pos den)) c))
formula_means s value den c = formula_at_means s value den alone c

-- and so exactly where it holds in the run that these values make
pub formula_made : (s : Shape) (value : ℕ → ℤ) (den : ℕ) (c : Symbolic) → IsOver s c
    → Means (IsTrueAt value den (claim_formula s c)) (Holds (at (run_of s value (pos den)) c))
formula_made s value den c over =
    let law = formula_means s value den c in
    let same = claim_made s value (pos den) c over in
    (λ h. subst Holds (sym same) (law.0 h), λ h. law.1 (subst Holds same h))

-- of the values of a run, exactly where it holds in that run
pub formula_read : (s : Shape) (r : Run) (den : ℕ) (c : Symbolic) → r.over ≡ pos den → IsOver s c
    → Means (IsTrueAt (value_at s r) den (claim_formula s c)) (Holds (at r c))
formula_read s r den c units over =
    let law = formula_means s (value_at s r) den c in
    let same : at r c ≡ with_values (column_value s (value_at s r) (pos den)) c =
    claim_read s r c over ∙ ap (λ n. with_values (column_value s (value_at s r) n) c) units in
    (λ h. subst Holds (sym same) (law.0 h), λ h. law.1 (subst Holds same h))

-- ---- the formulas of claims one after another

pub formulas_mean : (s : Shape) (value : ℕ → ℤ) (den : ℕ) (cs : List Symbolic)
    → Means (AreTrueAt value den (map (claim_formula s) cs)) (All Holds (map (with_values (column_value s value (pos den))) cs))
formulas_mean s value den [] = (λ h. All-nil Holds, λ h. tt)
formulas_mean s value den (c ∷ cs) =
    let one = formula_means s value den c in
    let others = formulas_mean s value den cs in
    let valued : Symbolic → Claim = with_values (column_value s value (pos den)) in (
      λ h. All-cons Holds (valued c) (map valued cs) (one.0 h.0) (others.0 h.1),
      λ h. (one.1 (All-head Holds (valued c) (map valued cs) h), others.1 (All-tail Holds (valued c) (map valued cs) h)),
    )
