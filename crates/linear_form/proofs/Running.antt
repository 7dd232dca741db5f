-- A running sum that is kept to the end is the sum.
use Rattle.std.proofs.Common.{◌≡◌, ℕ, ◌+◌, ◌<◌, ◌≤◌, List, [], ◌∷◌, length, drop, slice_index_or, All, ℤ, pos, ◌+ℤ◌, ◌*ℤ◌, to_z, of_z, Option, Some, None, refl, sym, ◌∙◌, ap, subst, arith, add-one, drop-cons}
use Rattle.std.specs.Int.{w128}
use Rattle.std.specs.Option.{option_and_then}
use Rattle.std.proofs.lemmas.Int.{ints, to_z-of_z, fits_signed_from_abs}
use Rattle.std.proofs.lemmas.List.{drop_all}
use Rattle.whole.specs.Numbers.{IsWithin, fma}
use Rattle.whole.proofs.Overflow.{fma_some}
use Rattle.linear_form.specs.declared.lists.Term.{Term}
use Rattle.linear_form.specs.Sums.{sum_of, running, entry}

pub running_sum : (value : ℕ → ℤ) (sum : ℤ) (ts : List Term) (z : ℤ) → running value sum ts ≡ Some z → z ≡ sum +ℤ sum_of value ts
running_sum value sum [] z e = let same : sum ≡ z = cc in omega (arith, ints)
running_sum value sum (t ∷ ts) z e = by (fma sum t.coef (value t.column)) refl e (λ s. running_sum value s ts z)
  where
    by : (r : Option ℤ) → fma sum t.coef (value t.column) ≡ r → option_and_then (λ s. running value s ts) r ≡ Some z → ((s : ℤ) → running value s ts ≡ Some z → z ≡ s +ℤ sum_of value ts) → z ≡ sum +ℤ (t.coef *ℤ value t.column +ℤ sum_of value ts)
    by None p q more = absurd (cc)
    by (Some s) p q more =
        let step : s ≡ sum +ℤ t.coef *ℤ value t.column = (fma_some sum t.coef (value t.column) s p).0 in
        let rest : z ≡ s +ℤ sum_of value ts = more s q in omega (arith, ints)

-- one term more
running_step : (value : ℕ → ℤ) (ts : List Term) (i : ℕ) (d : Term) (sum next : ℤ) → i < length ts → fma sum (slice_index_or ts i d).coef (value (slice_index_or ts i d).column) ≡ Some next → running value sum (drop i ts) ≡ running value next (drop (i + 1) ts)
running_step value ts i d sum next there e =
    let cut : drop i ts ≡ slice_index_or ts i d ∷ drop (i + 1) ts = rw (add-one, drop-cons ts i d) in
    ap (running value sum) cut ∙ ap (option_and_then (λ s. running value s (drop (i + 1) ts))) e

-- a number that is passed is the number
pub same_bits : (z : ℤ) → IsWithin z → to_z w128 (of_z w128 z) ≡ z
same_bits z small = to_z-of_z w128 z (fits_signed_from_abs w128 z small)

-- what a step of the loop keeps, with the numbers as they are passed
pub loop_step : (values : List ℤ) (ts : List Term) (i : ℕ) (d : Term) (sum next : ℤ) (r : Option ℤ) → i < length ts → All (λ t. t.column < length values) ts → All (λ t. IsWithin t.coef) ts → All IsWithin values → r ≡ fma sum (to_z w128 (of_z w128 (slice_index_or ts i d).coef)) (to_z w128 (of_z w128 (slice_index_or values (slice_index_or ts i d).column (pos 0)))) → r ≡ Some next → IsWithin (to_z w128 (of_z w128 next)) × (running (entry values) sum (drop i ts) ≡ running (entry values) (to_z w128 (of_z w128 next)) (drop (i + 1) ts))
loop_step values ts i d sum next r there columns coefs entries e is =
    let t = slice_index_or ts i d in
    let value = slice_index_or values t.column (pos 0) in
    let coef_is = same_bits t.coef (coefs i d there) in
    let value_is = same_bits value (entries t.column (pos 0) (columns i d there)) in
    let summed : fma sum t.coef value ≡ Some next =
    sym (ap (λ z. fma sum z value) coef_is) ∙ sym (ap (fma sum (to_z w128 (of_z w128 t.coef))) value_is) ∙ sym e ∙ is in
    let fits : IsWithin next =
    let s = fma_some sum t.coef value next summed in subst IsWithin (sym s.0) s.1 in
    let kept = same_bits next fits in (
      subst IsWithin (sym kept) fits,
      running_step (entry values) ts i d sum next there summed ∙ ap (λ z. running (entry values) z (drop (i + 1) ts)) (sym kept),
    )

-- where no term is left, the running sum is the sum
pub loop_end : (value : ℕ → ℤ) (ts us : List Term) (i : ℕ) (sum : ℤ) → length us ≤ i → running value sum (drop i us) ≡ running value (pos 0) ts → sum ≡ sum_of value ts
loop_end value ts us i sum over e =
    let none : drop i us ≡ [] = drop_all i us over in
    let kept : running value (pos 0) ts ≡ Some sum = sym e ∙ ap (running value sum) none in
    running_sum value (pos 0) ts sum kept ∙ omega (arith, ints)
