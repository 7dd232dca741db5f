use Rattle.std.proofs.Common.{◌≡◌, ◌<◌, ◌≤◌, ◌^◌, ℕ, ℤ, pos, neg_ℤ, ◌-ℤ◌, ◌*ℤ◌, ◌≤ℤ◌, unsigned_abs, Bool, to_z, of_z, sym, ◌∙◌, ap, subst, arith}
use Rattle.std.specs.Int.{w128}
use Rattle.std.proofs.lemmas.Int.{to_z-of_z}
use Rattle.whole.proofs.Integers.{zero-sub_ℤ, unsigned_abs-neg_ℤ}
use Rattle.lowest_terms.specs.Coprime.{IsCoprime}
use Rattle.linear_form.specs.NormalForm.{negated_if, lowest_num, lowest_den}
use Rattle.linear_form.proofs.QuotientSums.{unsigned_abs-negated_if}
use Rattle.linear_form.proofs.Running.{same_bits}
use Rattle.linear_form.proofs.Threshold.{lowest_unique}
use Rattle.linear_form.proofs.normalising.threshold_of.Goals as goal

-- the code's negations lose no bits
over_bits : (negate : Bool) (constant r : ℤ) → unsigned_abs constant < 10 ^ 16 → r ≡ negated_if negate (to_z w128 (of_z w128 constant)) → to_z w128 (of_z w128 (pos 0 -ℤ to_z w128 (of_z w128 r))) ≡ neg_ℤ (negated_if negate constant)
over_bits negate constant r small e =
    let signed : ℤ = negated_if negate constant in
    let is : r ≡ signed = e ∙ ap (negated_if negate) (same_bits constant (omega arith)) in
    let signed_small : unsigned_abs signed < 10 ^ 16 =
    subst (λ n. n < 10 ^ 16) (sym (unsigned_abs-negated_if negate constant)) small in
    let over_small : unsigned_abs (neg_ℤ signed) < 10 ^ 16 =
    subst (λ n. n < 10 ^ 16) (sym (unsigned_abs-neg_ℤ signed)) signed_small in
    let passed : to_z w128 (of_z w128 r) ≡ signed = ap (λ z. to_z w128 (of_z w128 z)) is ∙ same_bits signed (omega arith) in
    ap (λ z. to_z w128 (of_z w128 (pos 0 -ℤ z))) passed ∙ ap (λ z. to_z w128 (of_z w128 z)) (zero-sub_ℤ signed) ∙ same_bits (neg_ℤ signed) (omega arith)

both : (negate : Bool) (constant divisor r num den : ℤ) → unsigned_abs constant < 10 ^ 16 → pos 1 ≤ℤ divisor → to_z w128 (of_z w128 divisor) ≡ divisor → r ≡ negated_if negate (to_z w128 (of_z w128 constant)) → ((n : ℤ) (d : ℕ) → 1 ≤ d → IsCoprime (unsigned_abs n) d → n *ℤ to_z w128 (of_z w128 divisor) ≡ to_z w128 (of_z w128 (pos 0 -ℤ to_z w128 (of_z w128 r))) *ℤ pos d → (n ≡ num) × (pos d ≡ den)) → (num ≡ lowest_num (neg_ℤ (negated_if negate constant)) (unsigned_abs divisor)) × (den ≡ pos (lowest_den (neg_ℤ (negated_if negate constant)) (unsigned_abs divisor)))
both negate constant divisor r num den small some passed e only =
    let Only : ℤ → ℤ → Type 0 =
    λ x over. (n : ℤ) (d : ℕ) → 1 ≤ d → IsCoprime (unsigned_abs n) d → n *ℤ x ≡ over *ℤ pos d → (n ≡ num) × (pos d ≡ den) in
    let over = over_bits negate constant r small e in
    lowest_unique (neg_ℤ (negated_if negate constant)) divisor num den some (subst (Only divisor) over (subst (λ x. Only x (to_z w128 (of_z w128 (pos 0 -ℤ to_z w128 (of_z w128 r))))) passed only))

pub returns-clause-num : goal.returns-clause-num
returns-clause-num c =
    (both c.args.negate c.args.constant c.args.divisor c.negated_if.result _ _ c.requires.constant c.requires.some (to_z-of_z w128 c.args.divisor c.ranges.divisor) c.negated_if.ensures c.reduce.ensures.unique).0

pub returns-clause-den : goal.returns-clause-den
returns-clause-den c =
    (both c.args.negate c.args.constant c.args.divisor c.negated_if.result _ _ c.requires.constant c.requires.some (to_z-of_z w128 c.args.divisor c.ranges.divisor) c.negated_if.ensures c.reduce.ensures.unique).1
