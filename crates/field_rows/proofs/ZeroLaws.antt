-- Sums and products with zero pass no limit that the other number is within.
use Rattle.std.proofs.Common.{◌≡◌, ℕ, ◌/◌, ◌<◌, ◌≤◌, ◌⊎◌, inl, inr, ℤ, pos, ◌*ℤ◌, ◌+ℤ◌, unsigned_abs, sym, ap, subst, ◌∙◌, arith}
use Rattle.std.specs.Int.{◌∣◌}
use Rattle.std.proofs.lemmas.Int.{ints}
use Rattle.std.proofs.Math.Nat.{one-dvd, div_self}
use Rattle.std.proofs.lemmas.Nat.Gcd.{dvd_refl, dvd_antisymm}
use Rattle.ordered_field.specs.Rational.{ℚ, whole}
use Rattle.ordered_field.specs.LowestTerms.{Ratio, InLowestTerms, IsCommonDenominator, numerator_over}
use Rattle.ordered_field.specs.Wideness.{IsWithin, Exceeds, SumIsWide}
use Rattle.ordered_field.proofs.RingLaws.{zero-*ℚ, *ℚ-zero}
use Rattle.ordered_field.proofs.WholeNumbers.{over_one, lowest_whole, whole-lowest, whole-kept}
use Rattle.fraction.proofs.Pairs.{exceeds_not}
use Rattle.field_rows.specs.Zeros.{ZeroFits}

-- the least common denominator with a whole number is the other number's denominator
over_with_one : (p q : Ratio) (l : ℕ) → p.den ≡ 1 → IsCommonDenominator p q l → l ≡ q.den
over_with_one p q l one least =
    dvd_antisymm (least.2 q.den (subst (λ d. d ∣ q.den) (sym one) (one-dvd q.den)) (dvd_refl q.den)) least.1

-- brought to its own denominator, a numerator stays
own_numerator : (q : Ratio) (l : ℕ) → 0 < q.den → l ≡ q.den → numerator_over l q ≡ q.num
own_numerator q l some same =
    ap (λ k. q.num *ℤ pos (k / q.den)) same ∙ ap (λ k. q.num *ℤ pos k) (div_self some) ∙ (omega (arith, ints))

zero_numerator : (p : Ratio) (l : ℕ) → p.num ≡ pos 0 → numerator_over l p ≡ pos 0
zero_numerator p l none = ap (λ n. n *ℤ pos (l / p.den)) none ∙ (omega (arith, ints))

-- what overflows where zero is brought to the other number's denominator
overflows_alone : (limit : ℕ) (q : Ratio) (z n s : ℤ) (l : ℕ) → z ≡ pos 0 → n ≡ q.num → s ≡ q.num → l ≡ q.den → (limit < l) ⊎ (limit < unsigned_abs z) ⊎ (limit < unsigned_abs n) ⊎ (limit < unsigned_abs s) → (limit < unsigned_abs q.num) ⊎ (limit < q.den)
overflows_alone limit q z n s l zero same sum over (inl h) = inr (omega arith)
overflows_alone limit q z n s l zero same sum over (inr (inl h)) =
    let none : unsigned_abs z ≡ 0 = ap unsigned_abs zero in absurd (omega arith)
overflows_alone limit q z n s l zero same sum over (inr (inr (inl h))) = inl (subst (λ k. limit < unsigned_abs k) same h)
overflows_alone limit q z n s l zero same sum over (inr (inr (inr h))) = inl (subst (λ k. limit < unsigned_abs k) sum h)

zero_sum : (limit : ℕ) (x : ℚ) → SumIsWide limit (whole (pos 0)) x → Exceeds limit x
zero_sum limit x wide = record { pair = wide.right; lowest = wide.right_lowest; overflows = overflows_alone limit wide.right _ _ _ wide.over zero own sum over wide.overflows }
  where
    left : wide.left ≡ over_one (pos 0)
    left = lowest_whole wide.left (pos 0) wide.left_lowest

    over : wide.over ≡ wide.right.den
    over = over_with_one wide.left wide.right wide.over (ap (λ p. p.den) left) wide.least

    zero : numerator_over wide.over wide.left ≡ pos 0
    zero = zero_numerator wide.left wide.over (ap (λ p. p.num) left)

    own : numerator_over wide.over wide.right ≡ wide.right.num
    own = own_numerator wide.right wide.over wide.right_lowest.reduced.some over

    sum : numerator_over wide.over wide.left +ℤ numerator_over wide.over wide.right ≡ wide.right.num
    sum = ap (λ n. n +ℤ numerator_over wide.over wide.right) zero ∙ ap (λ n. pos 0 +ℤ n) own ∙ (omega (arith, ints))

swapped : (limit : ℕ) (a b : ℤ) (l : ℕ) → (limit < l) ⊎ (limit < unsigned_abs a) ⊎ (limit < unsigned_abs b) ⊎ (limit < unsigned_abs (a +ℤ b)) → (limit < l) ⊎ (limit < unsigned_abs b) ⊎ (limit < unsigned_abs a) ⊎ (limit < unsigned_abs (b +ℤ a))
swapped limit a b l (inl h) = inl h
swapped limit a b l (inr (inl h)) = inr (inr (inl h))
swapped limit a b l (inr (inr (inl h))) = inr (inl h)
swapped limit a b l (inr (inr (inr h))) =
    let same : a +ℤ b ≡ b +ℤ a = omega (arith, ints) in inr (inr (inr (subst (λ n. limit < unsigned_abs n) same h)))

SumIsWide-swap : (limit : ℕ) (x y : ℚ) → SumIsWide limit x y → SumIsWide limit y x
SumIsWide-swap limit x y wide = record {
  left = wide.right;
  right = wide.left;
  over = wide.over;
  left_lowest = wide.right_lowest;
  right_lowest = wide.left_lowest;
  least = (wide.least.1, wide.least.0, λ m a b. wide.least.2 m b a);
  overflows = swapped limit (numerator_over wide.over wide.left) (numerator_over wide.over wide.right) wide.over wide.overflows;
}

pub zero_exceeds_not : (limit : ℕ) → 1 ≤ limit → Exceeds limit (whole (pos 0)) → ⊥
zero_exceeds_not limit some wide = whole-kept limit (pos 0) some (omega arith) wide

pub zero_fits : (limit : ℕ) (p : Ratio) (x : ℚ) → 1 ≤ limit → InLowestTerms p x → IsWithin limit p → ZeroFits limit x
zero_fits limit p x some lowest within = record {
  left_sum = λ wide. exceeds_not limit p x lowest within.num within.den (zero_sum limit x wide);
  right_sum = λ wide. exceeds_not limit p x lowest within.num within.den (zero_sum limit x (SumIsWide-swap limit x _ wide));
  left_product = λ wide. zero_exceeds_not limit some (subst (λ v. Exceeds limit v) (zero-*ℚ x) wide);
  right_product = λ wide. zero_exceeds_not limit some (subst (λ v. Exceeds limit v) (*ℚ-zero x) wide);
}

pub zero_itself_fits : (limit : ℕ) → 1 ≤ limit → ZeroFits limit (whole (pos 0))
zero_itself_fits limit some =
    zero_fits limit (over_one (pos 0)) (whole (pos 0)) some (whole-lowest (pos 0)) (record { num = omega arith; den = some })
