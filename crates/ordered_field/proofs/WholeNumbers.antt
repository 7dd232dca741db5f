-- Whole numbers: their lowest terms, and when their sums and products pass a limit.
use Rattle.std.proofs.Common.{◌≡◌, ℕ, ◌*◌, ◌/◌, ◌<◌, ◌≤◌, ℤ, pos, ◌+ℤ◌, ◌*ℤ◌, unsigned_abs, ◌⊎◌, ◌↔◌, inl, inr, sym, ap, subst, ◌∙◌, arith, lit<, mul-one}
use Rattle.std.specs.Int.{◌∣◌}
use Rattle.std.proofs.lemmas.Int.{ints, unsigned_abs-mul}
use Rattle.std.proofs.Math.Nat.{dvd-mul_left, one-dvd, eq-one_of_dvd-one}
use Rattle.std.proofs.lemmas.Nat.Gcd.{dvd_refl}
use Rattle.ordered_field.specs.Rational.{whole}
use Rattle.ordered_field.specs.LowestTerms.{Ratio, InLowestTerms, IsCommonDenominator, numerator_over}
use Rattle.std.specs.Bool.{IsTrue}
use Rattle.std.specs.Ordering.{int_cmp, int_eq}
use Rattle.std.specs.declared.cmp.Ordering.TheVariants.{Less}
use Rattle.ordered_field.specs.Order.{◌<ℚ◌}
use Rattle.ordered_field.specs.Wideness.{Exceeds, SumExceeds, SumIsWide}
use Rattle.ordered_field.proofs.Fractions.{fraction-cross, whole-is_fraction, whole-injective, whole-<ℚ, <ℚ-whole}
use Rattle.std.proofs.lemmas.Bool.Decides.{Decides-int_eq}
use Rattle.std.proofs.lemmas.Cmp.{int_ranked}
use Rattle.std.specs.Cmp.{int_cmp_is}

-- n / 1
abbrev pub over_one : ℤ → Ratio
over_one n = record { num = n; den = 1 }

pub whole-lowest : (n : ℤ) → InLowestTerms (over_one n) (whole n)
whole-lowest n = record { reduced = record { some = lit< tt; coprime = (one-dvd _, dvd_refl 1, λ d _ divides. divides) }; stands = whole-is_fraction n _ }

pub same_ratio : (p q : Ratio) → p.num ≡ q.num → p.den ≡ q.den → p ≡ q
same_ratio p q e f = λ i. record { num = e i; den = f i }

pub lowest_whole : (p : Ratio) (n : ℤ) → InLowestTerms p (whole n) → p ≡ over_one n
lowest_whole p n lowest = same_ratio p (over_one n) same_num same_den
  where
    cross : n *ℤ pos p.den ≡ p.num *ℤ pos 1
    cross = fraction-cross n p.num 1 p.den (lit< tt) lowest.reduced.some (sym (whole-is_fraction n _) ∙ lowest.stands)

    sizes : unsigned_abs n * p.den ≡ unsigned_abs p.num
    sizes = sym (unsigned_abs-mul n (pos p.den)) ∙ ap unsigned_abs cross ∙ unsigned_abs-mul p.num (pos 1) ∙ mul-one _

    same_den : p.den ≡ 1
    same_den =
        eq-one_of_dvd-one (lowest.reduced.coprime.2 p.den (subst (λ k. p.den ∣ k) sizes (dvd-mul_left p.den (unsigned_abs n))) (dvd_refl p.den))

    same_num : p.num ≡ n
    same_num = let scaled : n *ℤ pos 1 ≡ p.num *ℤ pos 1 = rw same_den at cross in omega (arith, ints)

pub least_over_one : (n m : ℤ) → IsCommonDenominator (over_one n) (over_one m) 1
least_over_one n m = (dvd_refl 1, dvd_refl 1, λ k _ divides. one-dvd k)

pub over_one_least : (n m : ℤ) (l : ℕ) → IsCommonDenominator (over_one n) (over_one m) l → l ≡ 1
over_one_least n m l least = eq-one_of_dvd-one (least.2 1 (dvd_refl 1) (dvd_refl 1))

-- ---- sums and products within a limit

numerator_over_one : (n : ℤ) (p : Ratio) (l : ℕ) → p ≡ over_one n → l ≡ 1 → numerator_over l p ≡ n
numerator_over_one n p l e f = ap (λ q. q.num *ℤ pos (l / q.den)) e ∙ ap (λ k. n *ℤ pos (k / 1)) f ∙ (omega (arith, ints))

-- what a sum of whole numbers says of its pairs and its denominator
sum_parts_are : (n m : ℤ) (p q : Ratio) (l : ℕ) → InLowestTerms p (whole n) → InLowestTerms q (whole m) → IsCommonDenominator p q l → l ≡ 1
sum_parts_are n m p q l left right least =
    over_one_least n m l (subst (λ r. IsCommonDenominator (over_one n) r l) (lowest_whole q m right) (subst (λ r. IsCommonDenominator r q l) (lowest_whole p n left) least))

pub whole-sum_kept : (limit : ℕ) (n m : ℤ) → 1 ≤ limit → unsigned_abs n ≤ limit → unsigned_abs m ≤ limit → unsigned_abs (n +ℤ m) ≤ limit → SumIsWide limit (whole n) (whole m) → ⊥
whole-sum_kept limit n m one first second sum wide = by_cause wide.overflows
  where
    over_is : wide.over ≡ 1
    over_is = sum_parts_are n m wide.left wide.right wide.over wide.left_lowest wide.right_lowest wide.least

    left_is : numerator_over wide.over wide.left ≡ n
    left_is = numerator_over_one n wide.left wide.over (lowest_whole wide.left n wide.left_lowest) over_is

    right_is : numerator_over wide.over wide.right ≡ m
    right_is = numerator_over_one m wide.right wide.over (lowest_whole wide.right m wide.right_lowest) over_is

    by_cause : SumExceeds limit wide.left wide.right wide.over → ⊥
    by_cause (inl more) = absurd (omega (arith, over_is))
    by_cause (inr (inl more)) = absurd (omega (arith, ap unsigned_abs left_is))
    by_cause (inr (inr (inl more))) = absurd (omega (arith, ap unsigned_abs right_is))
    by_cause (inr (inr (inr more))) =
        let same : numerator_over wide.over wide.left +ℤ numerator_over wide.over wide.right ≡ n +ℤ m = cc (left_is, right_is) in
        absurd (omega (arith, ap unsigned_abs same))

by_one : (n : ℤ) → n ≡ n *ℤ pos 1
by_one n = omega (arith, ints)

pub whole-sum_wide : (limit : ℕ) (n m : ℤ) → limit < unsigned_abs (n +ℤ m) → SumIsWide limit (whole n) (whole m)
whole-sum_wide limit n m more = record {
  left = over_one n;
  right = over_one m;
  over = 1;
  left_lowest = whole-lowest n;
  right_lowest = whole-lowest m;
  least = least_over_one n m;
  overflows = inr (inr (inr (subst (λ k. limit < unsigned_abs k) (ap (λ k. k +ℤ m) (by_one n) ∙ ap (λ k. n *ℤ pos 1 +ℤ k) (by_one m)) more)));
}

pub whole-kept : (limit : ℕ) (n : ℤ) → 1 ≤ limit → unsigned_abs n ≤ limit → Exceeds limit (whole n) → ⊥
whole-kept limit n one size wide = by_cause wide.overflows
  where
    pair_is : wide.pair ≡ over_one n
    pair_is = lowest_whole wide.pair n wide.lowest

    by_cause : (limit < unsigned_abs wide.pair.num) ⊎ (limit < wide.pair.den) → ⊥
    by_cause (inl more) = absurd (omega (arith, ap (λ p. unsigned_abs p.num) pair_is))
    by_cause (inr more) = absurd (omega (arith, ap (λ p. p.den) pair_is))

pub whole-wide : (limit : ℕ) (n : ℤ) → limit < unsigned_abs n → Exceeds limit (whole n)
whole-wide limit n more = record { pair = over_one n; lowest = whole-lowest n; overflows = inl more }

-- ---- comparing

pub whole-equal : (n m : ℤ) → IsTrue (int_eq n m) ↔ (whole n ≡ whole m)
whole-equal n m =
    (λ e. ap whole ((Decides-int_eq n m).0 e), λ e. (Decides-int_eq n m).1 (whole-injective n m e))

pub whole-below : (n m : ℤ) → (int_cmp n m ≡ Less) ↔ (whole n <ℚ whole m)
whole-below n m = (λ e. whole-<ℚ n m (int_ranked n m Less (sym e)), λ h. sym (int_cmp_is n m Less (<ℚ-whole n m h)))
