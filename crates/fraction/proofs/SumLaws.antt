-- The sum of two fractions over the least common denominator: m over x * g and n over y * g, with x and y coprime
use Rattle.std.proofs.Common.{refl, Bool, true, false, cond, ltb, ltb-true, ltb-false, ◌-◌, ◌≡◌, ℕ, suc, ◌+◌, ◌*◌, ◌/◌, ◌<◌, ◌≤◌, ℤ, pos, negsuc, ◌+ℤ◌, ◌*ℤ◌, unsigned_abs, ◌⊎◌, inl, inr, ap, ap₂, sym, ◌∙◌, subst, subst₂, arith, mul-div_cancel, mul-pos, mul_comm}
use Rattle.std.proofs.Math.Nat.{dvd-add, dvd-add_iff_left, dvd-add_iff_right, dvd-mul_left_of_dvd, dvd-mul_left, dvd-mul_right, dvd_trans, mul-dvd-mul_left, one-dvd}
use Rattle.std.proofs.lemmas.Int.{ints, unsigned_abs-mul}
use Rattle.std.proofs.Math.IntN.{sub_ℕ}
use Rattle.std.specs.Int.{◌∣◌}
use borrow.Author.Differences.{up, down}
use Rattle.ordered_field.specs.Rational.{fraction, ◌+ℚ◌, by_one, by_two, Same, sum_parts, parts_of}
use Rattle.ordered_field.proofs.Points.{same_point}
use Rattle.ordered_field.proofs.Fractions.{fraction-same}
use Rattle.whole.proofs.Integers.{*ℤ_assoc}
use Rattle.ordered_field.specs.LowestTerms.{IsCommonDenominator}
use Rattle.ordered_field.specs.Wideness.{SumExceeds}
use Rattle.lowest_terms.specs.Coprime.{IsCoprime}
use Rattle.lowest_terms.proofs.CoprimeLaws.{dvd_from_coprime, dvd-lcm_of_parts, IsCoprime-divisor, IsCoprime-swap}
use Rattle.fraction.specs.Sums.{SumOverflows}

difference_size : (a b : ℕ) → (a ≡ unsigned_abs (sub_ℕ a b) + b) ⊎ (b ≡ unsigned_abs (sub_ℕ a b) + a)
difference_size a b = by (ltb a b) refl
  where
    by : (t : Bool) → ltb a b ≡ t → (a ≡ unsigned_abs (cond t (negsuc (b - suc a)) (pos (a - b))) + b) ⊎ (b ≡ unsigned_abs (cond t (negsuc (b - suc a)) (pos (a - b))) + a)
    by true e = inr (let less : a < b = ltb-true a b e in omega arith)
    by false e = inl (let more : b ≤ a = ltb-false a b e in omega arith)

-- the sizes of two numbers and of their sum: signs agree, or one of the two outweighs the other
sizes_of_sum : (a b : ℤ) → (unsigned_abs a + unsigned_abs b ≡ unsigned_abs (a +ℤ b)) ⊎ ((unsigned_abs a ≡ unsigned_abs (a +ℤ b) + unsigned_abs b) ⊎ (unsigned_abs b ≡ unsigned_abs (a +ℤ b) + unsigned_abs a))
sizes_of_sum (pos a) (pos b) = inl refl
sizes_of_sum (pos a) (negsuc b) = inr (difference_size a (suc b))
sizes_of_sum (negsuc a) (pos b) = inr (elim (difference_size b (suc a)) [ inl e ↦ inr e | inr e ↦ inl e ])
sizes_of_sum (negsuc a) (negsuc b) = inl (omega arith)

dvd_by_sizes : (k s a b : ℕ) → k ∣ s → k ∣ b → (a + b ≡ s) ⊎ ((a ≡ s + b) ⊎ (b ≡ s + a)) → k ∣ a
dvd_by_sizes k s a b p q (inl e) = (dvd-add_iff_left k q).1 (subst (λ n. k ∣ n) (sym e) p)
dvd_by_sizes k s a b p q (inr (inl e)) = subst (λ n. k ∣ n) (sym e) (dvd-add k p q)
dvd_by_sizes k s a b p q (inr (inr e)) = (dvd-add_iff_right k p).1 (subst (λ n. k ∣ n) e q)

-- what divides a sum and one of its terms divides the other
pub dvd-other_term : (k : ℕ) (a b : ℤ) → k ∣ unsigned_abs (a +ℤ b) → k ∣ unsigned_abs b → k ∣ unsigned_abs a
dvd-other_term k a b p q = dvd_by_sizes k (unsigned_abs (a +ℤ b)) (unsigned_abs a) (unsigned_abs b) p q (sizes_of_sum a b)

-- a number over x * g times y, plus a multiple of x, shares no divisor with x
pub sum_coprime : (m n : ℤ) (x y g : ℕ) → IsCoprime x y → IsCoprime (unsigned_abs m) (x * g) → IsCoprime (unsigned_abs (m *ℤ pos y +ℤ n *ℤ pos x)) x
sum_coprime m n x y g apart lowest = (
  one-dvd _,
  one-dvd x,
  λ k p q.
      let term : k ∣ unsigned_abs (n *ℤ pos x) = subst (λ t. k ∣ t) (sym (unsigned_abs-mul n (pos x))) (dvd-mul_left_of_dvd k q (unsigned_abs n)) in
      let other : k ∣ unsigned_abs (m *ℤ pos y) = dvd-other_term k (m *ℤ pos y) (n *ℤ pos x) p term in
      let product : k ∣ y * unsigned_abs m = subst (λ t. k ∣ t) (unsigned_abs-mul m (pos y) ∙ mul_comm (unsigned_abs m) y) other in
      let factor : k ∣ unsigned_abs m = dvd_from_coprime k y (unsigned_abs m) (IsCoprime-divisor x y k q apart) product in
      lowest.2 k factor (dvd_trans k q (dvd-mul_right x g)),
)

module _ (x y g : ℕ) (px : 0 < x) (py : 0 < y) (pg : 0 < g) (apart : IsCoprime x y) where
  pub common_denominator : (m n : ℤ) → IsCommonDenominator (record { num = m; den = x * g }) (record { num = n; den = y * g }) (x * (y * g))
  common_denominator m n = (
    mul-dvd-mul_left g x (dvd-mul_left g y),
    dvd-mul_left (y * g) x,
    λ k p q. dvd-lcm_of_parts x y g k pg (IsCoprime-swap x y apart) p q,
  )

  pub left_part : x * (y * g) / (x * g) ≡ y
  left_part = ap (λ n. n / (x * g)) (omega arith) ∙ mul-div_cancel y (mul-pos px pg)

  pub right_part : x * (y * g) / (y * g) ≡ x
  right_part = mul-div_cancel x (mul-pos py pg)

  pub overflows_from_exceeds : (limit : ℕ) (m n : ℤ) → SumExceeds limit (record { num = m; den = x * g }) (record { num = n; den = y * g }) (x * (y * g)) → SumOverflows limit m n (pos x) (pos y) (pos (y * g))
  overflows_from_exceeds limit m n h =
      subst₂ (λ a b. (limit < x * (y * g)) ⊎ (limit < unsigned_abs (m *ℤ pos a)) ⊎ (limit < unsigned_abs (n *ℤ pos b)) ⊎ (limit < unsigned_abs (m *ℤ pos a +ℤ n *ℤ pos b))) left_part right_part h

  pub exceeds_from_overflows : (limit : ℕ) (m n : ℤ) → SumOverflows limit m n (pos x) (pos y) (pos (y * g)) → SumExceeds limit (record { num = m; den = x * g }) (record { num = n; den = y * g }) (x * (y * g))
  exceeds_from_overflows limit m n h =
      subst₂ (λ a b. (limit < x * (y * g)) ⊎ (limit < unsigned_abs (m *ℤ pos a)) ⊎ (limit < unsigned_abs (n *ℤ pos b)) ⊎ (limit < unsigned_abs (m *ℤ pos a +ℤ n *ℤ pos b))) (sym left_part) (sym right_part) h

-- ---- the value

-- two fractions over one denominator
pub fraction-sum_over : (n m : ℤ) (d : ℕ) (some : 0 < d) → fraction n d some +ℚ fraction m d some ≡ fraction (n +ℤ m) d some
unfolding fraction ◌+ℚ◌ by_two by_one
fraction-sum_over n m d some = same_point _ _ (over (omega (arith, ints)))
  where
    over : (up n + up m) + down (n +ℤ m) ≡ up (n +ℤ m) + (down n + down m) → Same (sum_parts (parts_of n d some) (parts_of m d some)) (parts_of (n +ℤ m) d some)
    over h = omega (arith, ap (λ k. k * (d * d)) h)

-- n / d is n * k over a denominator that is d * k
brought : (n : ℤ) (d k l : ℕ) (some : 0 < d) (both : 0 < l) → k * d ≡ l → fraction n d some ≡ fraction (n *ℤ pos k) l both
brought n d k l some both e =
    fraction-same n (n *ℤ pos k) d l some both (ap (λ j. n *ℤ pos j) (sym e) ∙ sym (*ℤ_assoc n (pos k) (pos d)))

pub sum_value : (m n : ℤ) (x y g : ℕ) (left : 0 < x * g) (right : 0 < y * g) (both : 0 < x * (y * g)) → fraction m (x * g) left +ℚ fraction n (y * g) right ≡ fraction (m *ℤ pos y +ℤ n *ℤ pos x) (x * (y * g)) both
sum_value m n x y g left right both =
    ap₂ (λ v w. v +ℚ w) (brought m (x * g) y (x * (y * g)) left both (omega arith)) (brought n (y * g) x (x * (y * g)) right both refl)
    ∙ fraction-sum_over (m *ℤ pos y) (n *ℤ pos x) (x * (y * g)) both
