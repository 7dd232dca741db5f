-- Each rational has a denominator, and so have finitely many of them together.
use mathlib.Core.Quot.{lift}
use Rattle.std.proofs.Common.{◌≡◌, ℕ, zero, suc, ◌+◌, ◌-◌, ◌*◌, ◌<◌, ◌≤◌, nat_lt, cond, ◌⊎◌, inl, inr, unsigned_abs, ℤ, pos, neg_ℤ, ◌+ℤ◌, ◌*ℤ◌, sym, ap, ◌∙◌, arith}
use Rattle.std.proofs.lemmas.Bool.{cases_lt, lt-ltb, le-ltb}
use Rattle.std.proofs.lemmas.Int.{ints}
use Rattle.std.proofs.Math.IntN.{ℤ_set, *ℤ_comm}
use Rattle.std.proofs.Math.Nat.{ℕ_set, one-le-mul}
use borrow.Author.Differences.{up, down}
use Rattle.ordered_field.specs.Rational.{Parts, Same, ℚ, point, parts_of, fraction, whole, by_one, by_two, ◌*ℚ◌}
use Rattle.ordered_field.proofs.Fractions.{fraction-cross, fraction-same, fraction-times_den, whole-product}
use Rattle.ordered_field.proofs.Points.{equal_1, equal_3, same_point}
use Rattle.whole.proofs.Integers.{*ℤ_assoc}
use Rattle.whole.specs.Numbers.{gcd_of}
use Rattle.lowest_terms.proofs.Uniqueness.{same_signed_lowest_terms}
use Rattle.linear_form.specs.NormalForm.{lowest_num, lowest_den}
use Rattle.linear_form.proofs.Threshold.{lowest_num-back, lowest_den-back, lowest_den-some, lowest-coprime}

-- the numerator of a quotient
abbrev pub over : Parts → ℤ
over a = pos a.up +ℤ neg_ℤ (pos a.down)

over-parts : (a : Parts) → up (over a) + a.down ≡ a.up + down (over a)
over-parts a = omega (arith, ints)

point-fraction : (a : Parts) → point a ≡ fraction (over a) a.den a.some
unfolding fraction
point-fraction a =
    let e : up (over a) * a.den + a.down * a.den ≡ a.up * a.den + down (over a) * a.den = spread (up (over a)) a.down a.up (down (over a)) a.den (over-parts a) in
    same_point a (parts_of (over a) a.den a.some) (omega arith)
  where
    spread : (x y z w d : ℕ) → x + y ≡ z + w → x * d + y * d ≡ z * d + w * d
    spread x y z w d e = omega (arith, ap (λ n. n * d) e)

-- ---- in lowest terms

abbrev pub lowest_over : Parts → ℤ
lowest_over a = lowest_num (over a) a.den

-- the denominator less 1
abbrev pub lowest_less : Parts → ℕ
lowest_less a = lowest_den (over a) a.den - 1

den_some : (a : Parts) → suc (lowest_less a) ≡ lowest_den (over a) a.den
den_some a = let h = lowest_den-some (over a) a.den a.some in omega arith

cross : (a : Parts) → lowest_over a *ℤ pos a.den ≡ over a *ℤ pos (lowest_den (over a) a.den)
cross a =
    let g : ℕ = gcd_of (unsigned_abs (over a)) a.den in
    let num : lowest_over a *ℤ pos g ≡ over a = lowest_num-back (over a) a.den a.some in
    let den : lowest_den (over a) a.den * g ≡ a.den = lowest_den-back (over a) a.den in
    ap (λ d. lowest_over a *ℤ pos d) (sym den)
    ∙ regroup (lowest_over a) (lowest_den (over a) a.den) g
    ∙ ap (λ z. z *ℤ pos (lowest_den (over a) a.den)) num
  where
    regroup : (n : ℤ) (d g : ℕ) → n *ℤ pos (d * g) ≡ n *ℤ pos g *ℤ pos d
    regroup n d g =
        ap (λ k. n *ℤ k) (*ℤ_comm (pos d) (pos g)) ∙ sym (*ℤ_assoc n (pos g) (pos d))

point-lowest : (a : Parts) → point a *ℚ whole (pos (suc (lowest_less a))) ≡ whole (lowest_over a)
point-lowest a =
    let some : 0 < lowest_den (over a) a.den = lowest_den-some (over a) a.den a.some in
    ap (λ d. point a *ℚ whole (pos d)) (den_some a)
    ∙ ap (λ x. x *ℚ whole (pos (lowest_den (over a) a.den))) (point-fraction a ∙ fraction-same (over a) (lowest_over a) a.den (lowest_den (over a) a.den) a.some some (sym (cross a)))
    ∙ fraction-times_den (lowest_over a) (lowest_den (over a) a.den) some

pub same_lowest : (a b : Parts) → Same a b → (lowest_over a ≡ lowest_over b) × (lowest_den (over a) a.den ≡ lowest_den (over b) b.den)
same_lowest a b same =
    same_signed_lowest_terms (lowest_over a) (lowest_over b) (lowest_den (over a) a.den) (lowest_den (over b) b.den) (lowest_den-some (over a) a.den a.some) (lowest_den-some (over b) b.den b.some) (lowest-coprime (over a) a.den a.some) (lowest-coprime (over b) b.den b.some) crossed
  where
    some_a : 0 < lowest_den (over a) a.den
    some_a = lowest_den-some (over a) a.den a.some

    some_b : 0 < lowest_den (over b) b.den
    some_b = lowest_den-some (over b) b.den b.some

    crossed : lowest_over a *ℤ pos (lowest_den (over b) b.den) ≡ lowest_over b *ℤ pos (lowest_den (over a) a.den)
    crossed = fraction-cross (lowest_over a) (lowest_over b) (lowest_den (over a) a.den) (lowest_den (over b) b.den) some_a some_b (lowest a some_a ∙ same_point a b same ∙ sym (lowest b some_b))
      where
        lowest : (c : Parts) (some : 0 < lowest_den (over c) c.den) → fraction (lowest_over c) (lowest_den (over c) c.den) some ≡ point c
        lowest c some = fraction-same (lowest_over c) (over c) (lowest_den (over c) c.den) c.den some c.some (cross c) ∙ sym (point-fraction c)

-- ---- of a rational

abbrev pub numerator : ℚ → ℤ
numerator x = lift ℤ_set lowest_over (λ a b same. (same_lowest a b same).0) x

abbrev pub denominator_less : ℚ → ℕ
denominator_less x = lift ℕ_set lowest_less (λ a b same. ap (λ d. d - 1) (same_lowest a b same).1) x

abbrev pub denominator : ℚ → ℕ
denominator x = suc (denominator_less x)

pub times_denominator : (x : ℚ) → x *ℚ whole (pos (denominator x)) ≡ whole (numerator x)
times_denominator = equal_1 (λ x. x *ℚ whole (pos (denominator x))) (λ x. whole (numerator x)) (λ a. point-lowest a)

-- ---- of the first of some rationals

-- each of the first n is a whole number over this one
abbrev pub IsOver : (ℕ → ℚ) → ℕ → ℕ → (ℕ → ℤ) → Type 0
IsOver x n d value = (j : ℕ) → j < n → x j *ℚ whole (pos d) ≡ whole (value j)

step_values : ℕ → (ℕ → ℤ) → ℕ → ℕ → ℤ → ℕ → ℤ
step_values n value d e last j = cond (nat_lt j n) (value j *ℤ pos e) (last *ℤ pos d)

regroup : (a b c : ℚ) → a *ℚ (b *ℚ c) ≡ (a *ℚ b) *ℚ c
unfolding ◌*ℚ◌ by_two by_one
regroup = equal_3 (λ a b c. a *ℚ (b *ℚ c)) (λ a b c. (a *ℚ b) *ℚ c) (λ a b c. same_point _ _ (omega arith))

regroup_other : (a b c : ℚ) → a *ℚ (b *ℚ c) ≡ (a *ℚ c) *ℚ b
unfolding ◌*ℚ◌ by_two by_one
regroup_other = equal_3 (λ a b c. a *ℚ (b *ℚ c)) (λ a b c. (a *ℚ c) *ℚ b) (λ a b c. same_point _ _ (omega arith))

step_over : (x : ℕ → ℚ) (n d : ℕ) (value : ℕ → ℤ) → IsOver x n d value → IsOver x (suc n) (d * denominator (x n)) (step_values n value d (denominator (x n)) (numerator (x n)))
unfolding step_values
step_over x n d value is j below = by (cases_lt j n)
  where
    by : (j < n) ⊎ (n ≤ j) → x j *ℚ whole (pos (d * denominator (x n))) ≡ whole (cond (nat_lt j n) (value j *ℤ pos (denominator (x n))) (numerator (x n) *ℤ pos d))
    by (inl less) =
        ap (λ y. x j *ℚ y) (whole-product (pos d) (pos (denominator (x n))))
        ∙ regroup (x j) (whole (pos d)) (whole (pos (denominator (x n))))
        ∙ ap (λ y. y *ℚ whole (pos (denominator (x n)))) (is j less)
        ∙ sym (whole-product (value j) (pos (denominator (x n))))
        ∙ ap (λ b. whole (cond b (value j *ℤ pos (denominator (x n))) (numerator (x n) *ℤ pos d))) (sym (lt-ltb j n less))
    by (inr most) =
        let same : j ≡ n = omega arith in
        ap (λ y. x j *ℚ y) (whole-product (pos d) (pos (denominator (x n))))
        ∙ regroup_other (x j) (whole (pos d)) (whole (pos (denominator (x n))))
        ∙ ap (λ y. y *ℚ whole (pos d)) (ap (λ k. x k *ℚ whole (pos (denominator (x n)))) same ∙ times_denominator (x n))
        ∙ sym (whole-product (numerator (x n)) (pos d))
        ∙ ap (λ b. whole (cond b (value j *ℤ pos (denominator (x n))) (numerator (x n) *ℤ pos d))) (sym (le-ltb j n most))

pub common_over : (x : ℕ → ℚ) (n : ℕ) → (d : ℕ) × ((0 < d) × ((value : ℕ → ℤ) × IsOver x n d value))
common_over x zero = (1, (omega arith, ((λ j. pos 0), λ j below. absurd (omega arith))))
common_over x (suc n) =
    let rest = common_over x n in (
      rest.0 * denominator (x n),
      (
        one-le-mul rest.1.0 (omega arith),
        (
          step_values n rest.1.1.0 rest.0 (denominator (x n)) (numerator (x n)),
          step_over x n rest.0 rest.1.1.0 rest.1.1.1,
        ),
      ),
    )
