-- The size of a scaled number, as the code forms it.
use Rattle.std.proofs.Common.{◌≡◌, ℕ, ◌*◌, ◌/◌, ◌≤◌, ℤ, pos, neg_ℤ, ◌-ℤ◌, ◌*ℤ◌, ◌≤ℤ◌, unsigned_abs, refl, ◌∙◌, ap, sym, subst, arith, to_z, of_z}
use Rattle.std.specs.Int.{◌∣◌}
use Rattle.std.proofs.Math.Nat.{div-mul_cancel, mul-le-mul_left, mul-le-mul_right, div-le_self}
use Rattle.std.proofs.lemmas.Int.{ints}
use Rattle.std.proofs.lemmas.Int.{to_z-of_z, to_z_pos, fits_signed_from_abs, unsigned_abs-mul}
use Rattle.std.specs.Int.{w128}
use Rattle.whole.proofs.Integers.{*ℤ_assoc, neg_ℤ-*ℤ, unsigned_abs-neg_ℤ, zero-sub_ℤ}

-- a number as it was passed
abbrev given : ℤ → ℤ
given z = to_z w128 (of_z w128 z)

given_is : (z : ℤ) → unsigned_abs z ≤ 1000000000000 → given z ≡ z
given_is z small = to_z-of_z w128 z (fits_signed_from_abs w128 z (omega arith))

product_size : (n : ℤ) (q : ℕ) → unsigned_abs n ≤ 1000000 → q ≤ 1000000 → unsigned_abs (n *ℤ pos q) ≤ 1000000000000
product_size n q small few =
    rw (unsigned_abs-mul n (pos q)) (omega (arith, mul-le-mul_left (unsigned_abs n) few, mul-le-mul_right 1000000 small))

kept_size : (z : ℤ) → unsigned_abs z ≤ 1000000000000 → unsigned_abs (given z) ≤ 1000000000000
kept_size z small = rw (given_is z small) small

-- the product as the code forms it
formed : (n : ℤ) (q : ℕ) → unsigned_abs n ≤ 1000000 → q ≤ 1000000 → given (given n *ℤ to_z w128 q) ≡ n *ℤ pos q
formed n q small few =
    ap (λ z. given (z *ℤ to_z w128 q)) (given_is n (omega arith))
    ∙ ap (λ z. given (n *ℤ z)) (to_z_pos w128 q (omega arith))
    ∙ given_is (n *ℤ pos q) (product_size n q small few)

pub left_size : (n : ℤ) (q : ℕ) → unsigned_abs n ≤ 1000000 → q ≤ 1000000
    → unsigned_abs (given (given n *ℤ to_z w128 q)) ≤ 1000000000000
left_size n q small few =
    subst (λ z. unsigned_abs z ≤ 1000000000000) (sym (formed n q small few)) (product_size n q small few)

pub right_size : (n : ℤ) (q : ℕ) → unsigned_abs n ≤ 1000000 → q ≤ 1000000
    → unsigned_abs (given (pos 0 -ℤ given (given n *ℤ to_z w128 q))) ≤ 1000000000000
right_size n q small few =
    let turned : unsigned_abs (pos 0 -ℤ given (given n *ℤ to_z w128 q)) ≤ 1000000000000 =
    rw (zero-sub_ℤ (given (given n *ℤ to_z w128 q)), unsigned_abs-neg_ℤ (given (given n *ℤ to_z w128 q))) (left_size n q small few) in
    kept_size (pos 0 -ℤ given (given n *ℤ to_z w128 q)) turned

pub times_to : (u d s : ℕ) → u ≡ s → s ≤ 1000000 → u / d ≤ 1000000
times_to u d s is few = omega (arith, div-le_self u d)

-- ---- a scaled number times its denominator is the number's numerator times the scale

its_size : (d : ℤ) → pos 1 ≤ℤ d → d ≡ pos (unsigned_abs d)
its_size d some = omega (arith, ints)

parts_of : (q e s : ℕ) → q * e ≡ s → pos q *ℤ pos e ≡ pos s
parts_of q e s is = omega (arith, ints, is)

cleared : (n d : ℤ) (u e s : ℕ) → pos 1 ≤ℤ d → u ≡ s → e ≡ unsigned_abs d → unsigned_abs d ∣ s → n *ℤ pos (u / e) *ℤ d ≡ n *ℤ pos s
cleared n d u e s some u_is e_is divides =
    ap (λ v. n *ℤ pos (v / e) *ℤ d) u_is
    ∙ ap (λ v. n *ℤ pos (s / v) *ℤ d) e_is
    ∙ ap (λ v. n *ℤ pos (s / unsigned_abs d) *ℤ v) (its_size d some)
    ∙ *ℤ_assoc n (pos (s / unsigned_abs d)) (pos (unsigned_abs d))
    ∙ ap (λ v. n *ℤ v) (parts_of (s / unsigned_abs d) (unsigned_abs d) s (div-mul_cancel (unsigned_abs d) divides))

-- the denominator's size as the code takes it
given_size : (d : ℤ) (e : ℕ) → pos 1 ≤ℤ d → d ≤ℤ pos 1000 → e ≡ unsigned_abs (given d) → e ≡ unsigned_abs d
given_size d e from to is = is ∙ ap unsigned_abs (given_is d (omega (arith, ints, from, to)))

module _ (n d : ℤ) (u e s : ℕ) (small : unsigned_abs n ≤ 1000000) (from : pos 1 ≤ℤ d) (to : d ≤ℤ pos 1000) (u_is : u ≡ s)
    (e_is : e ≡ unsigned_abs (given d)) (few : s ≤ 1000000) (divides : unsigned_abs d ∣ s) where
  pub left_cleared : given (given n *ℤ to_z w128 (u / e)) *ℤ d ≡ n *ℤ pos s
  left_cleared =
      ap (λ z. z *ℤ d) (formed n (u / e) small (times_to u e s u_is few))
      ∙ cleared n d u e s from u_is (given_size d e from to e_is) divides

  pub right_cleared : given (pos 0 -ℤ given (given n *ℤ to_z w128 (u / e))) *ℤ d ≡ neg_ℤ (n *ℤ pos s)
  right_cleared =
      let z : ℤ = given (given n *ℤ to_z w128 (u / e)) in
      let size : unsigned_abs (pos 0 -ℤ z) ≤ 1000000000000 =
      rw (zero-sub_ℤ z, unsigned_abs-neg_ℤ z) (left_size n (u / e) small (times_to u e s u_is few)) in
      ap (λ y. y *ℤ d) (given_is (pos 0 -ℤ z) size ∙ zero-sub_ℤ z) ∙ neg_ℤ-*ℤ z d ∙ ap neg_ℤ left_cleared
