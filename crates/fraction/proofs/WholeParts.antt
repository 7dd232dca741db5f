-- Sums and products of whole numbers, as fractions over 1
use Rattle.std.proofs.Common.{◌≡◌, ℕ, ◌≤◌, ℤ, pos, ◌+ℤ◌, ◌*ℤ◌, ◌≤ℤ◌, unsigned_abs, refl, ap₂, sym, ◌∙◌, subst₂, arith}
use Rattle.std.proofs.lemmas.Int.{ints}
use Rattle.ordered_field.specs.Rational.{whole, ◌+ℚ◌, ◌*ℚ◌}
use Rattle.ordered_field.specs.Wideness.{SumIsWide}
use Rattle.ordered_field.proofs.Fractions.{whole-sum, whole-product}
use Rattle.ordered_field.proofs.WholeNumbers.{whole-sum_kept}
use Rattle.fraction.specs.Value.{rational, same_value}
use Rattle.fraction.proofs.Signs.{whole_value}

pub over_one : (n d : ℤ) (some : pos 1 ≤ℤ d) → d ≡ pos 1 → rational n d some ≡ whole n
over_one n d some e =
    let one : pos 1 ≤ℤ pos 1 = omega (arith, ints) in same_value n d n (pos 1) some one refl e ∙ whole_value n one

module _ (m b n d s e : ℤ) (left : pos 1 ≤ℤ b) (right : pos 1 ≤ℤ d) (some : pos 1 ≤ℤ e) (b_is : b ≡ pos 1) (d_is : d ≡ pos 1) (e_is : e ≡ pos 1) where
  pub whole_sum_value : s ≡ m +ℤ n → rational s e some ≡ rational m b left +ℚ rational n d right
  whole_sum_value is =
      over_one s e some e_is
      ∙ (rw is (whole-sum m n))
      ∙ sym (ap₂ (λ v w. v +ℚ w) (over_one m b left b_is) (over_one n d right d_is))

  pub whole_product_value : s ≡ m *ℤ n → rational s e some ≡ rational m b left *ℚ rational n d right
  whole_product_value is =
      over_one s e some e_is
      ∙ (rw is (whole-product m n))
      ∙ sym (ap₂ (λ v w. v *ℚ w) (over_one m b left b_is) (over_one n d right d_is))

pub whole_sum_fits : (limit : ℕ) (m b n d : ℤ) (left : pos 1 ≤ℤ b) (right : pos 1 ≤ℤ d) → b ≡ pos 1 → d ≡ pos 1 → 1 ≤ limit → unsigned_abs m ≤ limit → unsigned_abs n ≤ limit → unsigned_abs (m +ℤ n) ≤ limit → SumIsWide limit (rational m b left) (rational n d right) → ⊥
whole_sum_fits limit m b n d left right b_is d_is one first second sum h =
    whole-sum_kept limit m n one first second sum
    (subst₂ (SumIsWide limit) (over_one m b left b_is) (over_one n d right d_is) h)
