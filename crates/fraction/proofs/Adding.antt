-- The sum of two fractions in lowest terms, m / b plus n / d, where b / d over g is x / y in lowest terms
use Rattle.std.proofs.Common.{◌≡◌, ℕ, ◌*◌, ◌<◌, ◌≤◌, ℤ, pos, negsuc, ◌+ℤ◌, ◌*ℤ◌, ◌≤ℤ◌, unsigned_abs, ap, sym, ◌∙◌, subst, subst₂, arith, inl, inr, le-mul_of_pos_right}
use Rattle.std.proofs.lemmas.Bool.{cases_lt}
use Rattle.std.proofs.Math.Nat.{dvd-mul_right}
use Rattle.std.specs.Int.{◌∣◌}
use Rattle.std.proofs.Math.IntN.{+ℤ_comm, *ℤ_comm}
use Rattle.std.proofs.lemmas.Int.{ints, unsigned_abs-mul}
use Rattle.ordered_field.specs.Rational.{◌+ℚ◌}
use Rattle.ordered_field.specs.Wideness.{SumIsWide}
use Rattle.lowest_terms.specs.Coprime.{IsCoprime}
use Rattle.lowest_terms.proofs.CoprimeLaws.{IsCoprime-swap, IsCoprime-divisor}
use Rattle.lowest_terms.proofs.Reduction.{size_some, size-product}
use Rattle.whole.proofs.Integers.{*ℤ_assoc}
use Rattle.fraction.specs.Sums.{SumOverflows}
use Rattle.fraction.specs.Value.{ratio, rational, in_lowest_terms}
use Rattle.fraction.proofs.Pairs.{sum_wide_not}
use Rattle.fraction.proofs.ProductLaws.{coprime_to_both}
use Rattle.fraction.proofs.SumLaws.{sum_coprime, sum_value, common_denominator, overflows_from_exceeds, exceeds_from_overflows}

pub record IsBrought (m b n d x y g : ℤ) : Type 0 where
  pub left_lowest : IsCoprime (unsigned_abs m) (unsigned_abs b)
  pub right_lowest : IsCoprime (unsigned_abs n) (unsigned_abs d)
  pub b_is : x *ℤ g ≡ b
  pub d_is : y *ℤ g ≡ d
  pub x_some : pos 1 ≤ℤ x
  pub y_some : pos 1 ≤ℤ y
  pub g_some : pos 1 ≤ℤ g
  pub lowest : IsCoprime (unsigned_abs x) (unsigned_abs y)

-- what a sum gives: its numerator shares no divisor with the two parts of the denominator, and what overflows tells
-- whether the sum is too wide
pub record Sums (limit : ℕ) (m b n d x y g : ℤ) (left : pos 1 ≤ℤ b) (right : pos 1 ≤ℤ d) : Type 0 where
  pub first_coprime : IsCoprime (unsigned_abs (m *ℤ y +ℤ n *ℤ x)) (unsigned_abs x)
  pub second_coprime : IsCoprime (unsigned_abs (m *ℤ y +ℤ n *ℤ x)) (unsigned_abs y)
  pub value : (both : pos 1 ≤ℤ (x *ℤ (y *ℤ g))) → rational m b left +ℚ rational n d right ≡ rational (m *ℤ y +ℤ n *ℤ x) (x *ℤ (y *ℤ g)) both
  pub wide : SumOverflows limit m n x y d → SumIsWide limit (rational m b left) (rational n d right)
  pub kept : (SumOverflows limit m n x y d → ⊥) → SumIsWide limit (rational m b left) (rational n d right) → ⊥

sums_of_naturals : (limit : ℕ) (m n : ℤ) (x y g : ℕ) → 0 < x → 0 < y → 0 < g → IsCoprime x y → IsCoprime (unsigned_abs m) (x * g) → IsCoprime (unsigned_abs n) (y * g) → (left : pos 1 ≤ℤ pos (x * g)) (right : pos 1 ≤ℤ pos (y * g)) → Sums limit m (pos (x * g)) n (pos (y * g)) (pos x) (pos y) (pos g) left right
sums_of_naturals limit m n x y g px py pg apart m_lowest n_lowest left right = record {
  first_coprime = sum_coprime m n x y g apart m_lowest;
  second_coprime =
      subst (λ s. IsCoprime (unsigned_abs s) y) (+ℤ_comm (n *ℤ pos x) (m *ℤ pos y))
      (sum_coprime n m y x g (IsCoprime-swap x y apart) n_lowest);
  value = λ both. sum_value m n x y g (size_some (pos (x * g)) left) (size_some (pos (y * g)) right) (size_some (pos (x * (y * g))) both);
  wide = λ h. record {
    left = ratio m (pos (x * g));
    right = ratio n (pos (y * g));
    over = x * (y * g);
    left_lowest = in_lowest_terms m (pos (x * g)) left m_lowest;
    right_lowest = in_lowest_terms n (pos (y * g)) right n_lowest;
    least = common_denominator x y g px py pg apart m n;
    overflows = exceeds_from_overflows x y g px py pg apart limit m n h;
  };
  kept = λ none. sum_wide_not limit (ratio m (pos (x * g))) (ratio n (pos (y * g))) (x * (y * g)) _ _
      (in_lowest_terms m (pos (x * g)) left m_lowest)
      (in_lowest_terms n (pos (y * g)) right n_lowest)
      (common_denominator x y g px py pg apart m n)
      (λ h. none (overflows_from_exceeds x y g px py pg apart limit m n h));
}

pub sums : (limit : ℕ) (m b n d x y g : ℤ) → IsBrought m b n d x y g → (left : pos 1 ≤ℤ b) (right : pos 1 ≤ℤ d) → Sums limit m b n d x y g left right
sums limit m b n d (pos x) (pos y) (pos g) c =
    subst₂ (λ b d. IsCoprime (unsigned_abs m) (unsigned_abs b) → IsCoprime (unsigned_abs n) (unsigned_abs d) → (left : pos 1 ≤ℤ b) (right : pos 1 ≤ℤ d) → Sums limit m b n d (pos x) (pos y) (pos g) left right) c.b_is c.d_is
    (λ p q. sums_of_naturals limit m n x y g (omega (arith, ints, c.x_some)) (omega (arith, ints, c.y_some)) (omega (arith, ints, c.g_some)) c.lowest p q)
    c.left_lowest
    c.right_lowest
sums limit m b n d (negsuc x) y g c = absurd (omega (arith, ints, c.x_some))
sums limit m b n d (pos x) (negsuc y) g c = absurd (omega (arith, ints, c.y_some))
sums limit m b n d (pos x) (pos y) (negsuc g) c = absurd (omega (arith, ints, c.g_some))

-- ---- within the limit

within_unless : (limit n : ℕ) → (limit < n → ⊥) → n ≤ limit
within_unless limit n not = elim (cases_lt limit n) [ inl h ↦ absurd (not h) | inr h ↦ h ]

pub sum_within : (limit : ℕ) (m n x y d : ℤ) → (SumOverflows limit m n x y d → ⊥) → unsigned_abs (m *ℤ y +ℤ n *ℤ x) ≤ limit
sum_within limit m n x y d none = within_unless limit _ (λ h. none (inr (inr (inr h))))

pub over_within : (limit : ℕ) (m n x y d : ℤ) → (SumOverflows limit m n x y d → ⊥) → unsigned_abs (x *ℤ d) ≤ limit
over_within limit m n x y d none = within_unless limit _ (λ h. none (inl h))

-- ---- the sum in lowest terms

-- a factor is at most the product
pub factor_within : (a b c : ℤ) (limit : ℕ) → a *ℤ b ≡ c → pos 1 ≤ℤ b → unsigned_abs c ≤ limit → unsigned_abs a ≤ limit
factor_within a b c limit e some h =
    let sizes = size-product a b c e in
    omega (arith, le-mul_of_pos_right (unsigned_abs a) (size_some b some))

pub over_coprime : (num x y k s h : ℤ) → s *ℤ h ≡ num → IsCoprime (unsigned_abs num) (unsigned_abs x) → IsCoprime (unsigned_abs num) (unsigned_abs y) → IsCoprime (unsigned_abs s) (unsigned_abs k) → IsCoprime (unsigned_abs s) (unsigned_abs (x *ℤ (y *ℤ k)))
over_coprime num x y k s h e first second lowest =
    let divides : unsigned_abs s ∣ unsigned_abs num = subst (λ n. unsigned_abs s ∣ n) (size-product s h num e) (dvd-mul_right (unsigned_abs s) (unsigned_abs h)) in
    subst (IsCoprime (unsigned_abs s)) (sym (unsigned_abs-mul x (y *ℤ k) ∙ ap (λ n. unsigned_abs x * n) (unsigned_abs-mul y k)))
    (coprime_to_both (unsigned_abs s) (unsigned_abs x) (unsigned_abs y * unsigned_abs k)
    (IsCoprime-divisor (unsigned_abs num) (unsigned_abs x) (unsigned_abs s) divides first)
    (coprime_to_both (unsigned_abs s) (unsigned_abs y) (unsigned_abs k) (IsCoprime-divisor (unsigned_abs num) (unsigned_abs y) (unsigned_abs s) divides second) lowest))

pub over_times : (x y k h g : ℤ) → k *ℤ h ≡ g → x *ℤ (y *ℤ k) *ℤ h ≡ x *ℤ (y *ℤ g)
over_times x y k h g e = *ℤ_assoc x (y *ℤ k) h ∙ ap (λ z. x *ℤ z) (*ℤ_assoc y k h ∙ ap (λ z. y *ℤ z) e)

pub over_fits : (x y k h g : ℤ) (limit : ℕ) → k *ℤ h ≡ g → pos 1 ≤ℤ h → unsigned_abs (x *ℤ (y *ℤ g)) ≤ limit → unsigned_abs (x *ℤ (y *ℤ k)) ≤ limit
over_fits x y k h g limit e some = factor_within (x *ℤ (y *ℤ k)) h (x *ℤ (y *ℤ g)) limit (over_times x y k h g e) some

pub over_part_fits : (x y k h g : ℤ) (limit : ℕ) → k *ℤ h ≡ g → pos 1 ≤ℤ h → pos 1 ≤ℤ x → unsigned_abs (x *ℤ (y *ℤ g)) ≤ limit → unsigned_abs (y *ℤ k) ≤ limit
over_part_fits x y k h g limit e some first within =
    factor_within (y *ℤ k) x (x *ℤ (y *ℤ k)) limit (*ℤ_comm (y *ℤ k) x) first (over_fits x y k h g limit e some within)
