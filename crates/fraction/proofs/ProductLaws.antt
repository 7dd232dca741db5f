-- The product of two fractions after cancelling crosswise: p * g over s * h, times r * h over q * g
use Rattle.std.proofs.Common.{◌≡◌, ℕ, ◌*◌, ◌<◌, ℤ, pos, ◌*ℤ◌, ap, sym, ◌∙◌, arith, mul-pos}
use Rattle.std.proofs.Math.Nat.{dvd-mul_right}
use Rattle.std.proofs.Math.IntN.{*ℤ_comm}
use Rattle.ordered_field.specs.Rational.{fraction, ◌*ℚ◌}
use Rattle.ordered_field.proofs.Fractions.{fraction-same, fraction-product}
use Rattle.lowest_terms.specs.Coprime.{IsCoprime}
use Rattle.lowest_terms.proofs.CoprimeLaws.{IsCoprime-divisor, IsCoprime-swap, IsCoprime-mul}
use Rattle.whole.proofs.Integers.{*ℤ_assoc}

-- a factor of the first number and one of the second are coprime, where the numbers are
factors_coprime : (a b c d : ℕ) → IsCoprime (a * c) (b * d) → IsCoprime a b
factors_coprime a b c d apart =
    IsCoprime-divisor (a * c) b a (dvd-mul_right a c)
    (IsCoprime-swap b (a * c) (IsCoprime-divisor (b * d) (a * c) b (dvd-mul_right b d) (IsCoprime-swap (a * c) (b * d) apart)))

pub coprime_to_both : (a b c : ℕ) → IsCoprime a b → IsCoprime a c → IsCoprime a (b * c)
coprime_to_both a b c left right = IsCoprime-swap (b * c) a (IsCoprime-mul b c a (IsCoprime-swap a b left) (IsCoprime-swap a c right))

pub product_coprime : (p q r s g h : ℕ) → IsCoprime p q → IsCoprime r s → IsCoprime (p * g) (s * h) → IsCoprime (r * h) (q * g) → IsCoprime (p * r) (s * q)
product_coprime p q r s g h pq rs left right =
    IsCoprime-mul p r (s * q)
    (coprime_to_both p s q (factors_coprime p s g h left) pq)
    (coprime_to_both r s q rs (factors_coprime r q h g right))

-- a common factor moves out of a product
moved_out : (p r : ℤ) (g h : ℕ) → p *ℤ pos g *ℤ (r *ℤ pos h) ≡ p *ℤ r *ℤ pos (g * h)
moved_out p r g h =
    *ℤ_assoc p (pos g) (r *ℤ pos h)
    ∙ ap (λ z. p *ℤ z) (*ℤ_comm (pos g) (r *ℤ pos h) ∙ *ℤ_assoc r (pos h) (pos g) ∙ ap (λ n. r *ℤ pos n) (omega arith))
    ∙ sym (*ℤ_assoc p r (pos (g * h)))

pub product_value : (p r : ℤ) (q s g h : ℕ) (left : 0 < s * h) (right : 0 < q * g) (both : 0 < s * q) → fraction (p *ℤ pos g) (s * h) left *ℚ fraction (r *ℤ pos h) (q * g) right ≡ fraction (p *ℤ r) (s * q) both
product_value p r q s g h left right both =
    fraction-product (p *ℤ pos g) (r *ℤ pos h) (s * h) (q * g) left right product
    ∙ fraction-same (p *ℤ pos g *ℤ (r *ℤ pos h)) (p *ℤ r) (s * h * (q * g)) (s * q) product both
    (ap (λ z. z *ℤ pos (s * q)) (moved_out p r g h) ∙ *ℤ_assoc (p *ℤ r) (pos (g * h)) (pos (s * q)) ∙ ap (λ n. p *ℤ r *ℤ pos n) (omega arith))
  where
    product : 0 < s * h * (q * g)
    product = mul-pos left right
