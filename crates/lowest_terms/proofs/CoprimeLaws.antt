-- Coprime numbers: Euclid's lemma, and what follows from it
use Rattle.std.proofs.Common.{◌≡◌, ℕ, zero, suc, ◌*◌, ◌/◌, ◌<◌, ap, sym, ◌∙◌, subst, arith, one-mul, zero-lt-suc}
use Rattle.std.proofs.Math.Nat.{dvd-zero, dvd-mul_left_of_dvd, dvd-mul_right, dvd_trans, dvd_of_mul-dvd-mul_right, mul-dvd-mul_right, one-dvd, div-mul_cancel}
use Rattle.std.proofs.lemmas.Nat.Gcd.{IsGcd-swap}
use Rattle.std.specs.Int.{IsGcd, ◌∣◌}
use Rattle.whole.proofs.Divisors.{IsGcd-scaled, gcd_of_is}
use Rattle.lowest_terms.specs.Coprime.{IsCoprime}

-- Euclid's lemma
pub dvd_from_coprime : (a b c : ℕ) → IsCoprime a b → a ∣ b * c → a ∣ c
dvd_from_coprime a b zero apart h = dvd-zero a
dvd_from_coprime a b (suc c) apart h =
    subst (λ k. a ∣ k) (ap (λ n. n * suc c) (gcd_of_is a b 1 apart) ∙ one-mul (suc c))
    ((IsGcd-scaled a b (suc c) (zero-lt-suc c)).2 a (dvd-mul_right a (suc c)) h)

pub IsCoprime-swap : (a b : ℕ) → IsCoprime a b → IsCoprime b a
IsCoprime-swap a b h = IsGcd-swap a b 1 h

pub IsCoprime-one : (a : ℕ) → IsCoprime a 1
IsCoprime-one a = (one-dvd a, one-dvd 1, λ d p q. q)

-- a divisor of one of them is coprime to the other
pub IsCoprime-divisor : (a b d : ℕ) → d ∣ a → IsCoprime a b → IsCoprime d b
IsCoprime-divisor a b d h apart = (one-dvd d, one-dvd b, λ e p q. apart.2 e (dvd_trans e p h) q)

pub IsCoprime-mul : (a b c : ℕ) → IsCoprime a c → IsCoprime b c → IsCoprime (a * b) c
IsCoprime-mul a b c left right = (
  one-dvd (a * b),
  one-dvd c,
  λ d p q. right.2 d (dvd_from_coprime d a b (IsCoprime-swap a d (IsCoprime-swap d a (IsCoprime-divisor c a d q (IsCoprime-swap a c left)))) p) q,
)

-- what is left of two numbers over their greatest common divisor is coprime
pub IsCoprime-parts : (a b g : ℕ) → 0 < g → IsGcd (a * g) (b * g) g → IsCoprime a b
IsCoprime-parts a b g some h = (
  one-dvd a,
  one-dvd b,
  λ d p q.
      dvd_of_mul-dvd-mul_right d some
      (subst (λ k. d * g ∣ k) (sym (one-mul g)) (h.2 (d * g) (mul-dvd-mul_right d p g) (mul-dvd-mul_right d q g))),
)

-- a factor that is coprime to the other number takes no part in the greatest common divisor
pub IsGcd-coprime_factor : (a b c g : ℕ) → IsCoprime a b → IsGcd a c g → IsGcd a (b * c) g
IsGcd-coprime_factor a b c g apart h = (
  h.0,
  dvd-mul_left_of_dvd g h.1 b,
  λ d p q. h.2 d p (dvd_from_coprime d b c (IsCoprime-divisor a b d p apart) q),
)

-- two numbers over their greatest common divisor, and what each multiple of both is a multiple of
pub dvd-lcm_of_parts : (x y g m : ℕ) → 0 < g → IsCoprime y x → x * g ∣ m → y * g ∣ m → x * (y * g) ∣ m
dvd-lcm_of_parts x y g m some apart left right =
    let k = m / (x * g) in
    let whole : k * (x * g) ≡ m = div-mul_cancel (x * g) left in
    let regrouped : k * (x * g) ≡ x * k * g = omega arith in
    let inner : y ∣ x * k = dvd_of_mul-dvd-mul_right y some (subst (λ n. y * g ∣ n) (sym whole ∙ regrouped) right) in
    let turned : y * (x * g) ≡ x * (y * g) = omega arith in
    subst (λ n. n ∣ m) turned (subst (λ n. y * (x * g) ∣ n) whole (mul-dvd-mul_right y (dvd_from_coprime y x k apart inner) (x * g)))
