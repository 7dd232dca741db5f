-- What is left of a fraction over the greatest common divisor of its parts
use Rattle.std.proofs.Common.{◌≡◌, ℕ, zero, suc, ◌*◌, ◌<◌, ◌≤◌, ℤ, pos, negsuc, ◌*ℤ◌, ◌≤ℤ◌, unsigned_abs, ap, sym, ◌∙◌, subst, subst₂, arith, inl, inr, ◌⊎◌}
use Rattle.std.proofs.lemmas.Int.{ints, unsigned_abs-mul}
use Rattle.std.proofs.Math.Nat.{pos_of_dvd_of_pos}
use Rattle.std.proofs.Math.IntN.{zero-*ℤ, *ℤ_comm}
use Rattle.std.specs.Int.{IsGcd, ◌∣◌}
use Rattle.lowest_terms.specs.Coprime.{IsCoprime}
use Rattle.lowest_terms.proofs.CoprimeLaws.{IsCoprime-parts, IsCoprime-swap, IsCoprime-one}
use Rattle.whole.proofs.Integers.{*ℤ_assoc}
use Rattle.lowest_terms.proofs.Scaling.{cancel_scale}
use Rattle.lowest_terms.proofs.Uniqueness.{same_signed_lowest_terms}

pub size_some : (z : ℤ) → pos 1 ≤ℤ z → 0 < unsigned_abs z
size_some (pos a) h = omega (arith, ints)
size_some (negsuc a) h = absurd (omega (arith, ints))

pub pos-size : (z : ℤ) → pos 1 ≤ℤ z → pos (unsigned_abs z) ≡ z
pos-size (pos a) h = omega (arith, ints)
pos-size (negsuc a) h = absurd (omega (arith, ints))

pub size-product : (a b c : ℤ) → a *ℤ b ≡ c → unsigned_abs a * unsigned_abs b ≡ unsigned_abs c
size-product a b c e = sym (unsigned_abs-mul a b) ∙ ap unsigned_abs e

pub reduced_lowest : (num den common n d : ℤ) → IsGcd (unsigned_abs num) (unsigned_abs den) (unsigned_abs common) → pos 1 ≤ℤ common → n *ℤ common ≡ num → d *ℤ common ≡ den → IsCoprime (unsigned_abs n) (unsigned_abs d)
reduced_lowest num den common n d greatest some left right =
    IsCoprime-parts (unsigned_abs n) (unsigned_abs d) (unsigned_abs common) (size_some common some)
    (subst₂ (λ a b. IsGcd a b (unsigned_abs common)) (sym (size-product n common num left)) (sym (size-product d common den right)) greatest)

unique_over : (n m : ℤ) (k d e : ℕ) → 0 < k → 0 < d → 0 < e → IsCoprime (unsigned_abs n) d → IsCoprime (unsigned_abs m) e → m *ℤ (pos d *ℤ pos k) ≡ n *ℤ pos k *ℤ pos e → (m ≡ n) × (e ≡ d)
unique_over n m k d e some left right lowest apart eq =
    same_signed_lowest_terms m n e d right left apart lowest
    (cancel_scale (m *ℤ pos d) (n *ℤ pos e) k some
    (*ℤ_assoc m (pos d) (pos k) ∙ eq ∙ *ℤ_assoc n (pos k) (pos e) ∙ ap (λ z. n *ℤ z) (*ℤ_comm (pos k) (pos e)) ∙ sym (*ℤ_assoc n (pos e) (pos k))))

pub reduced_unique : (num den common n d : ℤ) → pos 1 ≤ℤ common → pos 1 ≤ℤ d → IsCoprime (unsigned_abs n) (unsigned_abs d) → n *ℤ common ≡ num → d *ℤ common ≡ den → (m : ℤ) (e : ℕ) → 1 ≤ e → IsCoprime (unsigned_abs m) e → m *ℤ den ≡ num *ℤ pos e → (m ≡ n) × (pos e ≡ d)
reduced_unique num den (pos k) n (pos d) some positive lowest left right m e p apart eq =
    let same = unique_over n m k d e (omega (arith, ints)) (omega (arith, ints)) (omega arith) lowest apart
    (subst₂ (λ x y. m *ℤ y ≡ x *ℤ pos e) (sym left) (sym right) eq) in
    (same.0, ap pos same.1)
reduced_unique num den (negsuc k) n d some positive lowest left right m e p apart eq = absurd (omega (arith, ints))
reduced_unique num den (pos k) n (negsuc d) some positive lowest left right m e p apart eq = absurd (omega (arith, ints))

pub one_divides_all : (n d : ℤ) → (n ≡ pos 1) ⊎ (d ≡ pos 1) → IsGcd (unsigned_abs n) (unsigned_abs d) 1
one_divides_all n d (inl one) = rw one (IsCoprime-swap (unsigned_abs d) 1 (IsCoprime-one (unsigned_abs d)))
one_divides_all n d (inr one) = rw one (IsCoprime-one (unsigned_abs n))

pub divisor_positive : (g den : ℤ) (k : ℕ) → g ≡ pos k → unsigned_abs g ∣ unsigned_abs den → pos 1 ≤ℤ den → pos 1 ≤ℤ g
divisor_positive g den k e h some =
    let positive : 0 < k = pos_of_dvd_of_pos (subst (λ z. unsigned_abs z ∣ unsigned_abs den) e h) (size_some den some) in
    omega (arith, ints)

pub reduced_positive : (den common d : ℤ) → pos 1 ≤ℤ den → pos 1 ≤ℤ common → d *ℤ common ≡ den → pos 1 ≤ℤ d
reduced_positive den common (pos (suc a)) some positive e = omega (arith, ints)
reduced_positive den common (pos zero) some positive e = absurd (omega (arith, ints, zero-*ℤ common))
reduced_positive den (pos k) (negsuc a) some positive e = absurd (omega (arith, ints))
reduced_positive den (negsuc k) (negsuc a) some positive e = absurd (omega (arith, ints))
