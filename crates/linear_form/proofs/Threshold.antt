-- A fraction over the greatest common divisor of its parts is in lowest terms.
use Rattle.std.proofs.Common.{◌≡◌, ℕ, ◌*◌, ◌<◌, ◌≤◌, ℤ, pos, ◌*ℤ◌, ◌≤ℤ◌, unsigned_abs, sym, ◌∙◌, ap, subst, arith}
use Rattle.std.specs.Int.{IsGcd, ◌∣◌}
use Rattle.std.proofs.lemmas.Int.{ints, unsigned_abs-mul}
use Rattle.std.proofs.Math.Nat.{div-mul_cancel, pos_of_dvd_of_pos, dvd-mul_right}
use Rattle.whole.specs.Numbers.{gcd_of}
use Rattle.whole.proofs.Divisors.{IsGcd-gcd_of}
use Rattle.lowest_terms.specs.Coprime.{IsCoprime}
use Rattle.lowest_terms.proofs.CoprimeLaws.{IsCoprime-parts}
use Rattle.lowest_terms.proofs.Scaling.{exact_quotient}
use Rattle.lowest_terms.proofs.Reduction.{size_some, pos-size}
use Rattle.whole.proofs.Integers.{*ℤ_assoc}
use Rattle.linear_form.proofs.QuotientSums.{exchanged}
use Rattle.linear_form.specs.NormalForm.{lowest_num, lowest_den}

pub common_some : (n : ℤ) (d : ℕ) → 0 < d → 0 < gcd_of (unsigned_abs n) d
common_some n d some = pos_of_dvd_of_pos (IsGcd-gcd_of (unsigned_abs n) d).1 some

at_least_one : (k : ℕ) → 0 < k → pos 1 ≤ℤ pos k
at_least_one k some = omega (arith, ints)

pub lowest_num-back : (n : ℤ) (d : ℕ) → 0 < d → lowest_num n d *ℤ pos (gcd_of (unsigned_abs n) d) ≡ n
lowest_num-back n d some =
    exact_quotient n (pos (gcd_of (unsigned_abs n) d)) (at_least_one _ (common_some n d some)) (IsGcd-gcd_of (unsigned_abs n) d).0

pub lowest_den-back : (n : ℤ) (d : ℕ) → lowest_den n d * gcd_of (unsigned_abs n) d ≡ d
lowest_den-back n d = div-mul_cancel (gcd_of (unsigned_abs n) d) (IsGcd-gcd_of (unsigned_abs n) d).1

pub lowest_den-some : (n : ℤ) (d : ℕ) → 0 < d → 0 < lowest_den n d
lowest_den-some n d some =
    pos_of_dvd_of_pos (subst (λ k. lowest_den n d ∣ k) (lowest_den-back n d) (dvd-mul_right (lowest_den n d) (gcd_of (unsigned_abs n) d))) some

pub lowest-coprime : (n : ℤ) (d : ℕ) → 0 < d → IsCoprime (unsigned_abs (lowest_num n d)) (lowest_den n d)
lowest-coprime n d some =
    let h : ℕ = gcd_of (unsigned_abs n) d in
    let size : unsigned_abs (lowest_num n d) * h ≡ unsigned_abs n =
    sym (unsigned_abs-mul (lowest_num n d) (pos h)) ∙ ap unsigned_abs (lowest_num-back n d some) in
    IsCoprime-parts (unsigned_abs (lowest_num n d)) (lowest_den n d) h (common_some n d some) (subst (λ k. IsGcd k (lowest_den n d * h) h) (sym size) (subst (λ k. IsGcd (unsigned_abs n) k h) (sym (lowest_den-back n d)) (IsGcd-gcd_of (unsigned_abs n) d)))

-- whatever is known to be the only pair in lowest terms is this one
pub lowest_unique : (over divisor num den : ℤ) → pos 1 ≤ℤ divisor → ((n : ℤ) (d : ℕ) → 1 ≤ d → IsCoprime (unsigned_abs n) d → n *ℤ divisor ≡ over *ℤ pos d → (n ≡ num) × (pos d ≡ den)) → (num ≡ lowest_num over (unsigned_abs divisor)) × (den ≡ pos (lowest_den over (unsigned_abs divisor)))
lowest_unique over divisor num den some only =
    let g : ℕ = unsigned_abs divisor in
    let h : ℕ = gcd_of (unsigned_abs over) g in
    let n : ℤ = lowest_num over g in
    let d : ℕ = lowest_den over g in
    let positive : 0 < g = size_some divisor some in
    let crossed : n *ℤ divisor ≡ over *ℤ pos d =
    ap (λ z. n *ℤ z) (sym (pos-size divisor some)) ∙ ap (λ k. n *ℤ pos k) (sym (lowest_den-back over g)) ∙ sym (*ℤ_assoc n (pos d) (pos h)) ∙ exchanged n (pos d) (pos h) ∙ ap (λ z. z *ℤ pos d) (lowest_num-back over g positive) in
    let found = only n d (lowest_den-some over g positive) (lowest-coprime over g positive) crossed in
    (sym found.0, sym found.1)
