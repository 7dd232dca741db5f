-- A fraction has one form in lowest terms
use Rattle.std.proofs.Common.{◌≡◌, ℕ, zero, suc, ◌*◌, ◌<◌, ℤ, pos, negsuc, ◌*ℤ◌, neg_ℤ, unsigned_abs, ap, sym, ◌∙◌, subst, mul-pos, zero-lt-suc}
use Rattle.std.proofs.Math.Nat.{dvd-mul_left, dvd_antisymm, eq_of_mul-eq-mul_right}
use Rattle.std.proofs.lemmas.Int.{unsigned_abs-mul}
use Rattle.std.specs.Int.{◌∣◌}
use Rattle.lowest_terms.specs.Coprime.{IsCoprime}
use Rattle.lowest_terms.proofs.CoprimeLaws.{dvd_from_coprime, IsCoprime-swap}

-- the second number of one pair divides that of the other
dvd-same_ratio : (a b c d : ℕ) → IsCoprime a b → a * d ≡ c * b → b ∣ d
dvd-same_ratio a b c d apart e =
    dvd_from_coprime b a d (IsCoprime-swap a b apart) (subst (λ k. b ∣ k) (sym e) (dvd-mul_left b c))

pub same_lowest_terms : (a b c d : ℕ) → 0 < b → IsCoprime a b → IsCoprime c d → a * d ≡ c * b → (a ≡ c) × (b ≡ d)
same_lowest_terms a b c d some left right e =
    let same : b ≡ d = dvd_antisymm (dvd-same_ratio a b c d left e) (dvd-same_ratio c d a b right (sym e)) in
    (eq_of_mul-eq-mul_right b some a c (ap (λ k. a * k) same ∙ e), same)

-- a number above 0 is no opposite of a number
not_opposite : (m n : ℕ) → 0 < m → pos m ≡ neg_ℤ (pos n) → ⊥
not_opposite zero n p e = elim p [ ]
not_opposite (suc m) zero p e = cc
not_opposite (suc m) (suc n) p e = cc

-- equal sizes and a common sign
same_signed : (m n : ℤ) (b d : ℕ) → 0 < b → 0 < d → m *ℤ pos d ≡ n *ℤ pos b → unsigned_abs m ≡ unsigned_abs n → m ≡ n
same_signed (pos a) (pos c) b d p q e same = ap pos same
same_signed (pos zero) (negsuc c) b d p q e same = cc
same_signed (pos (suc a)) (negsuc c) b d p q e same = absurd (not_opposite (suc a * d) (suc c * b) (mul-pos (zero-lt-suc a) q) e)
same_signed (negsuc a) (pos zero) b d p q e same = cc
same_signed (negsuc a) (pos (suc c)) b d p q e same = absurd (not_opposite (suc c * b) (suc a * d) (mul-pos (zero-lt-suc c) p) (sym e))
same_signed (negsuc a) (negsuc c) b d p q e same = cc

pub same_signed_lowest_terms : (m n : ℤ) (b d : ℕ) → 0 < b → 0 < d → IsCoprime (unsigned_abs m) b → IsCoprime (unsigned_abs n) d → m *ℤ pos d ≡ n *ℤ pos b → (m ≡ n) × (b ≡ d)
same_signed_lowest_terms m n b d p q left right e =
    let sizes : unsigned_abs m * d ≡ unsigned_abs n * b =
    sym (unsigned_abs-mul m (pos d)) ∙ ap unsigned_abs e ∙ unsigned_abs-mul n (pos b) in
    let same = same_lowest_terms (unsigned_abs m) b (unsigned_abs n) d p left right sizes in
    (same_signed m n b d p q e same.0, same.1)
