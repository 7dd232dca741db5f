-- The greatest common divisor as Euclid's steps compute it, and the least common multiple.
use Rattle.std.proofs.Common.{◌≡◌, ℕ, zero, suc, ◌+◌, ◌*◌, ◌/◌, ◌%◌, ◌<◌, ◌≤◌, refl, sym, ◌∙◌, ap, subst, arith}
use Rattle.std.specs.Int.{◌∣◌, IsGcd}
use Rattle.std.proofs.lemmas.Nat.Gcd.{IsGcd-from_zero, IsGcd-from_mod, same_from_IsGcd, dvd_antisymm, dvd-zero, le_of_dvd}
use Rattle.std.proofs.Math.Nat.{div-add-mod', div-mul_cancel, dvd-mul_left, dvd-mul_right, mul-dvd-mul_left, dvd_of_mul-dvd-mul_right, pos_of_dvd_of_pos, mul-lt-mul_of_pos_right, mul_comm, zero-mul}
use Rattle.std.proofs.lemmas.Nat.{mod_below, mod-mul-add}
use Rattle.whole.specs.Numbers.{gcd_steps, gcd_of, IsLcm, lcm_of}

-- enough steps reach the greatest common divisor
IsGcd-gcd_steps : (steps a b : ℕ) → b ≤ steps → IsGcd a b (gcd_steps steps a b)
IsGcd-gcd_steps zero a b enough = IsGcd-from_zero a b (omega arith)
IsGcd-gcd_steps (suc steps) a zero enough = IsGcd-from_zero a 0 refl
IsGcd-gcd_steps (suc steps) a (suc b) enough =
    let less : a % suc b < suc b = mod_below a (suc b) (omega arith) in
    IsGcd-from_mod a (suc b) _ (IsGcd-gcd_steps steps (suc b) (a % suc b) (omega arith))

pub IsGcd-gcd_of : (a b : ℕ) → IsGcd a b (gcd_of a b)
unfolding gcd_of
IsGcd-gcd_of a b = IsGcd-gcd_steps b a b (omega arith)

-- what is a greatest common divisor is the one that is computed
pub gcd_of_is : (a b g : ℕ) → IsGcd a b g → gcd_of a b ≡ g
gcd_of_is a b g is = same_from_IsGcd a b _ g (IsGcd-gcd_of a b) is

pub gcd_of-zero : (a b : ℕ) → b ≡ 0 → gcd_of a b ≡ a
gcd_of-zero a b none = gcd_of_is a b a (IsGcd-from_zero a b none)

pub gcd_of-mod : (a b : ℕ) → gcd_of b (a % b) ≡ gcd_of a b
gcd_of-mod a b = sym (gcd_of_is a b _ (IsGcd-from_mod a b _ (IsGcd-gcd_of b (a % b))))

pub pos-gcd_of : (a b : ℕ) → 0 < a → 0 < gcd_of a b
pos-gcd_of a b some = pos_of_dvd_of_pos (IsGcd-gcd_of a b).0 some

-- the greatest common divisor is below each bound of both numbers
pub gcd_of-below : (a b n : ℕ) → a < n → b < n → gcd_of a b < n
gcd_of-below (suc a) b n p q =
    let at_most : gcd_of (suc a) b ≤ suc a = le_of_dvd (omega arith) (IsGcd-gcd_of (suc a) b).0 in omega arith
gcd_of-below zero zero n p q = rw (gcd_of-zero zero zero refl) p
gcd_of-below zero (suc b) n p q =
    let at_most : gcd_of zero (suc b) ≤ suc b = le_of_dvd (omega arith) (IsGcd-gcd_of zero (suc b)).1 in omega arith

-- a remainder scales with its operands
mod-scaled : (a b c : ℕ) → 0 < b → 0 < c → (a * c) % (b * c) ≡ a % b * c
mod-scaled a b c some_b some_c =
    let parted : a * c ≡ a / b * (b * c) + a % b * c = omega (arith, ap (λ n. n * c) (div-add-mod' a b)) in
    let less : a % b * c < b * c = mul-lt-mul_of_pos_right (mod_below a b some_b) some_c in
    ap (λ n. n % (b * c)) parted ∙ mod-mul-add (a / b) (b * c) (a % b * c) less

IsGcd-scaled_steps : (steps a b c : ℕ) → b ≤ steps → 0 < c → IsGcd (a * c) (b * c) (gcd_steps steps a b * c)
IsGcd-scaled_steps zero a b c enough some =
    IsGcd-from_zero (a * c) (b * c) (let none : b ≡ 0 = omega arith in ap (λ n. n * c) none ∙ zero-mul c)
IsGcd-scaled_steps (suc steps) a zero c enough some = IsGcd-from_zero (a * c) (0 * c) (zero-mul c)
IsGcd-scaled_steps (suc steps) a (suc b) c enough some =
    let less : a % suc b < suc b = mod_below a (suc b) (omega arith) in
    let inner = IsGcd-scaled_steps steps (suc b) (a % suc b) c (omega arith) some in
    IsGcd-from_mod (a * c) (suc b * c) _
    (subst (λ n. IsGcd (suc b * c) n (gcd_steps steps (suc b) (a % suc b) * c)) (sym (mod-scaled a (suc b) c (omega arith) some)) inner)

-- a common factor of two numbers is one of their greatest common divisor
pub IsGcd-scaled : (a b c : ℕ) → 0 < c → IsGcd (a * c) (b * c) (gcd_of a b * c)
unfolding gcd_of
IsGcd-scaled a b c some = IsGcd-scaled_steps b a b c (omega arith) some

pub gcd_of-scaled : (a b c : ℕ) → 0 < c → gcd_of (a * c) (b * c) ≡ gcd_of a b * c
gcd_of-scaled a b c some = gcd_of_is (a * c) (b * c) _ (IsGcd-scaled a b c some)

pub IsLcm-lcm_of : (a b : ℕ) → 0 < a → 0 < b → IsLcm a b (lcm_of a b)
unfolding lcm_of
IsLcm-lcm_of a b some_a some_b =
    let g : ℕ = gcd_of a b in
    let some : 0 < g = pos-gcd_of a b some_a in
    let left : a / g * g ≡ a = div-mul_cancel g (IsGcd-gcd_of a b).0 in
    let right : b / g * g ≡ b = div-mul_cancel g (IsGcd-gcd_of a b).1 in
    let crossed : a * (b / g) ≡ a / g * b =
    ap (λ n. n * (b / g)) (sym left) ∙ omega arith ∙ ap (λ n. a / g * n) right in
    let product : a / g * b * g ≡ a * b = omega arith ∙ ap (λ n. n * b) left in (
      subst (λ n. a ∣ n) crossed (dvd-mul_right a (b / g)),
      dvd-mul_left b (a / g),
      λ m p q. least_multiple a b (a / g * b) m some_a some_b product p q,
    )
  where
    least_multiple : (a b l m : ℕ) → 0 < a → 0 < b → l * gcd_of a b ≡ a * b → a ∣ m → b ∣ m → l ∣ m
    least_multiple a b l zero some_a some_b e p q = dvd-zero l
    least_multiple a b l (suc m) some_a some_b e p q =
        let g : ℕ = gcd_of a b in
        let one : a * b ∣ a * suc m = mul-dvd-mul_left b a q in
        let two : a * b ∣ b * suc m = subst (λ n. n ∣ b * suc m) (mul_comm b a) (mul-dvd-mul_left a b p) in
        let both : a * b ∣ g * suc m = (IsGcd-scaled a b (suc m) (omega arith)).2 (a * b) one two in
        let scaled : l * g ∣ suc m * g =
        subst (λ n. n ∣ suc m * g) (sym e) (subst (λ n. a * b ∣ n) (mul_comm g (suc m)) both) in
        dvd_of_mul-dvd-mul_right l (pos-gcd_of a b some_a) scaled

pub same_from_IsLcm : (a b l m : ℕ) → IsLcm a b l → IsLcm a b m → l ≡ m
same_from_IsLcm a b l m p q = dvd_antisymm (p.2 m q.0 q.1) (q.2 l p.0 p.1)

-- what is a least common multiple is the one that is computed
pub lcm_of_is : (a b l : ℕ) → 0 < a → 0 < b → IsLcm a b l → lcm_of a b ≡ l
lcm_of_is a b l some_a some_b is = same_from_IsLcm a b _ l (IsLcm-lcm_of a b some_a some_b) is

-- what a caller of Euclid's loop needs: the divisor's size, and that it divides
pub ruleset divisors = (IsGcd-gcd_of, gcd_of-below, pos-gcd_of)
