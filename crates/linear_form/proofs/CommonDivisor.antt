-- The greatest common divisor of all coefficients: the loop that finds it, and its laws.
use Rattle.std.proofs.Common.{◌≡◌, ℕ, ◌*◌, ◌<◌, List, [], ◌∷◌, ℤ, pos, ◌*ℤ◌, unsigned_abs, refl, ◌∙◌, ap}
use Rattle.std.specs.Int.{◌∣◌}
use Rattle.std.proofs.lemmas.Int.{unsigned_abs-mul}
use Rattle.std.proofs.Math.Nat.{dvd_refl, dvd_trans, mul_comm, pos_of_dvd_of_pos}
use Rattle.whole.proofs.Divisors.{IsGcd-gcd_of, gcd_of-scaled}
use Rattle.whole.specs.Numbers.{IsWithin, gcd_of}
use Rattle.linear_form.specs.declared.lists.Term.{Term}
use Rattle.linear_form.specs.NormalForm.{DividesAll, divisor_from}

-- what was found so far, with the terms that are left, gives the divisor of all
pub record IsFound (all rest : List Term) (divisor : ℤ) : Type 0 where
  pub is_within : IsWithin divisor
  pub natural : divisor ≡ pos (unsigned_abs divisor)
  pub is_part : divisor_from (unsigned_abs divisor) rest ≡ divisor_from 0 all

-- it divides each coefficient, and what it began with
pub divisor_from-divides : (g : ℕ) (ts : List Term) → (divisor_from g ts ∣ g) × DividesAll (divisor_from g ts) ts
divisor_from-divides g [] = (dvd_refl g, tt)
divisor_from-divides g (t ∷ ts) =
    let rest = divisor_from-divides (gcd_of g (unsigned_abs t.coef)) ts in
    let both = IsGcd-gcd_of g (unsigned_abs t.coef) in
    (dvd_trans (divisor_from g (t ∷ ts)) rest.0 both.0, (dvd_trans (divisor_from g (t ∷ ts)) rest.0 both.1, rest.1))

-- whatever divides all of them divides it
pub dvd-divisor_from : (d g : ℕ) (ts : List Term) → d ∣ g → DividesAll d ts → d ∣ divisor_from g ts
dvd-divisor_from d g [] divides all = divides
dvd-divisor_from d g (t ∷ ts) divides all =
    dvd-divisor_from d (gcd_of g (unsigned_abs t.coef)) ts ((IsGcd-gcd_of g (unsigned_abs t.coef)).2 d divides all.0) all.1

-- one coefficient other than 0 makes it positive
pub divisor_from-some : (g : ℕ) (t : Term) (ts : List Term) → 0 < unsigned_abs t.coef → 0 < divisor_from g (t ∷ ts)
divisor_from-some g t ts some = pos_of_dvd_of_pos (divisor_from-divides g (t ∷ ts)).1.0 some

-- each coefficient times a number
abbrev pub scaled : ℕ → List Term → List Term
scaled k [] = []
scaled k (t ∷ ts) = record { column = t.column; coef = pos k *ℤ t.coef } ∷ scaled k ts

pub divisor_from-scaled : (k g : ℕ) (ts : List Term) → 0 < k → divisor_from (g * k) (scaled k ts) ≡ divisor_from g ts * k
divisor_from-scaled k g [] some = refl
divisor_from-scaled k g (t ∷ ts) some =
    let size : unsigned_abs (pos k *ℤ t.coef) ≡ unsigned_abs t.coef * k = unsigned_abs-mul (pos k) t.coef ∙ mul_comm k (unsigned_abs t.coef) in
    ap (λ n. divisor_from (gcd_of (g * k) n) (scaled k ts)) size ∙ ap (λ n. divisor_from n (scaled k ts)) (gcd_of-scaled g (unsigned_abs t.coef) k some) ∙ divisor_from-scaled k (gcd_of g (unsigned_abs t.coef)) ts some
