-- Dividing all coefficients by their greatest common divisor: what the sum becomes, and that the form is in normal form.
use Rattle.std.proofs.Common.{◌≡◌, ◌≢◌, ℕ, zero, suc, ◌*◌, ◌<◌, ◌≤◌, List, [], ◌∷◌, map, ℤ, pos, negsuc, ◌+ℤ◌, ◌*ℤ◌, ◌≤ℤ◌, unsigned_abs, Bool, true, false, ◌⊎◌, inl, inr, refl, sym, ◌∙◌, ap, subst, arith}
use Rattle.std.specs.Int.{◌∣◌, is_negative}
use Rattle.std.proofs.lemmas.Int.{ints, unsigned_abs-mul}
use Rattle.std.proofs.Math.IntN.{zero-*ℤ, *ℤ_comm}
use Rattle.std.proofs.Math.Nat.{mul-dvd-mul_right, dvd_of_mul-dvd-mul_right, dvd_antisymm, dvd-zero, one-dvd}
use Rattle.std.proofs.lemmas.Bool.{cases_lt}
use Rattle.whole.proofs.Integers.{+ℤ-*ℤ, *ℤ_assoc, neg_ℤ-*ℤ, neg_ℤ-+ℤ, unsigned_abs-neg_ℤ, zero_of_size}
use Rattle.lowest_terms.proofs.Scaling.{exact_quotient}
use Rattle.lowest_terms.proofs.Reduction.{reduced_positive}
use Rattle.linear_form.specs.declared.lists.Term.{Term}
use Rattle.linear_form.specs.Sums.{sum_of}
use Rattle.linear_form.specs.Reduced.{StartsAbove, IsReduced}
use Rattle.linear_form.specs.NormalForm.{negated_if, quotient, divisor_from, DividesAll, IsNormalForm}
use Rattle.linear_form.proofs.CommonDivisor.{divisor_from-divides, dvd-divisor_from, divisor_from-some}

pub unsigned_abs-negated_if : (negate : Bool) (z : ℤ) → unsigned_abs (negated_if negate z) ≡ unsigned_abs z
unsigned_abs-negated_if false z = refl
unsigned_abs-negated_if true z = unsigned_abs-neg_ℤ z

pub at_least_one : (k : ℕ) → 0 < k → pos 1 ≤ℤ pos k
at_least_one k some = omega (arith, ints)

-- the quotient times the divisor is the coefficient
pub quotient-back : (negate : Bool) (g : ℕ) (t : Term) → 0 < g → g ∣ unsigned_abs t.coef → (quotient negate g t).coef *ℤ pos g ≡ negated_if negate t.coef
quotient-back negate g t some divides =
    exact_quotient (negated_if negate t.coef) (pos g) (at_least_one g some) (subst (λ n. g ∣ n) (sym (unsigned_abs-negated_if negate t.coef)) divides)

pub negated_if-*ℤ : (negate : Bool) (a b : ℤ) → negated_if negate a *ℤ b ≡ negated_if negate (a *ℤ b)
negated_if-*ℤ false a b = refl
negated_if-*ℤ true a b = neg_ℤ-*ℤ a b

pub negated_if-+ℤ : (negate : Bool) (a b : ℤ) → negated_if negate (a +ℤ b) ≡ negated_if negate a +ℤ negated_if negate b
negated_if-+ℤ false a b = refl
negated_if-+ℤ true a b = neg_ℤ-+ℤ a b

negated_if-zero : (negate : Bool) → pos 0 ≡ negated_if negate (pos 0)
negated_if-zero false = refl
negated_if-zero true = refl

pub exchanged : (a b c : ℤ) → a *ℤ b *ℤ c ≡ a *ℤ c *ℤ b
exchanged a b c = *ℤ_assoc a b c ∙ ap (λ z. a *ℤ z) (*ℤ_comm b c) ∙ sym (*ℤ_assoc a c b)

-- and so the quotients' sum times the divisor is the sum
pub sum_of-quotients : (value : ℕ → ℤ) (negate : Bool) (g : ℕ) (ts : List Term) → 0 < g → DividesAll g ts → sum_of value (map (quotient negate g) ts) *ℤ pos g ≡ negated_if negate (sum_of value ts)
sum_of-quotients value negate g [] some all = zero-*ℤ (pos g) ∙ negated_if-zero negate
sum_of-quotients value negate g (t ∷ ts) some all =
    let q : ℤ = (quotient negate g t).coef in
    let v : ℤ = value t.column in
    let rest = sum_of-quotients value negate g ts some all.1 in
    let first : q *ℤ v *ℤ pos g ≡ negated_if negate (t.coef *ℤ v) =
    exchanged q v (pos g) ∙ ap (λ z. z *ℤ v) (quotient-back negate g t some all.0) ∙ negated_if-*ℤ negate t.coef v in
    +ℤ-*ℤ (q *ℤ v) (sum_of value (map (quotient negate g) ts)) (pos g) ∙ ap (λ z. z +ℤ sum_of value (map (quotient negate g) ts) *ℤ pos g) first ∙ ap (λ z. negated_if negate (t.coef *ℤ v) +ℤ z) rest ∙ sym (negated_if-+ℤ negate (t.coef *ℤ v) (sum_of value ts))

-- ---- normal form

StartsAbove-quotients : (n : ℕ) (negate : Bool) (g : ℕ) (ts : List Term) → StartsAbove n ts → StartsAbove n (map (quotient negate g) ts)
StartsAbove-quotients n negate g [] above = tt
StartsAbove-quotients n negate g (t ∷ ts) above = above

quotient-nonzero : (negate : Bool) (g : ℕ) (t : Term) → 0 < g → g ∣ unsigned_abs t.coef → t.coef ≢ pos 0 → (quotient negate g t).coef ≢ pos 0
quotient-nonzero negate g t some divides nonzero none =
    let signed : pos 0 ≡ negated_if negate t.coef =
    sym (zero-*ℤ (pos g)) ∙ ap (λ z. z *ℤ pos g) (sym none) ∙ quotient-back negate g t some divides in
    nonzero (zero_of_size t.coef (sym (unsigned_abs-negated_if negate t.coef) ∙ sym (ap unsigned_abs signed)))

IsReduced-quotients : (negate : Bool) (g : ℕ) (ts : List Term) → 0 < g → DividesAll g ts → IsReduced ts → IsReduced (map (quotient negate g) ts)
IsReduced-quotients negate g [] some all is = tt
IsReduced-quotients negate g (t ∷ ts) some all is =
    (quotient-nonzero negate g t some all.0 is.0, StartsAbove-quotients t.column negate g ts is.1, IsReduced-quotients negate g ts some all.1 is.2)

positive : (c : ℤ) → c ≢ pos 0 → pos 0 ≤ℤ c → pos 1 ≤ℤ c
positive (pos zero) nonzero h = absurd (nonzero refl)
positive (pos (suc n)) nonzero h = omega (arith, ints)
positive (negsuc n) nonzero h = absurd (omega (arith, ints))

-- turned where it is below 0, a number other than 0 is above 0
turned_positive : (c : ℤ) → c ≢ pos 0 → pos 1 ≤ℤ negated_if (is_negative c) c
turned_positive c nonzero = by (is_negative c) refl
  where
    by : (b : Bool) → is_negative c ≡ b → pos 1 ≤ℤ negated_if b c
    by true e = omega (arith, ints)
    by false e = positive c nonzero (omega (arith, ints))

quotient-positive : (g : ℕ) (t : Term) → 0 < g → g ∣ unsigned_abs t.coef → t.coef ≢ pos 0 → pos 1 ≤ℤ (quotient (is_negative t.coef) g t).coef
quotient-positive g t some divides nonzero =
    reduced_positive (negated_if (is_negative t.coef) t.coef) (pos g) (quotient (is_negative t.coef) g t).coef (turned_positive t.coef nonzero) (at_least_one g some) (quotient-back (is_negative t.coef) g t some divides)

-- what divides all quotients divides, times the divisor, all coefficients
DividesAll-back : (d : ℕ) (negate : Bool) (g : ℕ) (ts : List Term) → 0 < g → DividesAll g ts → DividesAll d (map (quotient negate g) ts) → DividesAll (d * g) ts
DividesAll-back d negate g [] some all divides = tt
DividesAll-back d negate g (t ∷ ts) some all divides =
    let q : ℤ = (quotient negate g t).coef in
    let size : unsigned_abs q * g ≡ unsigned_abs t.coef =
    sym (unsigned_abs-mul q (pos g)) ∙ ap unsigned_abs (quotient-back negate g t some all.0) ∙ unsigned_abs-negated_if negate t.coef in
    (subst (λ n. d * g ∣ n) size (mul-dvd-mul_right d divides.0 g), DividesAll-back d negate g ts some all.1 divides.1)

primitive-quotients : (d : ℕ) (negate : Bool) (ts : List Term) → 0 < divisor_from 0 ts → DividesAll d (map (quotient negate (divisor_from 0 ts)) ts) → d ≡ 1
primitive-quotients d negate ts some divides =
    let g : ℕ = divisor_from 0 ts in
    let all : DividesAll (d * g) ts = DividesAll-back d negate g ts some (divisor_from-divides 0 ts).1 divides in
    let within : d * g ∣ 1 * g = subst (λ n. d * g ∣ n) (omega arith) (dvd-divisor_from (d * g) 0 ts (dvd-zero (d * g)) all) in
    dvd_antisymm (dvd_of_mul-dvd-mul_right d some within) (one-dvd d)

-- the size of a first coefficient that isn't 0
pub size_some : (c : ℤ) → c ≢ pos 0 → 0 < unsigned_abs c
size_some c nonzero = by (cases_lt 0 (unsigned_abs c))
  where
    by : (0 < unsigned_abs c) ⊎ (unsigned_abs c ≤ 0) → 0 < unsigned_abs c
    by (inl some) = some
    by (inr none) = absurd (nonzero (zero_of_size c (omega arith)))

-- a reduced sum over its divisor, turned where its first coefficient is below 0, is in normal form
pub IsNormalForm-quotients : (t : Term) (ts : List Term) → IsReduced (t ∷ ts) → IsNormalForm (map (quotient (is_negative t.coef) (divisor_from 0 (t ∷ ts))) (t ∷ ts))
IsNormalForm-quotients t ts is =
    let g : ℕ = divisor_from 0 (t ∷ ts) in
    let some : 0 < g = divisor_from-some 0 t ts (size_some t.coef is.0) in
    let all : DividesAll g (t ∷ ts) = (divisor_from-divides 0 (t ∷ ts)).1 in
    record {
      is_reduced = IsReduced-quotients (is_negative t.coef) g (t ∷ ts) some all is;
      starts_positive = let first = quotient-positive g t some all.0 is.0 in omega (arith, ints);
      primitive = λ d divides. primitive-quotients d (is_negative t.coef) (t ∷ ts) some divides;
    }
