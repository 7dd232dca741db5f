-- The literal of a comparison is in normal form, and comparisons that agree up to a factor above 0 have one literal.
use Rattle.std.proofs.Common.{◌≡◌, ℕ, ◌*◌, ◌<◌, nat_eq, List, [], ◌∷◌, map, ℤ, pos, neg_ℤ, ◌+ℤ◌, ◌*ℤ◌, unsigned_abs, Bool, true, false, cond, refl, sym, ◌∙◌, ap, subst, arith, ◌≢◌}
use Rattle.std.specs.Prelude.{int_div}
use Rattle.std.specs.Int.{◌∣◌, is_negative}
use Rattle.std.proofs.lemmas.Int.{ints, unsigned_abs-mul}
use Rattle.std.proofs.Math.IntN.{*ℤ_comm, *ℤ-zero}
use Rattle.std.proofs.Math.Nat.{mul_comm, mul-dvd-mul_right, mul-pos, eq_of_mul-eq-mul_right, zero-mul}
use Rattle.whole.specs.Numbers.{gcd_of}
use Rattle.whole.proofs.Divisors.{IsGcd-gcd_of, gcd_of-scaled}
use Rattle.whole.proofs.Integers.{*ℤ_assoc, *ℤ-+ℤ, *ℤ-neg_ℤ, *ℤ_cancel}
use Rattle.lowest_terms.specs.Coprime.{IsCoprime}
use Rattle.lowest_terms.proofs.Scaling.{exact_quotient, cancel_scale}
use Rattle.linear_form.specs.declared.lists.Term.{Term}
use Rattle.linear_form.specs.declared.relations.Rel.{Rel}
use Rattle.linear_form.specs.declared.relations.Rel.TheVariants.{AtMost, Below, AtLeast, Above}
use Rattle.linear_form.specs.declared.relations.Comparison.{Comparison}
use Rattle.linear_form.specs.declared.relations.Normal.TheVariants.{Always, Never}
use Rattle.linear_form.specs.Sums.{coef_at}
use Rattle.linear_form.specs.Reduced.{reduced, StartsAbove, IsReduced}
use Rattle.linear_form.specs.NormalForm.{IsNormal, IsNormalForm, SameUpToFactor, DividesAll, negated_if, turned_if, quotient, divisor_from, lowest_num, lowest_den, literal, is_related, bound, normal, normal_of}
use Rattle.linear_form.proofs.CommonDivisor.{scaled, divisor_from-scaled, divisor_from-divides, divisor_from-some}
use Rattle.linear_form.proofs.QuotientSums.{IsNormalForm-quotients, size_some, at_least_one, unsigned_abs-negated_if}
use Rattle.linear_form.proofs.ReducedLists.{IsReduced-reduced, coef_at-reduced, same_reduced}
use Rattle.linear_form.proofs.Threshold.{common_some, lowest_den-back, lowest_den-some, lowest-coprime}
use Rattle.linear_form.proofs.Truth.{Related-scaled, is_related-Related}

-- ---- normal form

IsNormal-literal : (rel : Rel) (form : List Term) (num : ℤ) (d : ℕ) → IsNormalForm form → 0 < d → IsCoprime (unsigned_abs num) d → IsNormal (literal rel form num (pos d))
IsNormal-literal AtMost form num d is some apart = (is, at_least_one d some, apart)
IsNormal-literal Below form num d is some apart = (is, at_least_one d some, apart)
IsNormal-literal AtLeast form num d is some apart = (is, at_least_one d some, apart)
IsNormal-literal Above form num d is some apart = (is, at_least_one d some, apart)

IsNormal-normal : (ts : List Term) (constant : ℤ) (rel : Rel) → IsReduced ts → IsNormal (normal ts constant rel)
IsNormal-normal [] constant rel is =
    elim (is_related rel constant) as (λ b. IsNormal (cond b Always Never)) [ true ↦ tt | false ↦ tt ]
IsNormal-normal (t ∷ ts) constant rel is =
    let g : ℕ = divisor_from 0 (t ∷ ts) in
    let some : 0 < g = divisor_from-some 0 t ts (size_some t.coef is.0) in
    let over : ℤ = neg_ℤ (negated_if (is_negative t.coef) constant) in
    IsNormal-literal (turned_if (is_negative t.coef) rel) (map (quotient (is_negative t.coef) g) (t ∷ ts)) (lowest_num over g) (lowest_den over g) (IsNormalForm-quotients t ts is) (lowest_den-some over g some) (lowest-coprime over g some)

pub IsNormal-normal_of : (c : Comparison) → IsNormal (normal_of c)
unfolding normal_of
IsNormal-normal_of c = IsNormal-normal (reduced c.terms) c.constant c.rel (IsReduced-reduced c.terms)

-- ---- a factor above 0 in all coefficients and the constant

-- it cancels in a quotient
int_div-scaled : (z : ℤ) (g k : ℕ) → 0 < g → 0 < k → g ∣ unsigned_abs z → int_div (pos k *ℤ z) (pos (g * k)) ≡ int_div z (pos g)
int_div-scaled z g k some_g some_k divides =
    let size : unsigned_abs z * k ≡ unsigned_abs (pos k *ℤ z) = mul_comm (unsigned_abs z) k ∙ sym (unsigned_abs-mul (pos k) z) in
    let more : g * k ∣ unsigned_abs (pos k *ℤ z) = subst (λ n. g * k ∣ n) size (mul-dvd-mul_right g divides k) in
    let both : 0 < g * k = mul-pos some_g some_k in
    let high : int_div (pos k *ℤ z) (pos (g * k)) *ℤ pos (g * k) ≡ pos k *ℤ z =
    exact_quotient (pos k *ℤ z) (pos (g * k)) (at_least_one (g * k) both) more in
    let low : int_div z (pos g) *ℤ pos g ≡ z = exact_quotient z (pos g) (at_least_one g some_g) divides in
    cancel_scale (int_div (pos k *ℤ z) (pos (g * k))) (int_div z (pos g)) (g * k) both (high ∙ ap (λ w. pos k *ℤ w) (sym low) ∙ *ℤ_comm (pos k) (int_div z (pos g) *ℤ pos g) ∙ *ℤ_assoc (int_div z (pos g)) (pos g) (pos k))

common-scaled : (n : ℤ) (d k : ℕ) → 0 < k → gcd_of (unsigned_abs (pos k *ℤ n)) (d * k) ≡ gcd_of (unsigned_abs n) d * k
common-scaled n d k some =
    ap (λ m. gcd_of m (d * k)) (unsigned_abs-mul (pos k) n ∙ mul_comm k (unsigned_abs n)) ∙ gcd_of-scaled (unsigned_abs n) d k some

lowest_num-scaled : (n : ℤ) (d k : ℕ) → 0 < d → 0 < k → lowest_num (pos k *ℤ n) (d * k) ≡ lowest_num n d
lowest_num-scaled n d k some_d some_k =
    ap (λ h. int_div (pos k *ℤ n) (pos h)) (common-scaled n d k some_k) ∙ int_div-scaled n (gcd_of (unsigned_abs n) d) k (common_some n d some_d) some_k (IsGcd-gcd_of (unsigned_abs n) d).0

lowest_den-scaled : (n : ℤ) (d k : ℕ) → 0 < d → 0 < k → lowest_den (pos k *ℤ n) (d * k) ≡ lowest_den n d
lowest_den-scaled n d k some_d some_k =
    let h : ℕ = gcd_of (unsigned_abs n) d in
    let high : lowest_den (pos k *ℤ n) (d * k) * (h * k) ≡ d * k =
    ap (λ m. lowest_den (pos k *ℤ n) (d * k) * m) (sym (common-scaled n d k some_k)) ∙ lowest_den-back (pos k *ℤ n) (d * k) in
    let low : lowest_den n d * (h * k) ≡ d * k = omega arith ∙ ap (λ m. m * k) (lowest_den-back n d) in
    eq_of_mul-eq-mul_right (h * k) (mul-pos (common_some n d some_d) some_k) _ _ (high ∙ sym low)

negated_if-scaled : (negate : Bool) (k : ℕ) (z : ℤ) → negated_if negate (pos k *ℤ z) ≡ pos k *ℤ negated_if negate z
negated_if-scaled false k z = refl
negated_if-scaled true k z = sym (*ℤ-neg_ℤ (pos k) z)

unsigned_abs-negated : (negate : Bool) (g : ℕ) (z : ℤ) → g ∣ unsigned_abs z → g ∣ unsigned_abs (negated_if negate z)
unsigned_abs-negated negate g z divides = subst (λ n. g ∣ n) (sym (unsigned_abs-negated_if negate z)) divides

quotients-scaled : (negate : Bool) (g k : ℕ) (ts : List Term) → 0 < g → 0 < k → DividesAll g ts → map (quotient negate (g * k)) (scaled k ts) ≡ map (quotient negate g) ts
quotients-scaled negate g k [] some_g some_k all = refl
quotients-scaled negate g k (t ∷ ts) some_g some_k all =
    let coefs : int_div (negated_if negate (pos k *ℤ t.coef)) (pos (g * k)) ≡ int_div (negated_if negate t.coef) (pos g) =
    ap (λ z. int_div z (pos (g * k))) (negated_if-scaled negate k t.coef) ∙ int_div-scaled (negated_if negate t.coef) g k some_g some_k (unsigned_abs-negated negate g t.coef all.0) in
    let head : quotient negate (g * k) (record { column = t.column; coef = pos k *ℤ t.coef }) ≡ quotient negate g t =
    ap (λ z. record { column = t.column; coef = z }) coefs in
    ap (λ u. u ∷ map (quotient negate (g * k)) (scaled k ts)) head ∙ ap (λ us. quotient negate g t ∷ us) (quotients-scaled negate g k ts some_g some_k all.1)

-- two tests that hold together are one
same_test : (p q : Bool) → (p ≡ true → q ≡ true) → (q ≡ true → p ≡ true) → p ≡ q
same_test true q f g = sym (f refl)
same_test false true f g = g refl
same_test false false f g = refl

is_related-scaled : (rel : Rel) (k : ℕ) (z : ℤ) → 0 < k → is_related rel (pos k *ℤ z) ≡ is_related rel z
is_related-scaled rel k z some =
    let both = Related-scaled rel k z some in
    let high = is_related-Related rel (pos k *ℤ z) in
    let low = is_related-Related rel z in
    same_test (is_related rel (pos k *ℤ z)) (is_related rel z) (λ e. low.0 (both.1 (high.1 e))) (λ e. high.0 (both.0 (low.1 e)))

bound-scaled : (negate : Bool) (k : ℕ) (ts : List Term) (constant : ℤ) (rel : Rel) → 0 < k → 0 < divisor_from 0 ts → bound negate (scaled k ts) (pos k *ℤ constant) rel ≡ bound negate ts constant rel
bound-scaled negate k ts constant rel some_k some_g =
    let g : ℕ = divisor_from 0 ts in
    let over : ℤ = neg_ℤ (negated_if negate constant) in
    let turned : Rel = turned_if negate rel in
    let divisor : divisor_from 0 (scaled k ts) ≡ g * k =
    ap (λ n. divisor_from n (scaled k ts)) (sym (zero-mul k)) ∙ divisor_from-scaled k 0 ts some_k in
    let high : neg_ℤ (negated_if negate (pos k *ℤ constant)) ≡ pos k *ℤ over =
    ap neg_ℤ (negated_if-scaled negate k constant) ∙ sym (*ℤ-neg_ℤ (pos k) (negated_if negate constant)) in
    ap (λ d. literal turned (map (quotient negate d) (scaled k ts)) (lowest_num (neg_ℤ (negated_if negate (pos k *ℤ constant))) d) (pos (lowest_den (neg_ℤ (negated_if negate (pos k *ℤ constant))) d))) divisor ∙ ap (λ z. literal turned (map (quotient negate (g * k)) (scaled k ts)) (lowest_num z (g * k)) (pos (lowest_den z (g * k)))) high ∙ ap (λ us. literal turned us (lowest_num (pos k *ℤ over) (g * k)) (pos (lowest_den (pos k *ℤ over) (g * k)))) (quotients-scaled negate g k ts some_g some_k (divisor_from-divides 0 ts).1) ∙ ap (λ z. literal turned (map (quotient negate g) ts) z (pos (lowest_den (pos k *ℤ over) (g * k)))) (lowest_num-scaled over g k some_g some_k) ∙ ap (λ n. literal turned (map (quotient negate g) ts) (lowest_num over g) (pos n)) (lowest_den-scaled over g k some_g some_k)

normal-scaled : (k : ℕ) (ts : List Term) (constant : ℤ) (rel : Rel) → 0 < k → IsReduced ts → normal (scaled k ts) (pos k *ℤ constant) rel ≡ normal ts constant rel
normal-scaled k [] constant rel some is = ap (λ b. cond b Always Never) (is_related-scaled rel k constant some)
normal-scaled k (t ∷ ts) constant rel some is =
    ap (λ b. bound b (scaled k (t ∷ ts)) (pos k *ℤ constant) rel) (is_related-scaled Below k t.coef some) ∙ bound-scaled (is_negative t.coef) k (t ∷ ts) constant rel some (divisor_from-some 0 t ts (size_some t.coef is.0))

-- ---- one literal

coef_at-scaled : (j k : ℕ) (ts : List Term) → coef_at j (scaled k ts) ≡ pos k *ℤ coef_at j ts
coef_at-scaled j k [] = sym (*ℤ-zero (pos k))
coef_at-scaled j k (t ∷ ts) = by (nat_eq t.column j) (coef_at-scaled j k ts)
  where
    by : (here : Bool) → coef_at j (scaled k ts) ≡ pos k *ℤ coef_at j ts → cond here (pos k *ℤ t.coef +ℤ coef_at j (scaled k ts)) (coef_at j (scaled k ts)) ≡ pos k *ℤ cond here (t.coef +ℤ coef_at j ts) (coef_at j ts)
    by true e = ap (λ z. pos k *ℤ t.coef +ℤ z) e ∙ sym (*ℤ-+ℤ (pos k) t.coef (coef_at j ts))
    by false e = e

StartsAbove-scaled : (n k : ℕ) (ts : List Term) → StartsAbove n ts → StartsAbove n (scaled k ts)
StartsAbove-scaled n k [] above = tt
StartsAbove-scaled n k (t ∷ ts) above = above

nonzero-scaled : (k : ℕ) (z : ℤ) → 0 < k → z ≢ pos 0 → pos k *ℤ z ≢ pos 0
nonzero-scaled k z some nonzero none = nonzero (*ℤ_cancel (pos k) z (pos 0) (omega (arith, ints)) (none ∙ sym (*ℤ-zero (pos k))))

IsReduced-scaled : (k : ℕ) (ts : List Term) → 0 < k → IsReduced ts → IsReduced (scaled k ts)
IsReduced-scaled k [] some is = tt
IsReduced-scaled k (t ∷ ts) some is =
    (nonzero-scaled k t.coef some is.0, StartsAbove-scaled t.column k ts is.1, IsReduced-scaled k ts some is.2)

coef_at-scaled_reduced : (j k : ℕ) (ts : List Term) → coef_at j (scaled k (reduced ts)) ≡ pos k *ℤ coef_at j ts
coef_at-scaled_reduced j k ts = coef_at-scaled j k (reduced ts) ∙ ap (λ z. pos k *ℤ z) (coef_at-reduced j ts)

pub normal_of-same : (a b : Comparison) → SameUpToFactor a b → normal_of a ≡ normal_of b
unfolding normal_of
normal_of-same a b same =
    let lists : scaled same.left (reduced a.terms) ≡ scaled same.right (reduced b.terms) =
    same_reduced (scaled same.left (reduced a.terms)) (scaled same.right (reduced b.terms)) (IsReduced-scaled same.left (reduced a.terms) same.some_left (IsReduced-reduced a.terms)) (IsReduced-scaled same.right (reduced b.terms) same.some_right (IsReduced-reduced b.terms)) (λ j. coef_at-scaled_reduced j same.left a.terms ∙ same.sums j ∙ sym (coef_at-scaled_reduced j same.right b.terms)) in
    sym (normal-scaled same.left (reduced a.terms) a.constant a.rel same.some_left (IsReduced-reduced a.terms)) ∙ ap (λ ts. normal ts (pos same.left *ℤ a.constant) a.rel) lists ∙ ap (λ z. normal (scaled same.right (reduced b.terms)) z a.rel) same.constants ∙ ap (normal (scaled same.right (reduced b.terms)) (pos same.right *ℤ b.constant)) same.rels ∙ normal-scaled same.right (reduced b.terms) b.constant b.rel same.some_right (IsReduced-reduced b.terms)
