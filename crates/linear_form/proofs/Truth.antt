-- The literal of a comparison is true exactly where the comparison is.
use Rattle.std.proofs.Common.{◌≡◌, ℕ, ◌*◌, ◌<◌, List, [], ◌∷◌, map, ℤ, pos, neg_ℤ, ◌+ℤ◌, ◌-ℤ◌, ◌*ℤ◌, ◌≤ℤ◌, ◌<ℤ◌, unsigned_abs, Bool, true, false, cond, not, ◌↔◌, refl, sym, ◌∙◌, ap, subst, arith}
use Rattle.std.specs.Int.{is_negative, is_positive}
use Rattle.std.proofs.lemmas.Int.{ints}
use Rattle.std.proofs.Math.IntN.{*ℤ_comm, +ℤ_idl, neg_ℤ-neg_ℤ, *ℤ-zero}
use Rattle.whole.specs.Numbers.{gcd_of}
use Rattle.whole.proofs.Integers.{+ℤ-*ℤ, *ℤ_assoc, neg_ℤ-*ℤ, *ℤ-≤ℤ, *ℤ-<ℤ, ≤ℤ_of_*ℤ, <ℤ_of_*ℤ}
use Rattle.linear_form.specs.declared.lists.Term.{Term}
use Rattle.linear_form.specs.declared.relations.Rel.{Rel}
use Rattle.linear_form.specs.declared.relations.Rel.TheVariants.{AtMost, Below, AtLeast, Above}
use Rattle.linear_form.specs.declared.relations.Comparison.{Comparison}
use Rattle.linear_form.specs.declared.relations.Normal.TheVariants.{Always, Never}
use Rattle.linear_form.specs.Sums.{sum_of}
use Rattle.linear_form.specs.Reduced.{reduced, IsReduced}
use Rattle.linear_form.specs.NormalForm.{Related, Meets, MeetsNormal, turned_if, negated_if, quotient, divisor_from, lowest_num, lowest_den, literal, is_related, normal, normal_of}
use Rattle.linear_form.proofs.CommonDivisor.{divisor_from-divides, divisor_from-some}
use Rattle.linear_form.proofs.QuotientSums.{exchanged, negated_if-*ℤ, negated_if-+ℤ, sum_of-quotients, size_some}
use Rattle.linear_form.proofs.ReducedLists.{sum_of-reduced, IsReduced-reduced}
use Rattle.linear_form.proofs.Threshold.{common_some, lowest_num-back, lowest_den-back}

-- ---- how a number stands to 0

Related-turned : (turn : Bool) (rel : Rel) (z : ℤ) → Related rel z ↔ Related (turned_if turn rel) (negated_if turn z)
Related-turned false rel z = (λ h. h, λ h. h)
Related-turned true AtMost z = (λ h. omega (arith, ints), λ h. omega (arith, ints))
Related-turned true Below z = (λ h. omega (arith, ints), λ h. omega (arith, ints))
Related-turned true AtLeast z = (λ h. omega (arith, ints), λ h. omega (arith, ints))
Related-turned true Above z = (λ h. omega (arith, ints), λ h. omega (arith, ints))

above_zero : (k : ℕ) → 0 < k → pos 0 <ℤ pos k
above_zero k some = omega (arith, ints)

at_least_zero : (k : ℕ) → pos 0 ≤ℤ pos k
at_least_zero k = omega (arith, ints)

-- a factor above 0 changes nothing
pub Related-scaled : (rel : Rel) (k : ℕ) (z : ℤ) → 0 < k → Related rel z ↔ Related rel (pos k *ℤ z)
Related-scaled AtMost k z some = (
  λ h. subst (λ w. (pos k *ℤ z) ≤ℤ w) (*ℤ-zero (pos k)) (*ℤ-≤ℤ (pos k) z (pos 0) (at_least_zero k) h),
  λ h. ≤ℤ_of_*ℤ (pos k) z (pos 0) (above_zero k some) (subst (λ w. (pos k *ℤ z) ≤ℤ w) (sym (*ℤ-zero (pos k))) h),
)
Related-scaled Below k z some = (
  λ h. subst (λ w. (pos k *ℤ z) <ℤ w) (*ℤ-zero (pos k)) (*ℤ-<ℤ (pos k) z (pos 0) (above_zero k some) h),
  λ h. <ℤ_of_*ℤ (pos k) z (pos 0) (above_zero k some) (subst (λ w. (pos k *ℤ z) <ℤ w) (sym (*ℤ-zero (pos k))) h),
)
Related-scaled AtLeast k z some = (
  λ h. subst (λ w. w ≤ℤ (pos k *ℤ z)) (*ℤ-zero (pos k)) (*ℤ-≤ℤ (pos k) (pos 0) z (at_least_zero k) h),
  λ h. ≤ℤ_of_*ℤ (pos k) (pos 0) z (above_zero k some) (subst (λ w. w ≤ℤ (pos k *ℤ z)) (sym (*ℤ-zero (pos k))) h),
)
Related-scaled Above k z some = (
  λ h. subst (λ w. w <ℤ (pos k *ℤ z)) (*ℤ-zero (pos k)) (*ℤ-<ℤ (pos k) (pos 0) z (above_zero k some) h),
  λ h. <ℤ_of_*ℤ (pos k) (pos 0) z (above_zero k some) (subst (λ w. w <ℤ (pos k *ℤ z)) (sym (*ℤ-zero (pos k))) h),
)

not_positive : (z : ℤ) → (z ≤ℤ pos 0) ↔ (not (is_positive z) ≡ true)
not_positive z = by (is_positive z) refl
  where
    by : (b : Bool) → is_positive z ≡ b → (z ≤ℤ pos 0) ↔ (not b ≡ true)
    by true e = (λ h. absurd (omega (arith, ints)), λ p. absurd (cc))
    by false e = (λ h. refl, λ p. omega (arith, ints))

not_negative : (z : ℤ) → (pos 0 ≤ℤ z) ↔ (not (is_negative z) ≡ true)
not_negative z = by (is_negative z) refl
  where
    by : (b : Bool) → is_negative z ≡ b → (pos 0 ≤ℤ z) ↔ (not b ≡ true)
    by true e = (λ h. absurd (omega (arith, ints)), λ p. absurd (cc))
    by false e = (λ h. refl, λ p. omega (arith, ints))

negative : (z : ℤ) → (z <ℤ pos 0) ↔ (is_negative z ≡ true)
negative z = by (is_negative z) refl
  where
    by : (b : Bool) → is_negative z ≡ b → (z <ℤ pos 0) ↔ (b ≡ true)
    by true e = (λ h. refl, λ p. omega (arith, ints))
    by false e = (λ h. absurd (omega (arith, ints)), λ p. absurd (cc))

positive : (z : ℤ) → (pos 0 <ℤ z) ↔ (is_positive z ≡ true)
positive z = by (is_positive z) refl
  where
    by : (b : Bool) → is_positive z ≡ b → (pos 0 <ℤ z) ↔ (b ≡ true)
    by true e = (λ h. refl, λ p. omega (arith, ints))
    by false e = (λ h. absurd (omega (arith, ints)), λ p. absurd (cc))

pub is_related-Related : (rel : Rel) (z : ℤ) → Related rel z ↔ (is_related rel z ≡ true)
is_related-Related AtMost z = not_positive z
is_related-Related Below z = negative z
is_related-Related AtLeast z = not_negative z
is_related-Related Above z = positive z

MeetsNormal-literal : (value : ℕ → ℤ) (den : ℕ) (rel : Rel) (form : List Term) (num d : ℤ) → Related rel (d *ℤ sum_of value form -ℤ num *ℤ pos den) ↔ MeetsNormal value den (literal rel form num d)
MeetsNormal-literal value den AtMost form num d = by (d *ℤ sum_of value form) (num *ℤ pos den)
  where
    by : (a b : ℤ) → ((a -ℤ b) ≤ℤ pos 0) ↔ (a ≤ℤ b)
    by a b = (λ h. omega (arith, ints), λ h. omega (arith, ints))
MeetsNormal-literal value den Below form num d = by (d *ℤ sum_of value form) (num *ℤ pos den)
  where
    by : (a b : ℤ) → ((a -ℤ b) <ℤ pos 0) ↔ (a <ℤ b)
    by a b = (λ h. omega (arith, ints), λ h. omega (arith, ints))
MeetsNormal-literal value den AtLeast form num d = by (d *ℤ sum_of value form) (num *ℤ pos den)
  where
    by : (a b : ℤ) → (pos 0 ≤ℤ (a -ℤ b)) ↔ (b ≤ℤ a)
    by a b = (λ h. omega (arith, ints), λ h. omega (arith, ints))
MeetsNormal-literal value den Above form num d = by (d *ℤ sum_of value form) (num *ℤ pos den)
  where
    by : (a b : ℤ) → (pos 0 <ℤ (a -ℤ b)) ↔ (b <ℤ a)
    by a b = (λ h. omega (arith, ints), λ h. omega (arith, ints))

-- ---- the two sides of a literal against the comparison

-- the distance of the form from its threshold, times the common divisor, is the comparison's number
distance : (negate : Bool) (sum constant form num : ℤ) (den g d h : ℕ) → form *ℤ pos g ≡ negated_if negate sum → d * h ≡ g → num *ℤ pos h ≡ neg_ℤ (negated_if negate constant) → pos h *ℤ (pos d *ℤ form -ℤ num *ℤ pos den) ≡ negated_if negate (sum +ℤ constant *ℤ pos den)
distance negate sum constant form num den g d h sums dens nums =
    let left : pos d *ℤ form *ℤ pos h ≡ negated_if negate sum =
    ap (λ z. z *ℤ pos h) (*ℤ_comm (pos d) form) ∙ *ℤ_assoc form (pos d) (pos h) ∙ ap (λ n. form *ℤ pos n) dens ∙ sums in
    let right : neg_ℤ (num *ℤ pos den) *ℤ pos h ≡ negated_if negate (constant *ℤ pos den) =
    neg_ℤ-*ℤ (num *ℤ pos den) (pos h) ∙ ap neg_ℤ (exchanged num (pos den) (pos h) ∙ ap (λ z. z *ℤ pos den) nums ∙ neg_ℤ-*ℤ (negated_if negate constant) (pos den)) ∙ neg_ℤ-neg_ℤ (negated_if negate constant *ℤ pos den) ∙ negated_if-*ℤ negate constant (pos den) in
    *ℤ_comm (pos h) (pos d *ℤ form -ℤ num *ℤ pos den) ∙ +ℤ-*ℤ (pos d *ℤ form) (neg_ℤ (num *ℤ pos den)) (pos h) ∙ ap (λ z. z +ℤ neg_ℤ (num *ℤ pos den) *ℤ pos h) left ∙ ap (λ z. negated_if negate sum +ℤ z) right ∙ sym (negated_if-+ℤ negate sum (constant *ℤ pos den))

-- ---- the literal

both : {A B C : Type 0} → A ↔ B → B ↔ C → A ↔ C
both p q = (λ a. q.0 (p.0 a), λ c. p.1 (q.1 c))

along : {A : Type 0} {x y : A} (P : A → Type 0) → x ≡ y → P x ↔ P y
along P e = (λ h. subst P e h, λ h. subst P (sym e) h)

decided_truth : (value : ℕ → ℤ) (den : ℕ) (rel : Rel) (constant : ℤ) → 0 < den → Related rel (pos 0 +ℤ constant *ℤ pos den) ↔ MeetsNormal value den (normal [] constant rel)
decided_truth value den rel constant some =
    both (along (Related rel) (+ℤ_idl (constant *ℤ pos den) ∙ *ℤ_comm constant (pos den))) (both (flip (Related-scaled rel den constant some)) (both (is_related-Related rel constant) (by (is_related rel constant))))
  where
    flip : {A B : Type 0} → A ↔ B → B ↔ A
    flip p = (p.1, p.0)

    by : (b : Bool) → (b ≡ true) ↔ MeetsNormal value den (cond b Always Never)
    by true = (λ e. tt, λ u. refl)
    by false = (λ e. absurd (cc), λ u. absurd u)

-- with the numbers of `normal`, for a sum with a first term
bound_truth : (value : ℕ → ℤ) (den : ℕ) (t : Term) (ts : List Term) (constant : ℤ) (rel : Rel) → IsReduced (t ∷ ts) → Related rel (sum_of value (t ∷ ts) +ℤ constant *ℤ pos den) ↔ MeetsNormal value den (normal (t ∷ ts) constant rel)
bound_truth value den t ts constant rel is =
    let negate : Bool = is_negative t.coef in
    let g : ℕ = divisor_from 0 (t ∷ ts) in
    let over : ℤ = neg_ℤ (negated_if negate constant) in
    let h : ℕ = gcd_of (unsigned_abs over) g in
    let form : List Term = map (quotient negate g) (t ∷ ts) in
    let some : 0 < g = divisor_from-some 0 t ts (size_some t.coef is.0) in
    let gap = distance negate (sum_of value (t ∷ ts)) constant (sum_of value form) (lowest_num over g) den g (lowest_den over g) h (sum_of-quotients value negate g (t ∷ ts) some (divisor_from-divides 0 (t ∷ ts)).1) (lowest_den-back over g) (lowest_num-back over g some) in
    let z : ℤ = pos (lowest_den over g) *ℤ sum_of value form -ℤ lowest_num over g *ℤ pos den in
    let turned : Rel = turned_if negate rel in
    both (Related-turned negate rel (sum_of value (t ∷ ts) +ℤ constant *ℤ pos den)) (both (along (Related turned) (sym gap)) (both ((Related-scaled turned h z (common_some over g some)).1, (Related-scaled turned h z (common_some over g some)).0) (MeetsNormal-literal value den turned form (lowest_num over g) (pos (lowest_den over g)))))

normal_truth : (value : ℕ → ℤ) (den : ℕ) (ts : List Term) (constant : ℤ) (rel : Rel) → 0 < den → IsReduced ts → Related rel (sum_of value ts +ℤ constant *ℤ pos den) ↔ MeetsNormal value den (normal ts constant rel)
normal_truth value den [] constant rel some is = decided_truth value den rel constant some
normal_truth value den (t ∷ ts) constant rel some is = bound_truth value den t ts constant rel is

pub normal_of-truth : (c : Comparison) (value : ℕ → ℤ) (den : ℕ) → 0 < den → Meets value den c ↔ MeetsNormal value den (normal_of c)
unfolding normal_of
normal_of-truth c value den some =
    both (along (λ z. Related c.rel (z +ℤ c.constant *ℤ pos den)) (sym (sum_of-reduced value c.terms))) (normal_truth value den (reduced c.terms) c.constant c.rel some (IsReduced-reduced c.terms))
