-- Which entry of a row a number or a too wide operation is for.
use Rattle.std.proofs.Common.{◌≡◌, ℕ, ◌≤◌, Option, None, Some, pos, refl, sym, ap, subst, ◌∙◌, ◌⊎◌, inl, inr}
use Rattle.ordered_field.specs.Rational.{ℚ, whole, ◌+ℚ◌, ◌*ℚ◌, neg_ℚ}
use Rattle.ordered_field.specs.Wideness.{Exceeds, SumIsWide, QuotientExceeds, FmaIsWide}
use Rattle.ordered_field.proofs.RingLaws.{*ℚ_assoc, *ℚ_comm, *ℚ-one, zero-*ℚ, *ℚ-zero, +ℚ-zero, neg_ℚ-neg_ℚ}
use Rattle.ordered_field.proofs.OrderFacts.{neg_ℚ-zero}
use Rattle.ordered_field.proofs.Fractions.{one-apart_zero}
use Rattle.field_rows.specs.Rows.{put, dividend, without}
use Rattle.field_rows.specs.Merging.{number_or_zero, either}
use Rattle.field_rows.specs.Operations.{IsWideProduct, IsWideProductOf, IsWideStep, IsWideStepOf, IsWideQuotient, IsWideEntry}
use Rattle.field_rows.specs.declared.operation.Operation.{Operation}
use Rattle.field_rows.specs.declared.operation.Operation.TheVariants.{Product, Sum}
use Rattle.field_rows.proofs.SumLaws.{put-here, put-elsewhere, same_or_apart}
use Rattle.field_rows.proofs.NumberLaws.{FmaIsWide-same}
use Rattle.field_rows.proofs.ZeroLaws.{zero_exceeds_not}
use Rattle.field_rows.specs.Zeros.{ZeroFits}

same_product : (x x' y y' : ℚ) → x ≡ x' → y ≡ y' → x *ℚ y ≡ x' *ℚ y'
same_product x x' y y' e f = ap (λ v. v *ℚ y) e ∙ ap (λ v. x' *ℚ v) f

pub minus_one-apart_zero : neg_ℚ (whole (pos 1)) ≡ whole (pos 0) → ⊥
minus_one-apart_zero none = one-apart_zero (sym (neg_ℚ-neg_ℚ _) ∙ ap neg_ℚ none ∙ neg_ℚ-zero)

-- ---- the solved row

-- v is the solved row's coefficient at k
abbrev pub IsQuotientAt : ℕ → ℕ → ℕ → (ℕ → ℚ) → ℕ → ℚ → Type 0
IsQuotientAt limit b o c k v = (v *ℚ c o ≡ dividend b o c k) × (¬ QuotientExceeds limit (dividend b o c k) (c o))

pub IsQuotientAt-by : (limit b o : ℕ) (c : ℕ → ℚ) (k : ℕ) (v divided factor : ℚ) → divided ≡ dividend b o c k → factor *ℚ c o ≡ whole (pos 1) → v ≡ divided *ℚ factor → (Exceeds limit (divided *ℚ factor) → ⊥) → IsQuotientAt limit b o c k v
IsQuotientAt-by limit b o c k v divided factor p inverts exact kept =
    (ap (λ w. w *ℚ c o) exact ∙ *ℚ_assoc _ _ _ ∙ ap (λ w. divided *ℚ w) inverts ∙ *ℚ-one _ ∙ p, λ wide. kept (subst (λ q. Exceeds limit q) (quotient_is wide) wide.overflows))
  where
    quotient_is : (wide : QuotientExceeds limit (dividend b o c k) (c o)) → wide.quotient ≡ divided *ℚ factor
    quotient_is wide =
        sym (*ℚ-one _) ∙ ap (λ w. wide.quotient *ℚ w) (sym inverts ∙ *ℚ_comm _ _) ∙ sym (*ℚ_assoc _ _ _) ∙ ap (λ w. w *ℚ factor) (wide.divides ∙ sym p)

-- the row of the one number y at b
abbrev pub one_at : ℕ → ℚ → ℕ → ℚ
one_at b y = put b y (λ k. whole (pos 0))

abbrev pub minus_at : ℕ → ℕ → ℚ
minus_at b = one_at b (neg_ℚ (whole (pos 1)))

pub one_at-zero : (b v : ℕ) (y : ℚ) → y ≡ whole (pos 0) → one_at b y v ≡ whole (pos 0)
one_at-zero b v y none = by_place (same_or_apart b v)
  where
    by_place : (v ≡ b) ⊎ (v ≡ b → ⊥) → one_at b y v ≡ whole (pos 0)
    by_place (inl here) = put-here b v _ _ here ∙ none
    by_place (inr apart) = put-elsewhere b v _ _ apart

-- the first number in front is that of the row with y put at o
pub put_by_front : {F : Type 0} (value : F → ℚ) (o : ℕ) (y : ℚ) (c : ℕ → ℚ) (k : ℕ) (new old : Option F) → number_or_zero value new ≡ one_at o y k → (k ≡ o) ⊎ (k ≡ o → ⊥) → ((x : F) → new ≡ Some x → value x ≡ whole (pos 0) → ⊥) → number_or_zero value old ≡ without o c k → number_or_zero value (either new old) ≡ put o y c k
put_by_front value o y c k None old place (inl here) some at_k =
    at_k ∙ put-here o k _ c here ∙ place ∙ put-here o k _ _ here ∙ sym (put-here o k _ c here)
put_by_front value o y c k None old place (inr apart) some at_k =
    at_k ∙ put-elsewhere o k _ c apart ∙ sym (put-elsewhere o k _ c apart)
put_by_front value o y c k (Some x) old place (inl here) some at_k = place ∙ put-here o k _ _ here ∙ sym (put-here o k _ c here)
put_by_front value o y c k (Some x) old place (inr apart) some at_k =
    absurd (some x refl (place ∙ put-elsewhere o k _ _ apart))

-- the numbers of both rows at k make the dividend there
pub dividend_by_front : {F : Type 0} (value : F → ℚ) (b o : ℕ) (c : ℕ → ℚ) (k : ℕ) (minus number : Option F) → number_or_zero value minus ≡ minus_at b k → (k ≡ b) ⊎ (k ≡ b → ⊥) → ((x : F) → minus ≡ Some x → value x ≡ whole (pos 0) → ⊥) → number_or_zero value number ≡ without o c k → neg_ℚ (number_or_zero value (either minus number)) ≡ dividend b o c k
dividend_by_front value b o c k None number place (inr apart) some at_k =
    ap neg_ℚ at_k ∙ by_place (same_or_apart o k) ∙ sym (put-elsewhere b k _ _ apart)
  where
    by_place : (k ≡ o) ⊎ (k ≡ o → ⊥) → neg_ℚ (without o c k) ≡ put o (whole (pos 0)) (λ k. neg_ℚ (c k)) k
    by_place (inl here) = ap neg_ℚ (put-here o k _ c here) ∙ neg_ℚ-zero ∙ sym (put-here o k _ _ here)
    by_place (inr off) = ap neg_ℚ (put-elsewhere o k _ c off) ∙ sym (put-elsewhere o k _ _ off)
dividend_by_front value b o c k None number place (inl here) some at_k =
    absurd (minus_one-apart_zero (sym (put-here b k _ _ here) ∙ sym place))
dividend_by_front value b o c k (Some x) number place (inr apart) some at_k =
    absurd (some x refl (place ∙ put-elsewhere b k _ _ apart))
dividend_by_front value b o c k (Some x) number place (inl here) some at_k =
    ap neg_ℚ (place ∙ put-here b k _ _ here) ∙ neg_ℚ-neg_ℚ _ ∙ sym (put-here b k _ _ here)

-- nothing stands where neither row has a number
pub IsQuotientAt-quiet : (limit b o : ℕ) (c : ℕ → ℚ) (u : ℕ) (factor : ℚ) → 1 ≤ limit → factor *ℚ c o ≡ whole (pos 1) → c u ≡ whole (pos 0) → minus_at b u ≡ whole (pos 0) → IsQuotientAt limit b o c u (whole (pos 0))
IsQuotientAt-quiet limit b o c u factor some inverts none no_minus =
    IsQuotientAt-by limit b o c u (whole (pos 0)) (whole (pos 0)) factor (sym (by_place (same_or_apart b u) (same_or_apart o u))) inverts (sym (zero-*ℚ _)) (λ wide. zero_exceeds_not limit some (subst (λ v. Exceeds limit v) (zero-*ℚ _) wide))
  where
    by_place : (u ≡ b) ⊎ (u ≡ b → ⊥) → (u ≡ o) ⊎ (u ≡ o → ⊥) → dividend b o c u ≡ whole (pos 0)
    by_place (inl here) at_o = absurd (minus_one-apart_zero (sym (put-here b u _ _ here) ∙ no_minus))
    by_place (inr apart) (inl here) = put-elsewhere b u _ _ apart ∙ put-here o u _ _ here
    by_place (inr apart) (inr off) =
        put-elsewhere b u _ _ apart ∙ put-elsewhere o u _ _ off ∙ ap neg_ℚ none ∙ neg_ℚ-zero

pub IsWideQuotient-by : {F : Type 0} (limit : ℕ) (value : F → ℚ) (b o : ℕ) (c : ℕ → ℚ) (k : ℕ) (divided : ℚ) (factor : F) (operation : Operation F) → divided ≡ dividend b o c k → value factor *ℚ c o ≡ whole (pos 1) → IsWideProductOf limit value divided factor operation → IsWideQuotient limit value b o c k operation
IsWideQuotient-by limit value b o c k divided factor (Product p q) is inverts wide =
    (wide.0 ∙ is, ap (λ f. f *ℚ c o) wide.1 ∙ inverts, wide.2)
IsWideQuotient-by limit value b o c k divided factor (Sum p q) is inverts wide = wide

pub IsWideProductOf-by : {F : Type 0} (limit : ℕ) (value : F → ℚ) (x : ℚ) (a k : F) (operation : Operation F) → value a ≡ x → IsWideProduct limit value a k operation → IsWideProductOf limit value x k operation
IsWideProductOf-by limit value x a k (Product p q) is wide =
    (ap value wide.0 ∙ is, ap value wide.1, subst (λ v. Exceeds limit v) (same_product _ _ _ _ (ap value (sym wide.0)) (ap value (sym wide.1))) wide.2)
IsWideProductOf-by limit value x a k (Sum p q) is wide = wide

-- ---- the row that follows

-- v is the coefficient at k of the row that follows
abbrev pub IsEntryAt : ℕ → ℕ → (ℕ → ℚ) → (ℕ → ℚ) → ℕ → ℚ → Type 0
IsEntryAt limit o d c k v = (v ≡ without o c k +ℚ c o *ℚ d k) × (¬ FmaIsWide limit (without o c k) (c o) (d k))

-- nothing is added
pub added_nothing : (x k : ℚ) → x +ℚ k *ℚ whole (pos 0) ≡ x
added_nothing x k = ap (λ v. x +ℚ v) (*ℚ-zero k) ∙ +ℚ-zero x

pub nothing_added : (limit : ℕ) (x k : ℚ) → ZeroFits limit x → ZeroFits limit k → FmaIsWide limit x k (whole (pos 0)) → ⊥
nothing_added limit x k x_fits k_fits (inl wide) = k_fits.right_product wide
nothing_added limit x k x_fits k_fits (inr wide) = x_fits.right_sum (subst (λ v. SumIsWide limit x v) (*ℚ-zero k) wide)

without-none : (o u : ℕ) (c : ℕ → ℚ) → c u ≡ whole (pos 0) → without o c u ≡ whole (pos 0)
without-none o u c none = by_place (same_or_apart o u)
  where
    by_place : (u ≡ o) ⊎ (u ≡ o → ⊥) → without o c u ≡ whole (pos 0)
    by_place (inl here) = put-here o u _ c here
    by_place (inr off) = put-elsewhere o u _ c off ∙ none

pub IsEntryAt-by : (limit o : ℕ) (d c : ℕ → ℚ) (k : ℕ) (v x f y : ℚ) → x ≡ without o c k → f ≡ c o → y ≡ d k → v ≡ x +ℚ f *ℚ y → (FmaIsWide limit x f y → ⊥) → IsEntryAt limit o d c k v
IsEntryAt-by limit o d c k v x f y p q r exact kept =
    (cc, λ wide. kept (FmaIsWide-same limit _ _ _ _ _ _ (sym p) (sym q) (sym r) wide))

pub IsEntryAt-quiet : (limit o : ℕ) (d c : ℕ → ℚ) (u : ℕ) → ZeroFits limit (whole (pos 0)) → ZeroFits limit (c o) → c u ≡ whole (pos 0) → d u ≡ whole (pos 0) → IsEntryAt limit o d c u (whole (pos 0))
IsEntryAt-quiet limit o d c u zero_fit fit none none_added =
    IsEntryAt-by limit o d c u (whole (pos 0)) (whole (pos 0)) (c o) (whole (pos 0)) (sym (without-none o u c none)) refl (sym none_added) (sym (added_nothing _ _)) (nothing_added limit (whole (pos 0)) (c o) zero_fit fit)

pub IsWideEntry-by : {F : Type 0} (limit : ℕ) (value : F → ℚ) (o : ℕ) (d c : ℕ → ℚ) (k : ℕ) (x : ℚ) (f : F) (y : ℚ) (operation : Operation F) → x ≡ without o c k → value f ≡ c o → y ≡ d k → IsWideStepOf limit value x f y operation → IsWideEntry limit value o d c k operation
IsWideEntry-by limit value o d c k x f y (Product p q) entry factor added wide = (wide.0 ∙ factor, wide.1 ∙ added, wide.2)
IsWideEntry-by limit value o d c k x f y (Sum p q) entry factor added wide =
    (wide.0 ∙ entry, wide.1 ∙ same_product _ _ _ _ factor added, wide.2)

pub IsWideStepOf-by : {F : Type 0} (limit : ℕ) (value : F → ℚ) (x k y : F) (operation : Operation F) → IsWideStep limit value x k y operation → IsWideStepOf limit value (value x) k (value y) operation
IsWideStepOf-by limit value x k y (Product p q) wide =
    (ap value wide.0, ap value wide.1, subst (λ v. Exceeds limit v) (same_product _ _ _ _ (ap value (sym wide.0)) (ap value (sym wide.1))) wide.2)
IsWideStepOf-by limit value x k y (Sum p q) wide =
    (ap value wide.0, wide.1, subst (λ v. SumIsWide limit v (value q)) (ap value (sym wide.0)) (subst (λ v. SumIsWide limit (value x) v) (sym wide.1) wide.2))

-- a wide product is a wide step from zero
pub IsWideStepOf-product : {F : Type 0} (limit : ℕ) (value : F → ℚ) (x : ℚ) (k y : F) (operation : Operation F) → IsWideProduct limit value k y operation → IsWideStepOf limit value x k (value y) operation
IsWideStepOf-product limit value x k y (Product p q) wide =
    (ap value wide.0, ap value wide.1, subst (λ v. Exceeds limit v) (same_product _ _ _ _ (ap value (sym wide.0)) (ap value (sym wide.1))) wide.2)
IsWideStepOf-product limit value x k y (Sum p q) wide = absurd wide
