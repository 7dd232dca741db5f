-- What a comparison, a sign and a look-up tell.
use Rattle.std.proofs.Common.{◌≡◌, ℕ, ℤ, pos, negsuc, Bool, true, false, not, MatchBool, List, Option, None, Some, option_map, ◌⊎◌, inl, inr, ◌↔◌, refl, sym, ap, subst, ◌∙◌}
use Rattle.std.specs.Option.{IfSome, IsSomeAnd}
use Rattle.ordered_field.specs.Rational.{ℚ, whole}
use Rattle.ordered_field.specs.Order.{◌<ℚ◌}
use Rattle.ordered_field.specs.Delta.{DeltaValue, ◌≤δ◌, ◌<δ◌}
use Rattle.ordered_field.specs.declared.delta.Delta.{Delta}
use Rattle.ordered_field.proofs.OrderLaws.{trichotomy}
use Rattle.ordered_field.proofs.DeltaOrder.{≤δ_refl, <δ-≤δ, <δ-not_≥}
use Rattle.simplex.specs.declared.limits.Limit.{Limit}
use Rattle.simplex.specs.Limits.{limit_value, in_force}
use Rattle.simplex.specs.Corners.{HelpsByRising, HelpsByFalling}
use Rattle.simplex.specs.States.{limits_in}
use Rattle.simplex.proofs.LimitLaws.{in_force-map, ≤δ_from_not_>}

pub below-not_same : (x y : DeltaValue) → x ≡ y → (false ≡ true) ↔ (x <δ y)
below-not_same x y e = (λ h. absurd (cc), λ h. absurd (<δ-not_≥ x y h (subst (λ z. z ≤δ x) e (≤δ_refl x))))

pub below-not_above : (x y : DeltaValue) → y <δ x → (false ≡ true) ↔ (x <δ y)
below-not_above x y less = (λ h. absurd (cc), λ h. absurd (<δ-not_≥ x y h (<δ-≤δ y x less)))

-- a sign that is neither -1 nor 0 is of a number above zero, and likewise
pub rising_above : (upper : Bool) (x : ℚ) → whole (pos 0) <ℚ x → MatchBool (not upper) (HelpsByRising upper x) (HelpsByFalling upper x)
rising_above true x more = more
rising_above false x more = more

pub rising_below : (upper : Bool) (x : ℚ) → x <ℚ whole (pos 0) → MatchBool upper (HelpsByRising upper x) (HelpsByFalling upper x)
rising_below true x less = less
rising_below false x less = less

pub sign_above : (s : ℤ) (x : ℚ) → ((s ≡ negsuc 0) ↔ (x <ℚ whole (pos 0))) → (x ≡ whole (pos 0) → ⊥) → (s ≡ negsuc 0 → ⊥) → whole (pos 0) <ℚ x
sign_above s x minus some n = by (trichotomy x (whole (pos 0)))
  where
    by : (x <ℚ whole (pos 0)) ⊎ ((x ≡ whole (pos 0)) ⊎ (whole (pos 0) <ℚ x)) → whole (pos 0) <ℚ x
    by (inl less) = absurd (n (minus.1 less))
    by (inr (inl zero)) = absurd (some zero)
    by (inr (inr more)) = more

pub sign_below : (s : ℤ) (x : ℚ) → ((s ≡ pos 1) ↔ (whole (pos 0) <ℚ x)) → (x ≡ whole (pos 0) → ⊥) → (s ≡ pos 1 → ⊥) → x <ℚ whole (pos 0)
sign_below s x plus some n = by (trichotomy x (whole (pos 0)))
  where
    by : (x <ℚ whole (pos 0)) ⊎ ((x ≡ whole (pos 0)) ⊎ (whole (pos 0) <ℚ x)) → x <ℚ whole (pos 0)
    by (inl less) = less
    by (inr (inl zero)) = absurd (some zero)
    by (inr (inr more)) = absurd (n (plus.1 more))

-- ---- look-ups

pub in_force-some : {F : Type 0} (value : F → ℚ) (u : Bool) (v : ℕ) (ls : List (Limit (Delta F))) (l : Limit (Delta F)) → Some l ≡ in_force u v ls → in_force u v (limits_in value ls) ≡ Some (limit_value value l)
in_force-some value u v ls l e = sym (in_force-map value u v ls) ∙ ap (option_map (limit_value value)) (sym e)

pub in_force-none : {F : Type 0} (value : F → ℚ) (u : Bool) (v : ℕ) (ls : List (Limit (Delta F))) → None ≡ in_force u v ls → in_force u v (limits_in value ls) ≡ None
in_force-none value u v ls e = sym (in_force-map value u v ls) ∙ ap (option_map (limit_value value)) (sym e)

pub if_some-by : {A : Type 0} (P : A → Type 0) (o : Option A) (x : A) → o ≡ Some x → P x → IfSome o P
if_some-by P o x e h = subst (λ o'. IfSome o' P) (sym e) h

pub if_some-none : {A : Type 0} (P : A → Type 0) (o : Option A) → o ≡ None → IfSome o P
if_some-none P o e = subst (λ o'. IfSome o' P) (sym e) tt

pub is_some_and-by : {A : Type 0} (P : A → Type 0) (o : Option A) (x : A) → o ≡ Some x → P x → IsSomeAnd o P
is_some_and-by P o x e h = subst (λ o'. IsSomeAnd o' P) (sym e) h

pub tells-some : {A : Type 0} (P : A → Type 0) (b : Bool) (o : Option A) (x : A) → o ≡ Some x → (b ≡ true) ↔ P x → (b ≡ true) ↔ IfSome o P
tells-some P b o x e h = subst (λ o'. (b ≡ true) ↔ IfSome o' P) (sym e) h

pub tells-none : {A : Type 0} (P : A → Type 0) (o : Option A) → o ≡ None → (true ≡ true) ↔ IfSome o P
tells-none P o e = (λ h. if_some-none P o e, λ h. refl)

-- a test that fails says the converse of below
pub at_least : (b : Bool) (x y : DeltaValue) → (b ≡ true) ↔ (x <δ y) → b ≡ false → y ≤δ x
at_least b x y tells fails = ≤δ_from_not_> y x (λ h. let holds : b ≡ true = tells.1 h in absurd (cc))
