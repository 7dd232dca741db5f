-- Bounds put in force one after the other: which of them holds for a variable on each side, and what it leaves free.
use Rattle.std.specs.Prelude.{◌≡◌, ℕ, ◌==◌, Bool, true, false, not, ◌&&◌, if◌then◌else◌, List, [], ◌∷◌, ◌++◌, Option, None, Some, IfSome, IsSomeAnd}
use Rattle.ordered_field.specs.Rational.{ℚ}
use Rattle.ordered_field.specs.Delta.{DeltaValue, delta_value, ◌≤δ◌, ◌<δ◌}
use Rattle.ordered_field.specs.declared.delta.Delta.{Delta}
use Rattle.simplex.specs.declared.limits.Limit.{Limit}

-- the limit that this one means
abbrev pub limit_value : {F : Type 0} → (F → ℚ) → Limit (Delta F) → Limit DeltaValue
limit_value value l = record { var = l.var; upper = l.upper; at = delta_value value l.at; tag = l.tag }

-- the limit is one of variable v on this side
abbrev pub concerns : {N : Type 0} → Bool → ℕ → Limit N → Bool
concerns upper v l = (if upper then l.upper else not l.upper) && (v == l.var)

-- the last limit of v on this side, and `before` where there is none
abbrev pub last_of : {N : Type 0} → Bool → ℕ → Option (Limit N) → List (Limit N) → Option (Limit N)
last_of upper v before [] = before
last_of upper v before (l ∷ ls) = last_of upper v (if concerns upper v l then Some l else before) ls

-- the limit of v in force on this side: the last one that was put there
unfoldable pub in_force : {N : Type 0} → Bool → ℕ → List (Limit N) → Option (Limit N)
in_force upper v limits = last_of upper v None limits

-- ---- a variable v with the value x

-- below its lower limit
abbrev pub IsTooLow : List (Limit DeltaValue) → ℕ → DeltaValue → Type 0
IsTooLow limits v x = IsSomeAnd (in_force false v limits) (λ l. x <δ l.at)

-- above its upper limit
abbrev pub IsTooHigh : List (Limit DeltaValue) → ℕ → DeltaValue → Type 0
IsTooHigh limits v x = IsSomeAnd (in_force true v limits) (λ l. l.at <δ x)

-- outside its limit on this side
abbrev pub IsViolated : Bool → List (Limit DeltaValue) → ℕ → DeltaValue → Type 0
IsViolated true limits v x = IsTooHigh limits v x
IsViolated false limits v x = IsTooLow limits v x

-- within both
pub record IsWithin (limits : List (Limit DeltaValue)) (v : ℕ) (x : DeltaValue) : Type 0 where
  pub lower : IfSome (in_force false v limits) (λ l. l.at ≤δ x)
  pub upper : IfSome (in_force true v limits) (λ l. x ≤δ l.at)

-- it may become greater, or less, without passing a limit at once
abbrev pub MayRise : List (Limit DeltaValue) → ℕ → DeltaValue → Type 0
MayRise limits v x = IfSome (in_force true v limits) (λ l. x <δ l.at)

abbrev pub MayFall : List (Limit DeltaValue) → ℕ → DeltaValue → Type 0
MayFall limits v x = IfSome (in_force false v limits) (λ l. l.at <δ x)

-- ---- a further limit

-- the number is within the limit
abbrev pub IsMetOn : Bool → DeltaValue → DeltaValue → Type 0
IsMetOn true x at = x ≤δ at
IsMetOn false x at = at ≤δ x

abbrev pub IsMet : DeltaValue → Limit DeltaValue → Type 0
IsMet x l = IsMetOn l.upper x l.at

-- no number is within both limits, of which l is upper or lower as `upper` says and h is on the other side
abbrev pub Excludes : Bool → DeltaValue → DeltaValue → Type 0
Excludes true l h = l <δ h
Excludes false l h = h <δ l

-- the limit contradicts the one in force on the other side
abbrev pub Contradicts : List (Limit DeltaValue) → Limit DeltaValue → Type 0
Contradicts limits l = IsSomeAnd (in_force (not l.upper) l.var limits) (λ h. Excludes l.upper l.at h.at)

-- x is no stronger a limit than y on this side
abbrev pub IsNoStronger : Bool → DeltaValue → DeltaValue → Type 0
IsNoStronger true x y = y ≤δ x
IsNoStronger false x y = x ≤δ y

-- the limit in force on its side is as strong
abbrev pub IsImplied : List (Limit DeltaValue) → Limit DeltaValue → Type 0
IsImplied limits l = IsSomeAnd (in_force l.upper l.var limits) (λ h. IsNoStronger l.upper l.at h.at)

-- how many variables there are, and the limits that were put in force, the latest last
pub record Held (F : Type 0) : Type 0 where
  pub variables : ℕ
  pub limits : List (Limit (Delta F))

-- each limit, over those before it, is stronger than the one in force and contradicts none
abbrev pub AreOrderly : List (Limit DeltaValue) → List (Limit DeltaValue) → Type 0
AreOrderly before [] = Unit {0}
AreOrderly before (l ∷ ls) = (¬ IsImplied before l) × (¬ Contradicts before l) × AreOrderly (before ++ l ∷ []) ls
