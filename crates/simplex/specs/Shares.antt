-- The shares of a conflict: limits in force whose weighed sum is a contradiction, as in Farkas' lemma.
use Rattle.std.specs.Prelude.{◌≡◌, ℕ, ◌+◌, ◌<◌, ◌≤◌, Bool, true, false, not, if◌then◌else◌, ◌⊎◌, List, [], ◌∷◌, Some, pos}
use Rattle.ordered_field.specs.Rational.{ℚ, whole, ◌+ℚ◌, ◌*ℚ◌, neg_ℚ}
use Rattle.ordered_field.specs.Order.{◌<ℚ◌}
use Rattle.ordered_field.specs.Delta.{DeltaValue, delta_sum, delta_scaled, ◌<δ◌}
use Rattle.tableau.specs.Tables.{Table, entry, Meets}
use Rattle.simplex.specs.declared.limits.Limit.{Limit}
use Rattle.simplex.specs.declared.outcome.Share.{Share}
use Rattle.simplex.specs.Limits.{in_force}
use Rattle.simplex.specs.Corners.{Corner}
use Rattle.simplex.specs.Moves.{delta_opposite}

-- a limit, and how often it counts
pub record Weight : Type 0 where
  pub limit : Limit DeltaValue
  pub factor : ℚ

-- ---- the weighed sum of limits, each written with "at most": a lower limit as the opposite of both its sides

-- of the variables, at the vector x
abbrev pub weighed_variables : List Weight → (ℕ → ℚ) → ℚ
weighed_variables [] x = whole (pos 0)
weighed_variables (w ∷ ws) x =
    w.factor *ℚ (if w.limit.upper then x w.limit.var else neg_ℚ (x w.limit.var)) +ℚ weighed_variables ws x

-- of the numbers
abbrev pub weighed_numbers : List Weight → DeltaValue
weighed_numbers [] = record { real = whole (pos 0); inf = whole (pos 0) }
weighed_numbers (w ∷ ws) =
    delta_sum (delta_scaled w.factor (if w.limit.upper then w.limit.at else delta_opposite w.limit.at)) (weighed_numbers ws)

-- each weight is above zero, and its limit in force
abbrev pub AreInForce : List (Limit DeltaValue) → List Weight → Type 0
AreInForce limits [] = Unit {0}
AreInForce limits (w ∷ ws) =
    (whole (pos 0) <ℚ w.factor) × (in_force w.limit.upper w.limit.var limits ≡ Some w.limit) × AreInForce limits ws

-- limits in force whose weighed sum is "0 at most a number below 0" at every vector that meets the rows
pub record IsContradiction {F : Type 0} (value : F → ℚ) (t : Table F) (limits : List (Limit DeltaValue)) (ws : List Weight) : Type 0 where
  pub in_force : AreInForce limits ws
  pub cancels : (x : ℕ → ℚ) → Meets value t x → weighed_variables ws x ≡ whole (pos 0)
  pub below_zero : weighed_numbers ws <δ record { real = whole (pos 0); inf = whole (pos 0) }

-- ---- which limits, in which order

-- the limit that keeps v, with the entry e, from helping a variable that is violated on this side, with the size of e
abbrev pub IsHolder : List (Limit DeltaValue) → Bool → ℕ → ℚ → Weight → Type 0
IsHolder limits upper v e w =
    ((whole (pos 0) <ℚ e) × (in_force (not upper) v limits ≡ Some w.limit) × (w.factor ≡ e))
    ⊎ ((e <ℚ whole (pos 0)) × (in_force upper v limits ≡ Some w.limit) × (w.factor ≡ neg_ℚ e))

-- the holders of all variables from `from` on with an entry in the row that isn't zero, the least variable first
abbrev pub AreHolders : List (Limit DeltaValue) → Bool → (ℕ → ℚ) → ℕ → List Weight → Type 0
AreHolders limits upper row from [] = (v : ℕ) → from ≤ v → row v ≡ whole (pos 0)
AreHolders limits upper row from (w ∷ ws) =
    (v : ℕ) × (from ≤ v) × ((u : ℕ) → from ≤ u → u < v → row u ≡ whole (pos 0))
    × IsHolder limits upper v (row v) w × AreHolders limits upper row (v + 1) ws

-- the violated limit of b with 1, and then its holders
abbrev pub AreOfRow : {F : Type 0} → (F → ℚ) → Corner F → Bool → ℕ → List Weight → Type 0
AreOfRow value c upper b [] = ⊥
AreOfRow value c upper b (w ∷ ws) =
    (in_force upper b c.limits ≡ Some w.limit) × (w.factor ≡ whole (pos 1)) × AreHolders c.limits upper (entry value c.table b) 0 ws

-- each share has the tag of its weight's limit, and the weight's factor
abbrev pub AreShares : {F : Type 0} → (F → ℚ) → List Weight → List (Share F) → Type 0
AreShares value [] [] = Unit {0}
AreShares value [] (s ∷ ss) = ⊥
AreShares value (w ∷ ws) [] = ⊥
AreShares value (w ∷ ws) (s ∷ ss) = (s.tag ≡ w.limit.tag) × (value s.mult ≡ w.factor) × AreShares value ws ss

-- the shares where b, violated on this side, can't be helped
pub record IsConflict {F : Type 0} (value : F → ℚ) (c : Corner F) (upper : Bool) (b : ℕ) (answer : List (Share F)) : Type 0 where
  pub weights : List Weight
  pub shares : AreShares value weights answer
  pub of_row : AreOfRow value c upper b weights
  pub contradiction : IsContradiction value c.table c.limits weights
