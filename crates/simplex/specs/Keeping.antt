-- How limits are kept: for each variable those in force, and for each limit that was put the one whose place it took.
use Rattle.std.specs.Prelude.{◌≡◌, ℕ, ◌<◌, ◌^◌, Bool, true, false, List, [], ◌∷◌, ◌++◌, map, length, Option, Some, slice_get}
use Rattle.ordered_field.specs.declared.delta.Delta.{Delta}
use Rattle.simplex.specs.declared.limits.Limit.{Limit}
use Rattle.simplex.specs.declared.limits.Sides.{Sides}
use Rattle.simplex.specs.declared.limits.Put.{Put}
use Rattle.simplex.specs.Limits.{in_force}

abbrev pub limits_of : {F : Type 0} → List (Put F) → List (Limit (Delta F))
limits_of puts = map (λ p. p.limit) puts

abbrev pub side_of : {F : Type 0} → Bool → Sides F → Option (Limit (Delta F))
side_of true s = s.upper
side_of false s = s.lower

abbrev pub with_side : {F : Type 0} → Bool → Sides F → Option (Limit (Delta F)) → Sides F
with_side true s l = record s { upper = l }
with_side false s l = record s { lower = l }

-- the limits of v in force
abbrev pub sides_at : {F : Type 0} → ℕ → List (Limit (Delta F)) → Sides F
sides_at v limits = record { lower = in_force false v limits; upper = in_force true v limits }

-- each limit's variable is one of n, and what it took the place of is what was in force before it
abbrev pub AreUndoable : {F : Type 0} → ℕ → List (Limit (Delta F)) → List (Put F) → Type 0
AreUndoable n before [] = Unit {0}
AreUndoable n before (p ∷ ps) =
    (p.limit.var < n) × (p.before ≡ in_force p.limit.upper p.limit.var before) × AreUndoable n (before ++ p.limit ∷ []) ps

pub record AreKept {F : Type 0} (sides_of : List (Sides F)) (puts : List (Put F)) : Type 0 where
  pub few : length puts < 2 ^ 32
  pub sides : (v : ℕ) → v < length sides_of → slice_get sides_of v ≡ Some (sides_at v (limits_of puts))
  pub undoable : AreUndoable (length sides_of) [] puts

-- one limit more, at the end
abbrev pub IsOneMore : {X : Type 0} → List X → List X → Type 0
IsOneMore {X} few more = (x : X) × (more ≡ few ++ x ∷ [])
