-- The limits that keep the variables of a row from helping, entry by entry.
use Rattle.std.specs.Prelude.{◌≡◌, ℕ, Bool, true, false, List, IsSome, pos}
use Rattle.ordered_field.specs.Rational.{ℚ, whole, neg_ℚ}
use Rattle.ordered_field.specs.Order.{◌<ℚ◌}
use Rattle.ordered_field.specs.Delta.{DeltaValue}
use Rattle.field_rows.specs.declared.row.Entry.{Entry}
use Rattle.simplex.specs.declared.limits.Limit.{Limit}
use Rattle.simplex.specs.declared.outcome.Share.{Share}
use Rattle.simplex.specs.Limits.{in_force}
use Rattle.simplex.specs.Corners.{HelpsByRising, HelpsByFalling}
use Rattle.simplex.specs.Shares.{Weight, IsHolder}

abbrev pub IsSizeOf : ℚ → ℚ → Type 0
IsSizeOf x size = (x <ℚ whole (pos 0) → size ≡ neg_ℚ x) × (¬ (x <ℚ whole (pos 0)) → size ≡ x)

-- there is a limit on the side towards which v, with the entry e, would help
pub record HasHolder (limits : List (Limit DeltaValue)) (upper : Bool) (v : ℕ) (e : ℚ) : Type 0 where
  pub rising : HelpsByRising upper e → IsSome (in_force true v limits)
  pub falling : HelpsByFalling upper e → IsSome (in_force false v limits)

-- the share of an entry's holder
pub record IsShareOfEntry {F : Type 0} (value : F → ℚ) (limits : List (Limit DeltaValue)) (upper : Bool) (e : Entry F) (s : Share F) : Type 0 where
  pub weight : Weight
  pub holder : IsHolder limits upper e.variable (value e.number) weight
  pub tag : s.tag ≡ weight.limit.tag
  pub mult : value s.mult ≡ weight.factor
