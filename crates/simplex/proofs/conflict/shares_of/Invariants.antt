use Rattle.std.proofs.Common.{◌≡◌, List, ◌∷◌, ◌++◌, length}
use Rattle.field_rows.specs.declared.row.Entry.{Entry}
use Rattle.simplex.specs.Limits.{limit_value}
use Rattle.simplex.specs.Shares.{Weight, AreShares}
use Rattle.simplex.specs.States.{limits_in}
use Rattle.simplex.specs.Bounds.{with_one}
use Rattle.simplex.proofs.HolderLaws.{EachHolder}
use Rattle.simplex.proofs.conflict.shares_of.Given as goal

abbrev pub invariant-loop-first : goal.invariant-loop-first
invariant-loop-first g l =
    let value = g.F.OrderedField.value in
    (front : List (Entry _)) × ((l.initial.rest ≡ front ++ l.rest)
    × ((ws : List Weight) × (EachHolder value (limits_in value l.limits.limits) l.violation.upper front ws
    × AreShares value (with_one (limit_value value l.violation.limit) ∷ ws) l.shares.items)))

abbrev pub decreases-loop-first : goal.decreases-loop-first
decreases-loop-first g l = length l.rest
