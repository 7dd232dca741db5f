use Rattle.std.proofs.Common.{◌≡◌, List, ◌++◌, length}
use Rattle.field_rows.specs.declared.row.Entry.{Entry}
use Rattle.simplex.specs.Assignments.{corner_of}
use Rattle.simplex.specs.Corners.{CanHelp}
use Rattle.simplex.proofs.ChoiceLaws.{Every}
use Rattle.simplex.proofs.choice.helper.Given as goal

abbrev pub invariant-loop-first : goal.invariant-loop-first
invariant-loop-first g l =
    let value = g.F.OrderedField.value in
    (front : List (Entry _)) × ((l.initial.rest ≡ front ++ l.rest) × Every (λ e. CanHelp value (corner_of value l.assignment l.limits) l.upper l.basic e.variable → ⊥) front)

abbrev pub decreases-loop-first : goal.decreases-loop-first
decreases-loop-first g l = length l.rest
