use Rattle.std.proofs.Common.{◌≡◌, ◌-◌, None, length}
use Rattle.whole.specs.Budget.{counts, spent}
use Rattle.simplex.specs.Corners.{PivotsLead}
use Rattle.simplex.specs.Checks.{pivots_charged}
use Rattle.simplex.specs.Assignments.{IsBuilt, corner_of}
use Rattle.simplex.specs.Turns.{IsKeptSound}
use Rattle.simplex.proofs.repair.repair.Given as goal

abbrev pub invariant-turns : goal.invariant-turns
invariant-turns g l =
    let value = g.F.OrderedField.value in
    record {
      built : IsBuilt value l.assignment l.limits None;
      leads : PivotsLead value (corner_of value l.initial.assignment l.limits) l.pivots.items (corner_of value l.assignment l.limits);
      charged : counts l.budget ≡ pivots_charged (length l.pivots.items) (counts l.initial.budget);
      sound : IsKeptSound value l.initial.assignment l.assignment;
    }

abbrev pub decreases-turns : goal.decreases-turns
decreases-turns g l = l.budget.limit - spent (counts l.budget)
