use Rattle.std.proofs.Common.{subst}
use Rattle.std.specs.Result.{IfErr, OnOk}
use Rattle.ordered_field.specs.Delta.{delta_value}
use Rattle.tableau.specs.Operations.{IfStuck}
use Rattle.simplex.specs.Assignments.{IsPivoted, IsStuckPivotTo}
use Rattle.simplex.proofs.BoundLaws.{on_ok}
use Rattle.simplex.proofs.UpdateLaws.{if_err, stuck_after, pivoted_by}
use Rattle.simplex.proofs.assignment.Assignment.pivot_and_update.Goals as goal

pub returns-clause-stuck : goal.returns-clause-stuck
returns-clause-stuck g c =
    let value = g.F.OrderedField.value in
    subst (λ a. IfErr c.update.result (λ f. IfStuck f (IsStuckPivotTo g.F.OrderedField.LIMIT g.F.OrderedField.value a c.args.basic c.args.other (delta_value g.F.OrderedField.value c.args.to)))) c.self.view_is (if_err c.update.result (λ f h. stuck_after value (record { table = c.self.inside.tableau; values = c.self.inside.values.items }) c.pivot.new.self c.args.basic c.args.other (delta_value value c.args.to) c.in_ok-pivot.ensures.exchanged g.F.OrderedField.LIMIT f h) c.update.ensures.stuck)

pub returns-clause-pivoted : goal.returns-clause-pivoted
returns-clause-pivoted g c =
    let value = g.F.OrderedField.value in
    subst (λ a. OnOk c.update.result (IsPivoted g.F.OrderedField.value a c.args.basic c.args.other (delta_value g.F.OrderedField.value c.args.to) c.update.new.self)) c.self.view_is (on_ok c.update.result (λ m. pivoted_by value (record { table = c.self.inside.tableau; values = c.self.inside.values.items }) c.pivot.new.self c.args.basic c.args.other (delta_value value c.args.to) c.in_ok-pivot.ensures.exchanged c.in_ok-pivot.ensures.same c.update.new.self m) c.update.ensures.moved)
