use Rattle.simplex.specs.Limits.{limit_value}
use Rattle.simplex.specs.Assignments.{corner_of}
use Rattle.simplex.proofs.ChoiceLaws.{helps-some}
use Rattle.simplex.proofs.PivotLaws.{IsAfterPivot-by, IsRepaired-pivoted, IsStuckPivot-by}
use Rattle.std.proofs.Common.{None, refl}
use Rattle.simplex.proofs.turn.carried_out.Goals as goal

pub pivot_and_update-requires-clause-solvable : goal.pivot_and_update-requires-clause-solvable
pivot_and_update-requires-clause-solvable g c =
    let value = g.F.OrderedField.value in
    helps-some value (corner_of value c.args.assignment.now c.args.limits.now) c.args.violation.upper c.args.violation.basic c.args.other c.requires.choice.entering

pub returns-in-Ok-clause-answers : goal.returns-in-Ok-clause-answers
returns-in-Ok-clause-answers g c =
    let value = g.F.OrderedField.value in
    let l = limit_value value c.args.violation.limit in
    let d = c.pivot_and_update.new.self in (
      IsAfterPivot-by value c.args.assignment.now c.args.limits.now c.args.violation.upper c.args.violation.basic c.args.other l c.requires.held d c.in-Ok.ensures.pivoted,
      IsRepaired-pivoted value c.args.assignment.now c.args.limits.now c.args.violation.upper c.args.violation.basic c.args.other l c.requires.held c.requires.built.orderly (c.requires.built.repaired refl) c.requires.choice.leaving.basic c.requires.choice.entering.non_basic d c.in-Ok.ensures.pivoted,
    )

pub returns-in-Err-Stuck-clause-answers : goal.returns-in-Err-Stuck-clause-answers
returns-in-Err-Stuck-clause-answers g c =
    let value = g.F.OrderedField.value in
    let stuck = rw c.in-Err-Stuck.field-0-is at c.in-Err-Stuck.ensures.stuck in
    IsStuckPivot-by value c.args.assignment.now c.args.limits.now c.args.violation.upper c.args.violation.basic c.args.other (limit_value value c.args.violation.limit) c.requires.held g.F.OrderedField.LIMIT c.in-Err-Stuck.stuck stuck
