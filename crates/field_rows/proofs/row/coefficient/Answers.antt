use Rattle.std.proofs.Common.{◌<◌, sym, ap, ◌∙◌, arith}
use Rattle.field_rows.specs.Rows.{coefficient}
use Rattle.field_rows.proofs.RowLaws.{row_before, row_behind, coefficient-found, coefficient-none}
use Rattle.field_rows.proofs.row.coefficient.Goals as goal

pub returns-then-variable-entry : goal.returns-then-variable-entry
returns-then-variable-entry g c =
    sym (coefficient-found g.F.OrderedField.value _ _ c.in-Some.entry _ c.args.variable c.in-Some.ensures c.loop-before.invariant.is_row c.if-variable-entry.true)
    ∙ c.loop-before.invariant.same

pub loop-before-preserved-then-variable-entry-2 : goal.loop-before-preserved-then-variable-entry-2
loop-before-preserved-then-variable-entry-2 g c =
    let kept = row_before g.F.OrderedField.value _ _ c.in-Some.entry _ c.args.variable c.in-Some.ensures c.loop-before.invariant.is_row c.if-variable-entry-2.true in
    record { is_row = kept.0; same = kept.1 ∙ c.loop-before.invariant.same }

pub loop-before-preserved : goal.loop-before-preserved
loop-before-preserved g c =
    let more : c.in-Some.entry.variable < c.args.variable = omega (arith, c.if-variable-entry-2.false, c.if-variable-entry.false) in
    let kept = row_behind g.F.OrderedField.value _ _ c.in-Some.entry _ c.args.variable c.in-Some.ensures c.loop-before.invariant.is_row more in
    record { is_row = kept.0; same = kept.1 ∙ c.loop-before.invariant.same }

pub returns : goal.returns
returns g c =
    let value = g.F.OrderedField.value in
    c.zero.ensures ∙ sym (coefficient-none value c.args.variable) ∙ ap (λ r. coefficient value r c.args.variable) (sym c.in_default.ensures) ∙ c.loop-before.invariant.same
