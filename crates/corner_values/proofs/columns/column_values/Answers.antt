use Rattle.std.proofs.Common.{◌≡◌, ◌+◌, ◌<◌, [], refl, sym, ap, subst, ◌∙◌, arith}
use Rattle.ordered_field.specs.Delta.{delta_at}
use Rattle.simplex.specs.States.{corner}
use Rattle.tableau.specs.Tables.{variables}
use Rattle.corner_values.specs.Scale.{AreNumbers}
use Rattle.corner_values.specs.Values.{value_at}
use Rattle.corner_values.proofs.ColumnLaws.{numbers-none, numbers-more, columns_fit-more, columns_fit-all, stuck_column}
use Rattle.corner_values.proofs.columns.column_values.Goals as goal

pub loop-column-init : goal.loop-column-init
loop-column-init g c =
    let value = g.F.OrderedField.value in
    record {
      numbers = subst (λ fs. AreNumbers value 0 (value_at (corner value c.args.simplex.now) (value c.args.epsilon)) fs) (sym c.new-numbers.ensures.items) (numbers-none value (value_at (corner value c.args.simplex.now) (value c.args.epsilon)));
      kept = λ s j h. absurd (omega (arith, h));
    }

pub value-requires : goal.value-requires
value-requires g c = omega (arith, c.loop-column-test.true, c.columns-column-end.ensures, c.variables-variables.ensures.sound.at.table.columns)

pub loop-column-preserved : goal.loop-column-preserved
loop-column-preserved g c =
    let value = g.F.OrderedField.value in
    let at = corner value c.args.simplex.now in
    let e = value c.args.epsilon in
    let n = c.loop-column.column in
    let x = value_at at e in
    record {
      numbers = subst (λ fs. AreNumbers value (n + 1) x fs) (sym c.in_ok-push-in-Ok.ensures.items) (numbers-more value n x c.loop-column.numbers.items c.in-Ok.number c.loop-column.invariant.numbers (c.in-Ok.ensures.exact ∙ ap (λ d. delta_at d e) c.value.ensures));
      kept = columns_fit-more g.F.OrderedField.LIMIT at e n _ c.loop-column.invariant.kept c.value.ensures c.in-Ok.ensures.kept;
    }

pub returns-clause-exact : goal.returns-clause-exact
returns-clause-exact g c =
    let value = g.F.OrderedField.value in
    let all : c.loop-column.column ≡ c.args.simplex.now.table.columns = omega (arith, c.loop-column-test.false, c.loop-column.auto.column-end, c.columns-column-end.ensures) in
    subst (λ k. AreNumbers value k (value_at (corner value c.args.simplex.now) (value c.args.epsilon)) c.loop-column.numbers.items) all c.loop-column.invariant.numbers

pub returns-clause-kept : goal.returns-clause-kept
returns-clause-kept g c =
    let value = g.F.OrderedField.value in
    columns_fit-all g.F.OrderedField.LIMIT (corner value c.args.simplex.now) (value c.args.epsilon) c.loop-column.column (omega (arith, c.loop-column-test.false, c.loop-column.auto.column-end, c.columns-column-end.ensures)) c.loop-column.invariant.kept

pub returns-in-Err-clause-stuck : goal.returns-in-Err-clause-stuck
returns-in-Err-clause-stuck g c =
    let value = g.F.OrderedField.value in
    stuck_column g.F.OrderedField.LIMIT (corner value c.args.simplex.now) (value c.args.epsilon) c.loop-column.column _ c.in-Err.stuck (omega (arith, c.loop-column-test.true, c.columns-column-end.ensures)) c.value.ensures c.in-Err.ensures.stuck
