use Rattle.std.proofs.Common.{◌+◌, arith}
use Rattle.std.proofs.lemmas.Result.{err_from_is_err_and}
use Rattle.text_machine.specs.Scripts.{lines_by, lines_from}
use Rattle.text_machine.proofs.ScriptLaws.{along_start, along_more, along_fails, along_done}
use Rattle.trace_text.specs.Script.{row_lines, row_table}
use Rattle.trace_text.specs.Reading.{SizedRow}
use Rattle.trace_text.proofs.reading.read_rows.Goals as goal

pub loop-i-init : goal.loop-i-init
loop-i-init c =
    let shape = c.args.shape.now in
    rw c.new-rows.ensures (along_start (row_lines shape) row_table (SizedRow shape) 0 (shape.h + shape.t + 1) c.args.lines.now)

pub returns-in_err-row-clause-exact : goal.returns-in_err-row-clause-exact
returns-in_err-row-clause-exact c =
    let shape = c.args.shape.now in
    let count = shape.h + shape.t + 1 in
    let p = err_from_is_err_and c.from_residual.result c.from_residual.ensures.1 in
    rw (p.1, p.2)
    (along_fails _ (row_lines shape) row_table (SizedRow shape) 0 count c.loop-i.i c.loop-i.i c.loop-i.rows c.loop-i.lines (lines_by (lines_from (row_lines shape) count 0) c.args.lines.now)
    c.loop-i-test.true (omega arith) c.in_err-row.ensures.exact c.loop-i.invariant)

pub loop-i-preserved : goal.loop-i-preserved
loop-i-preserved c =
    let shape = c.args.shape.now in
    let count = shape.h + shape.t + 1 in
    rw c.in_ok-push.ensures.ok
    (along_more (row_lines shape) row_table (SizedRow shape) 0 count c.loop-i.i c.loop-i.i c.loop-i.rows c.loop-i.lines c.in_ok-row.row c.read_row.new.lines (lines_by (lines_from (row_lines shape) count 0) c.args.lines.now)
    c.loop-i-test.true (omega arith) c.in_ok-row.ensures.exact c.in_ok-row.ensures.sized c.loop-i.invariant)

pub returns : goal.returns
returns c =
    let shape = c.args.shape.now in
    let count = shape.h + shape.t + 1 in
    let d = along_done (row_lines shape) row_table (SizedRow shape) 0 count c.loop-i.i c.loop-i.rows c.loop-i.lines (lines_by (lines_from (row_lines shape) count 0) c.args.lines.now)
    c.loop-i-test.false (omega arith) c.loop-i.invariant in
    record { exact = d.1; sized = d.0 }
