use Rattle.std.proofs.Common.{◌+◌, refl, string_bytes}
use Rattle.text_lines.specs.Pieces.{text}
use Rattle.text_lines.specs.Steps.{numbered}
use Rattle.text_lines.proofs.PieceLaws.{lines_go_on, lines_are_done}
use Rattle.trace_text.specs.Spelling.{row_lines}
use Rattle.trace_text.proofs.printing.put_rows.Goals as goal

pub loop-i-preserved : goal.loop-i-preserved
loop-i-preserved c =
    let i = c.loop-i.i in
    lines_go_on row_lines c.index-rows-i.result c.args.rows.now i i (i + 1) (string_bytes c.args.out.now) (string_bytes c.loop-i.out) (string_bytes c.put_row.new.out)
    (text (numbered row_lines 0 c.args.rows.now)) c.loop-i-test.true c.index-rows-i.is refl c.loop-i.invariant c.in_ok-put_row.ensures

pub returns : goal.returns
returns c =
    lines_are_done row_lines c.args.rows.now c.loop-i.i c.loop-i.i (string_bytes c.args.out.now) (string_bytes c.loop-i.out) (text (numbered row_lines 0 c.args.rows.now))
    c.loop-i-test.false c.loop-i.invariant
