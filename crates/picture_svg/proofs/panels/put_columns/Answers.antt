use Rattle.std.proofs.Common.{◌+◌, refl, string_bytes}
use Rattle.text_lines.specs.Steps.{numbered}
use Rattle.picture_svg.specs.Shapes.{column_text}
use Rattle.picture_svg.proofs.WritingLaws.{numbered_goes_on, numbered_is_done}
use Rattle.picture_svg.proofs.panels.put_columns.Goals as goal

pub loop-row-preserved : goal.loop-row-preserved
loop-row-preserved c =
    numbered_goes_on column_text _ c.args.columns.now c.loop-row.row (c.loop-row.row + 1) (string_bytes c.args.out.now) (string_bytes c.loop-row.out)
    (string_bytes c.put_column.new.out) (numbered column_text 0 c.args.columns.now) c.loop-row-test.true refl c.loop-row.invariant c.in_ok-put_column.ensures

pub returns : goal.returns
returns c =
    numbered_is_done column_text c.args.columns.now c.loop-row.row (string_bytes c.args.out.now) (string_bytes c.loop-row.out)
    (numbered column_text 0 c.args.columns.now) c.loop-row-test.false c.loop-row.invariant
