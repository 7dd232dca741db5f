use Rattle.std.proofs.Common.{string_bytes}
use Rattle.picture_svg.specs.Shapes.{listed}
use Rattle.picture_svg.specs.Panels.{line_text}
use Rattle.picture_svg.proofs.WritingLaws.{listed_item, listed_is_done}
use Rattle.picture_svg.proofs.panels.put_lines.Goals as goal

pub loop-line-preserved : goal.loop-line-preserved
loop-line-preserved c =
    listed_item line_text c.line-item.result c.args.lines.now c.loop-line.line-index (string_bytes c.args.out.now) (string_bytes c.loop-line.out) (string_bytes c.put_line.new.out)
    (listed line_text c.args.lines.now) c.loop-line-test.true c.line-item.is c.loop-line.invariant c.in_ok-put_line.ensures

pub returns : goal.returns
returns c =
    listed_is_done line_text c.args.lines.now c.loop-line.line-index (string_bytes c.args.out.now) (string_bytes c.loop-line.out)
    (listed line_text c.args.lines.now) c.loop-line-test.false c.loop-line.invariant
