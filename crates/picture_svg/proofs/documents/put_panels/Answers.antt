use Rattle.std.proofs.Common.{◌+◌, refl, string_bytes}
use Rattle.text_lines.specs.Steps.{numbered}
use Rattle.picture_svg.specs.Panels.{panel_text}
use Rattle.picture_svg.proofs.WritingLaws.{numbered_item, numbered_is_done}
use Rattle.picture_svg.proofs.documents.put_panels.Goals as goal

pub loop-i-preserved : goal.loop-i-preserved
loop-i-preserved c =
    numbered_item (panel_text c.args.picture.now) c.index-panels-i.result c.args.panels.now c.loop-i.i (c.loop-i.i + 1) (string_bytes c.args.out.now) (string_bytes c.loop-i.out)
    (string_bytes c.put_panel.new.out) (numbered (panel_text c.args.picture.now) 0 c.args.panels.now) c.loop-i-test.true c.index-panels-i.is refl c.loop-i.invariant c.in_ok-put_panel.ensures

pub returns : goal.returns
returns c =
    numbered_is_done (panel_text c.args.picture.now) c.args.panels.now c.loop-i.i (string_bytes c.args.out.now) (string_bytes c.loop-i.out)
    (numbered (panel_text c.args.picture.now) 0 c.args.panels.now) c.loop-i-test.false c.loop-i.invariant
