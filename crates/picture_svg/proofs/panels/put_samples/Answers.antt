use Rattle.std.proofs.Common.{◌+◌, refl, string_bytes}
use Rattle.text_lines.specs.Steps.{numbered}
use Rattle.picture_svg.specs.Panels.{sample_of}
use Rattle.picture_svg.proofs.WritingLaws.{numbered_item, numbered_is_done}
use Rattle.picture_svg.proofs.panels.put_samples.Goals as goal

pub loop-i-preserved : goal.loop-i-preserved
loop-i-preserved c =
    numbered_item sample_of c.index-lines-i.result c.args.lines.now c.loop-i.i (c.loop-i.i + 1) (string_bytes c.args.out.now) (string_bytes c.loop-i.out)
    (string_bytes c.put_sample_of.new.out) (numbered sample_of 0 c.args.lines.now) c.loop-i-test.true c.index-lines-i.is refl c.loop-i.invariant c.in_ok-put_sample_of.ensures

pub returns : goal.returns
returns c =
    numbered_is_done sample_of c.args.lines.now c.loop-i.i (string_bytes c.args.out.now) (string_bytes c.loop-i.out)
    (numbered sample_of 0 c.args.lines.now) c.loop-i-test.false c.loop-i.invariant
