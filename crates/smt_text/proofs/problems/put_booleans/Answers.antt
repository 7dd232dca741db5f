use Rattle.std.proofs.Common.{string_bytes}
use Rattle.smt_text.specs.Texts.{boolean_line}
use Rattle.smt_text.proofs.WritingLaws.{counted_begins, counted_goes_on}
use Rattle.smt_text.proofs.problems.put_booleans.Goals as goal

pub loop-atom-init : goal.loop-atom-init
loop-atom-init c = counted_begins boolean_line (string_bytes c.args.out.now)

pub loop-atom-preserved : goal.loop-atom-preserved
loop-atom-preserved c =
    counted_goes_on boolean_line c.loop-atom.atom (string_bytes c.args.out.now) (string_bytes c.loop-atom.out) (string_bytes c.put_boolean.new.out) c.loop-atom.invariant c.in_ok-put_boolean.ensures
