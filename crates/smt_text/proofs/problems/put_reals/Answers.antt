use Rattle.std.proofs.Common.{string_bytes}
use Rattle.smt_text.specs.Texts.{real_line}
use Rattle.smt_text.proofs.WritingLaws.{counted_begins, counted_goes_on}
use Rattle.smt_text.proofs.problems.put_reals.Goals as goal

pub loop-column-init : goal.loop-column-init
loop-column-init c = counted_begins real_line (string_bytes c.args.out.now)

pub loop-column-preserved : goal.loop-column-preserved
loop-column-preserved c =
    counted_goes_on real_line c.loop-column.column (string_bytes c.args.out.now) (string_bytes c.loop-column.out) (string_bytes c.put_real.new.out) c.loop-column.invariant c.in_ok-put_real.ensures
