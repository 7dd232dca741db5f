use Rattle.std.proofs.Common.{string_bytes}
use Rattle.smt_text.specs.Texts.{listed, next_literal}
use Rattle.smt_text.proofs.WritingLaws.{listed_goes_on, listed_is_done}
use Rattle.smt_text.proofs.forms.put_literals.Goals as goal

pub loop-lit-preserved : goal.loop-lit-preserved
loop-lit-preserved c =
    listed_goes_on next_literal _ c.args.lits.now c.loop-lit.lit-index (string_bytes c.args.out.now) (string_bytes c.loop-lit.out) (string_bytes c.put_next.new.out) (listed next_literal c.args.lits.now)
    c.loop-lit-test.true c.loop-lit.invariant c.in_ok-put_next.ensures

pub returns : goal.returns
returns c =
    listed_is_done next_literal c.args.lits.now c.loop-lit.lit-index (string_bytes c.args.out.now) (string_bytes c.loop-lit.out) (listed next_literal c.args.lits.now) c.loop-lit-test.false c.loop-lit.invariant
