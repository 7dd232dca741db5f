use Rattle.std.proofs.Common.{string_bytes}
use Rattle.smt_text.specs.Texts.{listed, next_term}
use Rattle.smt_text.proofs.WritingLaws.{listed_goes_on, listed_is_done}
use Rattle.smt_text.proofs.forms.put_terms.Goals as goal

pub loop-term-preserved : goal.loop-term-preserved
loop-term-preserved c =
    listed_goes_on next_term _ c.args.terms.now c.loop-term.term-index (string_bytes c.args.out.now) (string_bytes c.loop-term.out) (string_bytes c.put_term.new.out) (listed next_term c.args.terms.now)
    c.loop-term-test.true c.loop-term.invariant c.in_ok-put_term.ensures

pub returns : goal.returns
returns c =
    listed_is_done next_term c.args.terms.now c.loop-term.term-index (string_bytes c.args.out.now) (string_bytes c.loop-term.out) (listed next_term c.args.terms.now) c.loop-term-test.false c.loop-term.invariant
