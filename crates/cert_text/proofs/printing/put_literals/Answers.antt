use Rattle.std.proofs.Common.{map, string_bytes}
use Rattle.text_lines.specs.Pieces.{spaced}
use Rattle.text_lines.proofs.PieceLaws.{spaced_goes_on, spaced_is_done}
use Rattle.cert_text.specs.Spelling.{literal_item}
use Rattle.cert_text.proofs.printing.put_literals.Goals as goal

pub loop-lit-preserved : goal.loop-lit-preserved
loop-lit-preserved c =
    spaced_goes_on literal_item _ c.args.lits.now c.loop-lit.lit-index (string_bytes c.args.out.now) (string_bytes c.loop-lit.out) (string_bytes c.put_literal.new.out) (spaced (map literal_item c.args.lits.now))
    c.loop-lit-test.true c.loop-lit.invariant c.in_ok-put_literal.ensures

pub returns : goal.returns
returns c =
    spaced_is_done literal_item c.args.lits.now c.loop-lit.lit-index (string_bytes c.args.out.now) (string_bytes c.loop-lit.out) (spaced (map literal_item c.args.lits.now)) c.loop-lit-test.false c.loop-lit.invariant
