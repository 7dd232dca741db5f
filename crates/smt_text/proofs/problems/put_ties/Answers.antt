use Rattle.std.proofs.Common.{◌+◌, refl, string_bytes}
use Rattle.text_lines.specs.Steps.{numbered}
use Rattle.smt_text.specs.Texts.{tie_text}
use Rattle.smt_text.proofs.WritingLaws.{numbered_goes_on, numbered_is_done}
use Rattle.smt_text.proofs.problems.put_ties.Goals as goal

pub loop-i-preserved : goal.loop-i-preserved
loop-i-preserved c =
    let tie = tie_text c.args.clauses.now in
    numbered_goes_on tie _ c.args.atoms.now c.loop-i.i (c.loop-i.i + 1) (string_bytes c.args.out.now) (string_bytes c.loop-i.out) (string_bytes c.put_tie.new.out) (numbered tie 0 c.args.atoms.now)
    c.loop-i-test.true refl c.loop-i.invariant c.in_ok-put_tie.ensures

pub returns : goal.returns
returns c =
    let tie = tie_text c.args.clauses.now in
    numbered_is_done tie c.args.atoms.now c.loop-i.i (string_bytes c.args.out.now) (string_bytes c.loop-i.out) (numbered tie 0 c.args.atoms.now) c.loop-i-test.false c.loop-i.invariant
