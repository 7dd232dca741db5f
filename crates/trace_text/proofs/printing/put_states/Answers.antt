use Rattle.std.proofs.Common.{pos, map, get_or, FitsSigned, string_bytes, rules}
use Rattle.std.specs.Int.{w128}
use Rattle.std.proofs.lemmas.Int.{to_z-of_z}
use Rattle.std.specs.Fmt.{signed_decimal}
use Rattle.text_lines.specs.Pieces.{spaced}
use Rattle.text_lines.proofs.PieceLaws.{spaced_goes_on, spaced_is_done}
use Rattle.trace_text.proofs.printing.put_states.Goals as goal

pub loop-state-preserved : goal.loop-state-preserved
loop-state-preserved c =
    let fits : FitsSigned w128 (get_or c.args.states.now c.loop-state.state-index (pos 0)) = search rules in
    spaced_goes_on signed_decimal (pos 0) c.args.states.now c.loop-state.state-index (string_bytes c.args.out.now) (string_bytes c.loop-state.out) (string_bytes c.put_state.new.out)
    (spaced (map signed_decimal c.args.states.now)) c.loop-state-test.true c.loop-state.invariant (simp to_z-of_z at c.in_ok-put_state.ensures)

pub returns : goal.returns
returns c =
    spaced_is_done signed_decimal c.args.states.now c.loop-state.state-index (string_bytes c.args.out.now) (string_bytes c.loop-state.out) (spaced (map signed_decimal c.args.states.now))
    c.loop-state-test.false c.loop-state.invariant
