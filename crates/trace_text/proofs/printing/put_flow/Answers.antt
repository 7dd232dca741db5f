use Rattle.std.proofs.Common.{[], ◌∷◌, map}
use Rattle.std.specs.Prelude.{codes}
use Rattle.std.specs.Fmt.{decimal, signed_decimal}
use Rattle.text_lines.proofs.PieceLaws.{line_is_ended}
use Rattle.trace_text.proofs.printing.put_flow.Goals as goal

pub returns : goal.returns
returns c =
    let flow = c.args.flow.now in
    line_is_ended _ _ _ _ (codes "flow") (decimal c.args.number ∷ signed_decimal flow.a ∷ signed_decimal flow.s ∷ signed_decimal flow.l ∷ []) (map signed_decimal flow.x)
    c.in_ok-put_counts.ensures (rw c.as_slice.ensures at c.in_ok-put_states.ensures) c.in_ok-push_str.ensures.bytes
