use Rattle.std.proofs.Common.{◌≡◌, ◌++◌, drop, map, string_bytes}
use Rattle.std.specs.Fmt.{signed_decimal}
use Rattle.text_lines.specs.Pieces.{spaced}
use Rattle.trace_text.proofs.printing.put_states.Given as goal

abbrev pub invariant-loop-state : goal.invariant-loop-state
invariant-loop-state l = string_bytes l.out ++ spaced (map signed_decimal (drop l.state-index l.states)) ≡ string_bytes l.initial.out ++ spaced (map signed_decimal l.states)
