use Rattle.std.proofs.Common.{◌≡◌, ◌++◌, drop}
use Rattle.std.specs.Prelude.{flat_map}
use Rattle.ctrl_syntax.specs.Printed.{line_text, state_text}
use Rattle.ctrl_syntax.proofs.printing.put_states.Given as goal

abbrev pub invariant-loop-state : goal.invariant-loop-state
invariant-loop-state l = l.out.items ++ flat_map (line_text state_text) (drop l.state-index l.states) ≡ l.fn.out.items ++ flat_map (line_text state_text) l.states
