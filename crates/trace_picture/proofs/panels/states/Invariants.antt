use Rattle.std.proofs.Common.{◌≡◌, map}
use Rattle.std.specs.List.{range_with_len}
use Rattle.trace_picture.specs.Panels.{state_of_flow}
use Rattle.trace_picture.proofs.panels.states.Given as goal

abbrev pub invariant-loop-index : goal.invariant-loop-index
invariant-loop-index l = l.quantities ≡ map (state_of_flow l.state) (range_with_len 1 l.index)
