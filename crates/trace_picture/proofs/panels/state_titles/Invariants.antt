use Rattle.std.proofs.Common.{◌≡◌, map}
use Rattle.std.specs.List.{range_with_len}
use Rattle.trace_picture.specs.declared.lines.Title.TheVariants.{OfState}
use Rattle.trace_picture.proofs.panels.state_titles.Given as goal

abbrev pub invariant-loop-state : goal.invariant-loop-state
invariant-loop-state l = l.titles ≡ map OfState (range_with_len 0 l.state)
