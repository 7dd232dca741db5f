use Rattle.std.proofs.Common.{◌≡◌, map}
use Rattle.std.specs.List.{range_with_len}
use Rattle.trace_picture.specs.declared.lines.Title.TheVariants.{OfFlow}
use Rattle.trace_picture.proofs.panels.flow_titles.Given as goal

abbrev pub invariant-loop-index : goal.invariant-loop-index
invariant-loop-index l = l.titles ≡ map OfFlow (range_with_len 1 l.index)
