use Rattle.std.proofs.Common.{◌≡◌, map}
use Rattle.std.specs.List.{range_with_len}
use Rattle.trace_picture.specs.Places.{tick_of}
use Rattle.trace_picture.proofs.scales.ticks_of.Given as goal

abbrev pub invariant-loop-number : goal.invariant-loop-number
invariant-loop-number l = l.ticks ≡ map (tick_of l.scale) (range_with_len 0 l.number)
