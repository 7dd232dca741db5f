use Rattle.std.proofs.Common.{◌≡◌, map}
use Rattle.std.specs.List.{range_with_len}
use Rattle.trace_picture.specs.Places.{across_of}
use Rattle.trace_picture.proofs.places.columns.Given as goal

abbrev pub invariant-loop-row : goal.invariant-loop-row
invariant-loop-row l = l.columns ≡ map (across_of l.last) (range_with_len 0 l.row)
