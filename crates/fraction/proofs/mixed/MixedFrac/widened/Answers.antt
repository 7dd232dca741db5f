use Rattle.fraction.proofs.Widths.{widen, same_coprime}
use Rattle.fraction.proofs.mixed.MixedFrac.widened.Goals as goal

pub from_parts-requires-clause-lowest : goal.from_parts-requires-clause-lowest
from_parts-requires-clause-lowest c =
    let short = c.in-Short.short in
    same_coprime _ _ short.num short.den
    (widen short.num c.from.result short.num_short c.from.ensures)
    (widen short.den c.from-in-Short.result short.den_short c.from-in-Short.ensures)
    short.lowest
