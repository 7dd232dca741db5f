use Rattle.std.proofs.Common.{◌≡◌, drop, take}
use Rattle.weighing.specs.Weighed.{EachWithin, weighed_from}
use Rattle.weighing.proofs.weighings.Weighing.plus_all.Given as goal

-- the terms passed so far are in the sum, and those to come are small enough
abbrev pub invariant-loop-term : goal.invariant-loop-term
invariant-loop-term l = (l.weighing ≡ weighed_from l.fn.self (take l.term-index l.terms)) × EachWithin (drop l.term-index l.terms)
