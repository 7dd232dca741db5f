use Rattle.std.proofs.Common.{◌≡◌, ◌∷◌, map, not, take}
use Rattle.clause_form.specs.Keys.{signed}
use Rattle.clause_form.proofs.building.together.Given as goal

-- the name's literal and those of the parts so far
abbrev pub invariant-loop-part : goal.invariant-loop-part
invariant-loop-part l =
    l.lits.items ≡ record { atom = l.atom; positive = l.conjunction } ∷ map (signed (not l.conjunction)) (take l.part-index l.parts)
