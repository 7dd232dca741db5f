use Rattle.std.proofs.Common.{◌≡◌, drop, map}
use Rattle.clause_form.specs.Building.{with_clauses}
use Rattle.clause_form.specs.Keys.{apart}
use Rattle.clause_form.proofs.building.define_name.Given as goal

-- the clauses so far, with those to come, are all clauses
abbrev pub invariant-loop-part : goal.invariant-loop-part
invariant-loop-part l =
    with_clauses l.clauses (map (apart l.connective l.atom) (drop l.part-index l.parts)) ≡ with_clauses l.initial.clauses (map (apart l.connective l.atom) l.parts)
