use Rattle.std.proofs.Common.{◌≡◌, rules, subst, arith}
use Rattle.std.proofs.lemmas.Grind.{common_steps}
use Rattle.clause_search.specs.declared.standing.Standing.{Standing}
use Rattle.clause_search.specs.Standings.{StandsAs}
use Rattle.clause_search.proofs.StandingLaws.{first_free, open_still, same_free, second_free, true_still}
use Rattle.clause_search.proofs.standing.with_free.Goals as goal

pub returns-in-False : goal.returns-in-False
returns-in-False c n lits front once off s = first_free lits front c.args.lit off (subst (λ (st : Standing). StandsAs lits front st) c.in-False.is s)

pub returns-then-eq : goal.returns-then-eq
returns-then-eq c n lits front once off s =
    let same : c.in-Unit.first ≡ c.args.lit = first_of (search rules, grind (arith, common_steps), cc) in
    same_free lits front c.in-Unit.first c.args.lit same (subst (λ (st : Standing). StandsAs lits front st) c.in-Unit.is s)

pub returns-else-eq : goal.returns-else-eq
returns-else-eq c n lits front once off s =
    let other : c.in-Unit.first ≡ c.args.lit → ⊥ = first_of (search rules, grind (arith, common_steps)) in
    second_free n lits front c.in-Unit.first c.args.lit once other off (subst (λ (st : Standing). StandsAs lits front st) c.in-Unit.is s)

pub returns-in-Open : goal.returns-in-Open
returns-in-Open c n lits front once off s = open_still lits front c.in-Open.first c.args.lit off (subst (λ (st : Standing). StandsAs lits front st) c.in-Open.is s)

pub returns-in-Satisfied : goal.returns-in-Satisfied
returns-in-Satisfied c n lits front once off s = true_still lits front c.args.lit (subst (λ (st : Standing). StandsAs lits front st) c.in-Satisfied.is s)
