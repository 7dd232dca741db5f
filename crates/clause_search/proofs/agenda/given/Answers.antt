use Rattle.std.proofs.Common.{List, Option, subst}
use Rattle.farkas_cert.specs.declared.literals.Lit.{Lit}
use Rattle.clause_form.specs.Journals.{literals}
use Rattle.learned_clause.specs.Trails.{known_with}
use Rattle.clause_search.specs.declared.standing.Standing.{Standing}
use Rattle.clause_search.specs.Standings.{IfStandsAt, StandsAt}
use Rattle.clause_search.proofs.AgendaLaws.{false_gives_none, opens_true, opens_two, past}
use Rattle.clause_search.proofs.agenda.given.Goals as goal

pub returns-in_default : goal.returns-in_default
returns-in_default c clause is l has off others =
    past (known_with c.args.clauses.now.clauses c.args.lemmas.now) c.args.number clause (subst (λ (o : Option Standing). IfStandsAt (known_with c.args.clauses.now.clauses c.args.lemmas.now) (literals c.args.trail.now.entries) c.args.number o) c.in_default.is c.standing_if.ensures) is

pub returns-in-Open : goal.returns-in-Open
returns-in-Open c clause is l has off others =
    let known : List (List Lit) = known_with c.args.clauses.now.clauses c.args.lemmas.now in
    let lits : List Lit = literals c.args.trail.now.entries in
    (opens_two known lits c.args.number c.in-Open.field-0 clause (subst (λ (st : Standing). StandsAt known lits c.args.number st) c.in-Open.is c.in-Some.ensures) is).not_unit l has off others

pub returns-in-Satisfied : goal.returns-in-Satisfied
returns-in-Satisfied c clause is l has off others =
    let known : List (List Lit) = known_with c.args.clauses.now.clauses c.args.lemmas.now in
    let lits : List Lit = literals c.args.trail.now.entries in
    (opens_true known lits c.args.trail.now.atoms c.args.number clause c.requires.once (subst (λ (st : Standing). StandsAt known lits c.args.number st) c.in-Satisfied.is c.in-Some.ensures) is).not_unit l has off others

pub returns-in-False : goal.returns-in-False
returns-in-False c clause is l has off others =
    let known : List (List Lit) = known_with c.args.clauses.now.clauses c.args.lemmas.now in
    let lits : List Lit = literals c.args.trail.now.entries in
    false_gives_none known lits c.args.number (subst (λ (st : Standing). StandsAt known lits c.args.number st) c.in-False.is c.in-Some.ensures) clause is l has off others
