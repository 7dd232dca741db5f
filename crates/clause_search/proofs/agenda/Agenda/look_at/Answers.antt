use Rattle.std.proofs.Common.{List, Option, subst}
use Rattle.std.specs.BinaryHeap.{heap_items}
use Rattle.farkas_cert.specs.declared.literals.Lit.{Lit}
use Rattle.clause_form.specs.Journals.{literals}
use Rattle.learned_clause.specs.Trails.{known_with}
use Rattle.clause_search.specs.declared.standing.Standing.{Standing}
use Rattle.clause_search.specs.Standings.{IfStandsAt, StandsAt}
use Rattle.clause_search.proofs.AgendaLaws.{covers_dropped, covers_kept, opens_true, opens_two, past, single_not_false}
use Rattle.clause_search.proofs.agenda.Agenda.look_at.Goals as goal

pub returns-in_default-clause-covers : goal.returns-in_default-clause-covers
returns-in_default-clause-covers c n once covers same =
    let known : List (List Lit) = known_with c.args.clauses.now.clauses c.args.lemmas.now in
    let lits : List Lit = literals c.args.trail.now.entries in
    covers_dropped known lits c.args.self.now.fresh.items (heap_items c.args.self.now.units) c.args.number (λ clause is. absurd (past known c.args.number clause (subst (λ (o : Option Standing). IfStandsAt known lits c.args.number o) c.in_default.is c.standing_if.ensures) is)) covers

pub returns-in-Open-clause-covers : goal.returns-in-Open-clause-covers
returns-in-Open-clause-covers c n once covers same =
    let known : List (List Lit) = known_with c.args.clauses.now.clauses c.args.lemmas.now in
    let lits : List Lit = literals c.args.trail.now.entries in
    covers_dropped known lits c.args.self.now.fresh.items (heap_items c.args.self.now.units) c.args.number (λ clause is. opens_two known lits c.args.number c.in-Open.field-0 clause (subst (λ (st : Standing). StandsAt known lits c.args.number st) c.in-Open.is c.in-Some.ensures) is) covers

pub returns-in-Satisfied-clause-covers : goal.returns-in-Satisfied-clause-covers
returns-in-Satisfied-clause-covers c n once covers same =
    let known : List (List Lit) = known_with c.args.clauses.now.clauses c.args.lemmas.now in
    let lits : List Lit = literals c.args.trail.now.entries in
    covers_dropped known lits c.args.self.now.fresh.items (heap_items c.args.self.now.units) c.args.number (λ clause is. opens_true known lits n c.args.number clause once (subst (λ (st : Standing). StandsAt known lits c.args.number st) c.in-Satisfied.is c.in-Some.ensures) is) covers

pub returns-in_ok-push-in-Unit-clause-covers : goal.returns-in_ok-push-in-Unit-clause-covers
returns-in_ok-push-in-Unit-clause-covers c n once covers same =
    let known : List (List Lit) = known_with c.args.clauses.now.clauses c.args.lemmas.now in
    let lits : List Lit = literals c.args.trail.now.entries in
    covers_kept known lits c.args.self.now.fresh.items (heap_items c.args.self.now.units) (heap_items c.push.new.self) c.args.number c.turn_of.result c.turn_of.ensures (λ clause is. single_not_false known lits c.args.number c.in-Unit.lit clause (subst (λ (st : Standing). StandsAt known lits c.args.number st) c.in-Unit.is c.in-Some.ensures) is) c.in_ok-push-in-Unit.ensures.permutation covers
