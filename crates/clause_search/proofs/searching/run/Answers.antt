use Rattle.std.proofs.Common.{refl, sym, subst}
use Rattle.whole.specs.Budget.{counts}
use Rattle.farkas_cert.specs.declared.journals.Journal.{Journal}
use Rattle.clause_search.specs.Courses.{work_left}
use Rattle.clause_search.specs.Answers.{IsSpent, IsStuck, starting_at}
use Rattle.clause_search.proofs.AnswerLaws.{all_atoms, closed_found, made_as, stopped, total_found}
use Rattle.clause_search.proofs.CourseLaws.{begun}
use Rattle.clause_search.proofs.UpkeepLaws.{covering_begun}
use Rattle.clause_search.proofs.searching.run.Goals as goal

pub steps-init : goal.steps-init
steps-init g c = record {
  at = begun g.T.Theory.relations c.args.clauses.now (g.T.Theory.seen c.args.theory.now) (counts c.args.budget.now) c.in-Ok.course g.T.Theory.begins_calm c.requires c.in-Ok.ensures;
  covering = covering_begun c.args.clauses.now c.in-Ok.course c.in-Ok.ensures;
  rows = refl;
  limit = refl;
}

pub steps-smaller : goal.steps-smaller
steps-smaller g c = (made_as g.T.Theory.relations c.args.clauses.now (g.T.Theory.seen c.args.theory.now).state (work_left c.steps.course (counts c.steps.budget)) c.take_step.new.course (g.T.Theory.seen c.take_step.new.theory) (counts c.take_step.new.budget) _ _ c.in-Takes-GoesOn.field-0-is (c.in-Takes-GoesOn.ensures.turns (g.T.Theory.seen c.args.theory.now).state c.steps.invariant.at)).1

pub total-requires : goal.total-requires
total-requires g c = all_atoms g.T.Theory.relations c.args.clauses.now (g.T.Theory.seen c.args.theory.now).state c.take_step.new.course (g.T.Theory.seen c.take_step.new.theory) (counts c.take_step.new.budget) (made_as g.T.Theory.relations c.args.clauses.now (g.T.Theory.seen c.args.theory.now).state (work_left c.steps.course (counts c.steps.budget)) c.take_step.new.course (g.T.Theory.seen c.take_step.new.theory) (counts c.take_step.new.budget) _ _ c.in-Takes-Total.field-0-is (c.in-Takes-Total.ensures.turns (g.T.Theory.seen c.args.theory.now).state c.steps.invariant.at))

pub returns-in-Takes-Total-clause-found : goal.returns-in-Takes-Total-clause-found
returns-in-Takes-Total-clause-found g c = total_found g.T.Theory.relations c.args.clauses.now (g.T.Theory.seen c.args.theory.now).state c.take_step.new.course (g.T.Theory.seen c.take_step.new.theory) (counts c.take_step.new.budget) c.total.result (made_as g.T.Theory.relations c.args.clauses.now (g.T.Theory.seen c.args.theory.now).state (work_left c.steps.course (counts c.steps.budget)) c.take_step.new.course (g.T.Theory.seen c.take_step.new.theory) (counts c.take_step.new.budget) _ _ c.in-Takes-Total.field-0-is (c.in-Takes-Total.ensures.turns (g.T.Theory.seen c.args.theory.now).state c.steps.invariant.at)) c.total.ensures

pub returns-in-Takes-Closed-clause-found : goal.returns-in-Takes-Closed-clause-found
returns-in-Takes-Closed-clause-found g c =
    closed_found g.T.Theory.relations (starting_at (g.T.Theory.seen c.args.theory.now).state g.T.Theory.relations) c.args.clauses.now (g.T.Theory.seen c.args.theory.now).state c.take_step.new.course c.certificate.result c.into_lemmas.result (made_as g.T.Theory.relations c.args.clauses.now (g.T.Theory.seen c.args.theory.now).state (work_left c.steps.course (counts c.steps.budget)) c.take_step.new.course (g.T.Theory.seen c.take_step.new.theory) (counts c.take_step.new.budget) _ _ c.in-Takes-Closed.field-0-is (c.in-Takes-Closed.ensures.turns (g.T.Theory.seen c.args.theory.now).state c.steps.invariant.at)) c.into_lemmas.ensures c.certificate.ensures

pub returns-in-Takes-Spent-clause-found : goal.returns-in-Takes-Spent-clause-found
returns-in-Takes-Spent-clause-found g c =
    subst (λ (j : Journal). IsSpent (starting_at (g.T.Theory.seen c.args.theory.now).state g.T.Theory.relations) c.args.clauses.now (counts c.take_step.new.budget) j.moves) (sym c.into_journal.ensures) (made_as g.T.Theory.relations c.args.clauses.now (g.T.Theory.seen c.args.theory.now).state (work_left c.steps.course (counts c.steps.budget)) c.take_step.new.course (g.T.Theory.seen c.take_step.new.theory) (counts c.take_step.new.budget) _ _ c.in-Takes-Spent.field-0-is (c.in-Takes-Spent.ensures.turns (g.T.Theory.seen c.args.theory.now).state c.steps.invariant.at))

pub returns-in-Takes-Stuck-clause-found : goal.returns-in-Takes-Stuck-clause-found
returns-in-Takes-Stuck-clause-found g c =
    subst (λ (j : Journal). IsStuck (starting_at (g.T.Theory.seen c.args.theory.now).state g.T.Theory.relations) c.args.clauses.now (counts c.take_step.new.budget) c.in-Takes-Stuck.stuck j.moves) (sym c.into_journal-in-Takes-Stuck.ensures) (made_as g.T.Theory.relations c.args.clauses.now (g.T.Theory.seen c.args.theory.now).state (work_left c.steps.course (counts c.steps.budget)) c.take_step.new.course (g.T.Theory.seen c.take_step.new.theory) (counts c.take_step.new.budget) _ _ c.in-Takes-Stuck.field-0-is (c.in-Takes-Stuck.ensures.turns (g.T.Theory.seen c.args.theory.now).state c.steps.invariant.at))

pub returns-in-Stops-clause-found : goal.returns-in-Stops-clause-found
returns-in-Stops-clause-found g c =
    let stands = c.in-Stops.ensures.turns (g.T.Theory.seen c.args.theory.now).state c.steps.invariant.at in
    (stopped g.T.Theory.relations c.args.clauses.now (g.T.Theory.seen c.args.theory.now).state c.take_step.new.course (g.T.Theory.seen c.take_step.new.theory) (counts c.take_step.new.budget) c.into_journal-in-Stops.result stands.0 c.into_journal-in-Stops.ensures, stands.1)

pub take_step-requires-clause-covering : goal.take_step-requires-clause-covering
take_step-requires-clause-covering g c = c.steps.invariant.covering
