use Rattle.std.proofs.Common.{◌≡◌, ℕ, List, [], length, Option, IfNone, IfSome, subst}
use Rattle.whole.specs.Budget.{counts}
use Rattle.farkas_cert.specs.declared.certificates.Lemma.{Lemma}
use Rattle.clause_form.specs.Journals.{literals}
use Rattle.learned_clause.specs.Trails.{known_with}
use Rattle.clause_search.specs.Courses.{work_left}
use Rattle.clause_search.specs.Standings.{IsFalseAt}
use Rattle.clause_search.proofs.ConflictLaws.{most_work}
use Rattle.clause_search.proofs.UpkeepLaws.{covering_looked}
use Rattle.clause_search.proofs.step.take_step.Goals as goal

pub returns-in-Ok-Some-clause-turns : goal.returns-in-Ok-Some-clause-turns
returns-in-Ok-Some-clause-turns g c s at =
    let fails = subst (λ (found : Option ℕ). IfSome found (λ number. IsFalseAt (known_with c.args.clauses.now.clauses c.as_slice.result.now) (literals c.args.course.now.trail.entries) number)) c.in-Ok-Some.field-0-is c.in-Ok-Some.ensures.found in
    c.conflict-step.ensures.steps s (at, subst (λ (ls : List Lemma). IsFalseAt (known_with c.args.clauses.now.clauses ls) (literals c.args.course.now.trail.entries) c.in-Ok-Some.number) c.as_slice.ensures fails) (work_left c.args.course.now (counts c.args.budget.now)) (most_work c.args.course.now (counts c.args.budget.now))

pub returns-in-Told-clause-turns : goal.returns-in-Told-clause-turns
returns-in-Told-clause-turns g c s at =
    c.after.ensures.steps s (work_left c.args.course.now (counts c.args.budget.now)) (c.check-heard.ensures.asks c.args.clauses.now s at) c.check-heard.ensures.less

pub after-requires-clause-covering : goal.after-requires-clause-covering
after-requires-clause-covering g c =
    c.check-heard.ensures.covering c.args.clauses.now (covering_looked c.args.clauses.now c.args.course.now c.next_false.new.self c.as_slice.result.now c.in-Ok-None.field-0 (length c.args.clauses.now.atoms) c.as_slice.ensures c.in-Ok-None.ensures.occurrences c.in-Ok-None.field-0-is c.requires.at.1.underway.once c.in-Ok-None.ensures.covers c.requires.covering)

pub advance-requires : goal.advance-requires
advance-requires g c = record {
  covering = covering_looked c.args.clauses.now c.args.course.now c.next_false.new.self c.as_slice.result.now c.in-Ok-None.field-0 (length c.args.clauses.now.atoms) c.as_slice.ensures c.in-Ok-None.ensures.occurrences c.in-Ok-None.field-0-is c.requires.at.1.underway.once c.in-Ok-None.ensures.covers c.requires.covering;
  none = subst (λ (found : Option ℕ). IfNone found (c.next_false.new.self.fresh.items ≡ [])) c.in-Ok-None.field-0-is c.in-Ok-None.ensures.none;
  advancing = (c.requires.at.0, (c.requires.at.1, c.in_default.not-Told));
}
