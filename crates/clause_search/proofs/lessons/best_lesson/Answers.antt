use Rattle.std.proofs.Common.{ℕ, Option, IfSome, ◌∙◌, subst}
use Rattle.clause_form.specs.Derivations.{rows_of}
use Rattle.clause_form.specs.Journals.{literals}
use Rattle.learned_clause.specs.Trails.{known_with}
use Rattle.clause_search.specs.Standings.{IsFalseAt}
use Rattle.clause_search.proofs.StartLaws.{better_here, from_other}
use Rattle.clause_search.proofs.lessons.best_lesson.Goals as goal

pub lesson-requires-in-Some : goal.lesson-requires-in-Some
lesson-requires-in-Some c =
    let K = known_with c.args.clauses.now.clauses c.args.lemmas.now in
    let fails = subst (λ (found : Option ℕ). IfSome found (λ number. IsFalseAt K (literals c.args.trail.now.entries) number)) c.in-Some.is c.in_ok-number.ensures.found in
    record { trail = c.requires.trail; start = (fails.clause, fails.is, fails.false_here) }

pub starts-preserved : goal.starts-preserved
starts-preserved c =
    let K = known_with c.args.clauses.now.clauses c.args.lemmas.now in
    let fails = subst (λ (found : Option ℕ). IfSome found (λ number. IsFalseAt K (literals c.args.trail.now.entries) number)) c.in-Some.is c.in_ok-number.ensures.found in
    record {
      best = better_here (rows_of c.args.clauses.now) K c.args.trail.now.entries c.args.start c.starts.best c.in_ok-other-in-Some.other c.better-best.result c.starts.invariant.best (from_other (rows_of c.args.clauses.now) K c.args.trail.now.entries c.args.start c.in-Some.number c.in_ok-other-in-Some.other fails c.in_ok-other-in-Some.ensures) c.better-best.ensures;
      occurrences = c.in_ok-number.ensures.occurrences ∙ c.starts.invariant.occurrences;
    }

pub returns-in_err-number-clause-occurrences : goal.returns-in_err-number-clause-occurrences
returns-in_err-number-clause-occurrences c = c.next_false.ensures.occurrences ∙ c.starts.invariant.occurrences

pub returns-in_err-other-in-Some-clause-occurrences : goal.returns-in_err-other-in-Some-clause-occurrences
returns-in_err-other-in-Some-clause-occurrences c = c.in_ok-number.ensures.occurrences ∙ c.starts.invariant.occurrences

pub returns-in-None-clause-occurrences : goal.returns-in-None-clause-occurrences
returns-in-None-clause-occurrences c = c.in_ok-number.ensures.occurrences ∙ c.starts.invariant.occurrences
