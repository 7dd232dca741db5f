use Rattle.std.proofs.Common.{List, subst}
use Rattle.farkas_cert.specs.declared.certificates.Lemma.{Lemma}
use Rattle.clause_form.specs.Journals.{IsSettled, literals}
use Rattle.learned_clause.specs.Trails.{known_with}
use Rattle.clause_search.specs.Standings.{Follows, IfWanted}
use Rattle.clause_search.proofs.step.advance.Goals as goal

pub returns-in-Some-clause-turns : goal.returns-in-Some-clause-turns
returns-in-Some-clause-turns g c s advancing =
    c.propagate.ensures.steps s (advancing, subst (λ (ls : List Lemma). Follows (known_with c.args.clauses.now.clauses ls) (literals c.args.course.now.trail.entries) c.in-Some.reason.lit c.in-Some.reason.by) c.as_slice.ensures c.in-Some.ensures.found)

pub returns-clause-turns : goal.returns-clause-turns
returns-clause-turns g c s advancing =
    c.consult.ensures.turns s (
      advancing,
      subst (λ (ls : List Lemma). IsSettled (known_with c.args.clauses.now.clauses ls) (literals c.args.course.now.trail.entries)) c.as_slice.ensures c.in_default.ensures.found,
      subst (λ (ls : List Lemma). IfWanted (known_with c.args.clauses.now.clauses ls) (literals c.args.course.now.trail.entries) c.wish-wish.result) c.as_slice-2.ensures c.wish-wish.ensures.wish,
    )
