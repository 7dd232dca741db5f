use Rattle.std.proofs.Common.{List, length, sym, subst}
use Rattle.clause_form.specs.Derivations.{rows_of}
use Rattle.clause_form.specs.Journals.{Entry, literals}
use Rattle.learned_clause.specs.Learning.{IsFalseStart}
use Rattle.learned_clause.specs.Trails.{IsTrail, known_with}
use Rattle.clause_search.proofs.StartLaws.{learned_here}
use Rattle.clause_search.proofs.lessons.lesson.Goals as goal

pub learn-requires-clause-trail : goal.learn-requires-clause-trail
learn-requires-clause-trail c =
    let K = known_with c.args.clauses.now.clauses c.args.lemmas.now in
    subst (λ (es : List Entry). IsTrail (length c.args.clauses.now.atoms) K es) (sym c.as_slice.ensures) c.requires.trail

pub learn-requires-clause-start : goal.learn-requires-clause-start
learn-requires-clause-start c =
    let K = known_with c.args.clauses.now.clauses c.args.lemmas.now in
    subst (λ (es : List Entry). IsFalseStart (rows_of c.args.clauses.now) K (literals es) c.args.start) (sym c.as_slice.ensures) c.requires.start

pub returns : goal.returns
returns c =
    let K = known_with c.args.clauses.now.clauses c.args.lemmas.now in
    learned_here (rows_of c.args.clauses.now) K c.args.trail.now.entries c.as_slice.result.now c.args.start c.learn.result c.as_slice.ensures c.learn.ensures.follows c.learn.ensures.exact
