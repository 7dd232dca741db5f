use Rattle.std.proofs.Common.{[], ◌∷◌, length, Some}
use Rattle.clause_form.specs.Derivations.{rows_of}
use Rattle.learned_clause.specs.Examples.{yes_lit}
use Rattle.learned_clause.proofs.ExampleLaws.{three_false, three_same, three_trail, with_literal}
use Rattle.learned_clause.proofs.learning.tests.learned.Goals as goal

pub learn-requires-clause-trail : goal.learn-requires-clause-trail
learn-requires-clause-trail c =
    let clauses = c.in_ok-clauses.clauses in
    let same =
    three_same c.entry.result c.entry-2.result c.entry-3.result c.args.by (with_literal c.entry.result c.lit.result (yes_lit 0) c.args.by c.entry.ensures c.lit.ensures) (with_literal c.entry-2.result c.lit-2.result (yes_lit 1) (Some 0) c.entry-2.ensures c.lit-2.ensures) (with_literal c.entry-3.result c.lit-3.result (yes_lit 2) (Some 1) c.entry-3.ensures c.lit-3.ensures) in
    three_trail (length clauses.atoms) clauses.clauses (c.entry.result ∷ c.entry-2.result ∷ c.entry-3.result ∷ []) c.args.by c.requires c.in_ok-clauses.ensures.1 c.in_ok-clauses.ensures.0 same

pub learn-requires-clause-start : goal.learn-requires-clause-start
learn-requires-clause-start c =
    let clauses = c.in_ok-clauses.clauses in
    let same =
    three_same c.entry.result c.entry-2.result c.entry-3.result c.args.by (with_literal c.entry.result c.lit.result (yes_lit 0) c.args.by c.entry.ensures c.lit.ensures) (with_literal c.entry-2.result c.lit-2.result (yes_lit 1) (Some 0) c.entry-2.ensures c.lit-2.ensures) (with_literal c.entry-3.result c.lit-3.result (yes_lit 2) (Some 1) c.entry-3.ensures c.lit-3.ensures) in
    three_false (rows_of clauses) clauses.clauses (c.entry.result ∷ c.entry-2.result ∷ c.entry-3.result ∷ []) c.args.by c.in_ok-clauses.ensures.0 same
