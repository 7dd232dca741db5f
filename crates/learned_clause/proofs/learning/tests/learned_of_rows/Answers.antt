use Rattle.std.proofs.Common.{◌≡◌, [], ◌∷◌, ◌∙◌, List, None}
use Rattle.farkas_cert.specs.declared.trees.Part.{Part}
use Rattle.learned_clause.specs.Examples.{no_lit, two_parts, yes_lit}
use Rattle.learned_clause.proofs.ExampleLaws.{rows_false, two_same, with_literal, with_part}
use Rattle.learned_clause.proofs.learning.tests.learned_of_rows.Goals as goal

pub learn-requires-clause-start : goal.learn-requires-clause-start
learn-requires-clause-start c =
    let parts : c.once.result ∷ c.once-2.result ∷ [] ≡ two_parts =
    two_same c.once.result c.once-2.result _ _ (with_part c.once.result c.lit-3.result (yes_lit 0) c.once.ensures c.lit-3.ensures) (with_part c.once-2.result c.lit-4.result (no_lit 1) c.once-2.ensures c.lit-4.ensures) in
    rows_false c.in_ok-clauses.clauses [] (c.entry.result ∷ c.entry-2.result ∷ []) c.in_ok-parts.parts c.in_ok-clauses.ensures (two_same c.entry.result c.entry-2.result _ _ (with_literal c.entry.result c.lit.result (yes_lit 0) None c.entry.ensures c.lit.ensures) (with_literal c.entry-2.result c.lit-2.result (no_lit 1) None c.entry-2.ensures c.lit-2.ensures)) (c.in_ok-parts.ensures ∙ parts)
