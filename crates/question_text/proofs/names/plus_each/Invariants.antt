use Rattle.std.proofs.Common.{◌≡◌, ◌∷◌, []}
use Rattle.weighing.specs.Weighed.{times, weighed_from}
use Rattle.claims.specs.Subjects.{each_flow}
use Rattle.question_text.specs.NameMeanings.{counted}
use Rattle.question_text.proofs.names.plus_each.Given as goal

-- the terms of the flows passed so far are in the sum
abbrev pub invariant-loop-index : goal.invariant-loop-index
invariant-loop-index l =
    l.weighing ≡ weighed_from l.fn.start (each_flow (λ f. times l.factor (counted l.run l.count l.row f) ∷ []) l.index)
