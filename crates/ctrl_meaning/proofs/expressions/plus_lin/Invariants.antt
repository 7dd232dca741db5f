use Rattle.claims.specs.Subjects.{in_run}
use Rattle.std.proofs.Common.{◌≡◌, drop}
use Rattle.weighing.specs.Weighed.{weighed_from}
use Rattle.ctrl_meaning.specs.Expressions.{lin_terms}
use Rattle.ctrl_meaning.proofs.expressions.plus_lin.Given as goal

-- with the terms to come, the sum is the one wanted
abbrev pub invariant-loop-term : goal.invariant-loop-term
invariant-loop-term l =
    weighed_from l.weighing (lin_terms (in_run l.run) l.at l.side l.scale (drop l.term-index l.term-items))
    ≡ weighed_from l.fn.start (lin_terms (in_run l.run) l.at l.side l.scale l.term-items)
