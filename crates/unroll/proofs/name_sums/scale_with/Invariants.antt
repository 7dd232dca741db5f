use Rattle.std.proofs.Common.{◌≡◌, ◌≤◌, drop}
use Rattle.question_text.specs.Expressions.{scale_with}
use Rattle.unroll.proofs.name_sums.scale_with.Given as goal

-- with the denominators to come, the scale is the one wanted
abbrev pub invariant-loop-term : goal.invariant-loop-term
invariant-loop-term l = (scale_with l.scale (drop l.term-index l.term-items) ≡ scale_with l.fn.start l.term-items) × (1 ≤ l.scale)
