use Rattle.std.proofs.Common.{◌≡◌, ◌+◌, ◌*◌, ◌≤◌, drop, unsigned_abs}
use Rattle.claims.specs.Subjects.{part}
use Rattle.question_text.specs.Expressions.{lin_terms}
use Rattle.unroll.specs.Sums.{with_parts}
use Rattle.unroll.proofs.sums.Sum.plus_named.Given as goal

-- with the terms to come, the sum is the one wanted, and its constant has grown by at most one term's for each
abbrev pub invariant-loop-term : goal.invariant-loop-term
invariant-loop-term l =
    (with_parts l.shape l.sum (lin_terms part l.shape.flows l.at l.side l.scale (drop l.term-index l.term-items))
    ≡ with_parts l.shape l.fn.self (lin_terms part l.shape.flows l.at l.side l.scale l.term-items))
    × (unsigned_abs l.sum.constant ≤ unsigned_abs l.fn.self.constant + l.term-index * 1000000000000)
