use Rattle.std.proofs.Common.{◌≡◌, ◌∷◌, []}
use Rattle.claims.specs.Subjects.{each_flow, part}
use Rattle.unroll.specs.QuestionFormulas.{counted}
use Rattle.unroll.specs.Sums.{with_parts}
use Rattle.unroll.proofs.sums.Sum.plus_each.Given as goal

-- the parts of the flows so far are in the sum
abbrev pub invariant-loop-index : goal.invariant-loop-index
invariant-loop-index l =
    (l.sum ≡ with_parts l.shape l.fn.self (each_flow (λ f. part l.factor (counted l.count l.row f) ∷ []) l.index)) × (l.sum.constant ≡ l.fn.self.constant)
