use Rattle.std.proofs.Common.{◌≡◌, ◌∷◌, []}
use Rattle.claims.specs.Subjects.{each_flow, of_arrivals, of_losses, part}
use Rattle.unroll.specs.Sums.{with_parts}
use Rattle.unroll.proofs.sums.Sum.plus_accepted.Given as goal

-- the parts of the flows passed so far are in the sum, and its constant is what it was
abbrev pub invariant-loop-index : goal.invariant-loop-index
invariant-loop-index l =
    (l.sum ≡ with_parts l.shape l.fn.self (each_flow (λ f. part l.scale.unit (of_arrivals l.row f) ∷ part l.scale.minus (of_losses l.row f) ∷ []) l.index))
    × (l.sum.constant ≡ l.fn.self.constant)
