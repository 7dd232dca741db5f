use Rattle.std.proofs.Common.{◌≡◌, ◌∷◌, [], pos, negsuc}
use Rattle.claims.specs.Subjects.{each_flow, of_losses, part}
use Rattle.unroll.specs.Sums.{with_parts}
use Rattle.unroll.proofs.sums.Sum.plus_new_losses.Given as goal

-- the parts of the flows passed so far are in the sum
abbrev pub invariant-loop-index : goal.invariant-loop-index
invariant-loop-index l =
    l.sum ≡ with_parts l.shape l.fn.self (each_flow (λ f. part (pos 1) (of_losses l.row f) ∷ part (negsuc 0) (of_losses l.before f) ∷ []) l.index)
