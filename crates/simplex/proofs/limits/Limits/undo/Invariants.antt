use Rattle.std.proofs.Common.{◌≡◌, ℕ, ◌≤◌, List, ◌++◌, length}
use Rattle.ordered_field.specs.declared.delta.Delta.{Delta}
use Rattle.simplex.specs.declared.limits.Limit.{Limit}
use Rattle.simplex.proofs.limits.Limits.undo.Given as goal

abbrev pub invariant-loop-self : goal.invariant-loop-self
invariant-loop-self g l =
    record {
      variables : l.self.variables ≡ l.initial.self.variables;
      first : (rest : List _) × (l.initial.self.limits ≡ l.self.limits ++ rest);
      enough : l.mark ≤ length l.self.limits;
    }

abbrev pub decreases-loop-self : goal.decreases-loop-self
decreases-loop-self g l = length l.self.limits
