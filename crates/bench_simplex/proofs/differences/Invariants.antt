use Rattle.std.proofs.Common.{◌≤◌, length}
use Rattle.tableau.specs.Terms.{AreForms}
use Rattle.bench_simplex.proofs.differences.Given as goal

abbrev pub invariant-loop-made : goal.invariant-loop-made
invariant-loop-made l = record { forms : AreForms l.columns l.forms.items; few : length l.forms.items ≤ l._made }
