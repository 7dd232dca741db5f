use Rattle.std.proofs.Common.{◌≡◌, map}
use Rattle.std.specs.List.{range_with_len}
use Rattle.claims.specs.Columns.{entry_value}
use Rattle.linear_form.specs.Sums.{entry}
use Rattle.run_rows.specs.declared.columns.Entry.TheVariants.{X}
use Rattle.unroll.proofs.runs.states.Given as goal

-- the states so far
abbrev pub invariant-loop-state : goal.invariant-loop-state
invariant-loop-state l =
    l.states.items ≡ map (λ j. entry_value l.shape (entry l.values) (X l.row l.flow j)) (range_with_len 0 l.state)
