use Rattle.std.proofs.Common.{◌<◌, ℕ, get_or}
use Rattle.run_rows.specs.Runs.{RowFits, no_row, state_count}
use Rattle.run_rows.proofs.rows.Run.fits.Given as goal

-- the rows passed so far have the shape, and entries within 128 bits
abbrev pub invariant-loop-i : goal.invariant-loop-i
invariant-loop-i l =
    (k : ℕ) → k < l.i → RowFits l.shape.flows (state_count l.shape k) (get_or l.row-items k no_row)
