-- Whether a run has a shape, as a test.
use Rattle.std.specs.Prelude.{ℕ, zero, suc, ◌+◌, ◌^◌, ◌==◌, ℤ, pos, unsigned_abs, Bool, true, ◌&&◌, int_le, nat_lt, List, [], ◌∷◌, length}
use Rattle.run_rows.specs.Runs.{row_of, state_count}
use Rattle.run_rows.specs.declared.shapes.Shape.{Shape}
use Rattle.run_rows.specs.declared.rows.Run.{Run}
use Rattle.run_rows.specs.declared.rows.Row.{Row}
use Rattle.run_rows.specs.declared.rows.FlowRow.{FlowRow}

abbrev pub is_entry : ℤ → Bool
is_entry z = nat_lt (unsigned_abs z) (2 ^ 127)

abbrev pub are_entries : List ℤ → Bool
are_entries [] = true
are_entries (z ∷ zs) = is_entry z && are_entries zs

unfoldable pub flow_has : ℕ → FlowRow → Bool
flow_has states flow =
    is_entry flow.a && (is_entry flow.s && (is_entry flow.l && (length flow.x == states && are_entries flow.x)))

abbrev pub flows_have : ℕ → List FlowRow → Bool
flows_have states [] = true
flows_have states (flow ∷ flows) = flow_has states flow && flows_have states flows

unfoldable pub row_has : ℕ → ℕ → Row → Bool
row_has flows states row = is_entry row.w && (length row.flows == flows && flows_have states row.flows)

-- the rows below n
abbrev pub rows_have : Shape → Run → ℕ → Bool
rows_have shape r zero = true
rows_have shape r (suc n) = row_has shape.flows (state_count shape n) (row_of r n) && rows_have shape r n

unfoldable pub has_shape : Shape → Run → Bool
has_shape shape r =
    int_le (pos 1) r.over
    && (is_entry r.over && (is_entry r.credit && (length r.rows == shape.h + shape.t + 1 && rows_have shape r (length r.rows))))
