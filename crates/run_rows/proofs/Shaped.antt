-- The test of a run's shape says whether the run has it.
use Rattle.std.proofs.Common.{◌≡◌, ℕ, ◌+◌, ◌^◌, ◌==◌, ◌<◌, ℤ, pos, ◌≤ℤ◌, unsigned_abs, int_le, Decides, length, refl, arith}
use Rattle.std.specs.Prelude.{All}
use Rattle.std.proofs.lemmas.Int.{ints}
use Rattle.std.proofs.lemmas.Bool.Decides.{Decides-and, Decides-below_and, Decides-by_and, Decides-eqb, Decides-like, Decides-ltb}
use Rattle.run_rows.specs.Fitting.{are_entries, flow_has, flows_have, has_shape, is_entry, row_has, rows_have}
use Rattle.run_rows.specs.Runs.{Bounded, Fits, FlowBounded, FlowFits, IsEntry, RowBounded, RowFits, RowShaped, Shaped, row_of, state_count}
use Rattle.run_rows.specs.declared.rows.FlowRow.{FlowRow}
use Rattle.run_rows.specs.declared.rows.Row.{Row}
use Rattle.run_rows.specs.declared.rows.Run.{Run}
use Rattle.run_rows.specs.declared.shapes.Shape.{Shape}

entry_decides : (z : ℤ) → Decides (is_entry z) (IsEntry z)
entry_decides z = Decides-ltb (unsigned_abs z) (2 ^ 127)

flow_decides : (states : ℕ) (flow : FlowRow) → Decides (flow_has states flow) (FlowFits states flow)
unfolding flow_has
flow_decides states flow =
    Decides-like (flow_has states flow)
    (λ (h : IsEntry flow.a × (IsEntry flow.s × (IsEntry flow.l × ((length flow.x ≡ states) × All IsEntry flow.x)))).
    record { shaped = h.1.1.1.0; bounded = record { a_in = h.0; s_in = h.1.0; l_in = h.1.1.0; x_in = h.1.1.1.1 } })
    (λ (h : FlowFits states flow). (h.bounded.a_in, (h.bounded.s_in, (h.bounded.l_in, (h.shaped, h.bounded.x_in)))))
    (Decides-and (is_entry flow.a) _ (entry_decides flow.a)
    (Decides-and (is_entry flow.s) _ (entry_decides flow.s)
    (Decides-and (is_entry flow.l) _ (entry_decides flow.l)
    (Decides-and (length flow.x == states) (are_entries flow.x) (Decides-eqb (length flow.x) states)
    (Decides-by_and is_entry IsEntry are_entries entry_decides refl (λ _ _. refl) flow.x)))))

-- a row fits from its flows, and they from it
pub row_fits : (flows states : ℕ) (row : Row) → IsEntry row.w → length row.flows ≡ flows → All (FlowFits states) row.flows → RowFits flows states row
row_fits flows states row waste count each = record {
  shaped = record { flow_count = count; each_flow = λ k d inside. (each k d inside).shaped };
  bounded = record { w_in = waste; each_flow = λ k d inside. (each k d inside).bounded };
}

pub flows_fit : (flows states : ℕ) (row : Row) → RowFits flows states row → All (FlowFits states) row.flows
flows_fit flows states row fits = λ k d inside. record {
  shaped = fits.shaped.each_flow k d inside;
  bounded = fits.bounded.each_flow k d inside;
}

row_decides : (flows states : ℕ) (row : Row) → Decides (row_has flows states row) (RowFits flows states row)
unfolding row_has
row_decides flows states row =
    Decides-like (row_has flows states row)
    (λ (h : IsEntry row.w × ((length row.flows ≡ flows) × All (FlowFits states) row.flows)). row_fits flows states row h.0 h.1.0 h.1.1)
    (λ (h : RowFits flows states row). (h.bounded.w_in, (h.shaped.flow_count, flows_fit flows states row h)))
    (Decides-and (is_entry row.w) _ (entry_decides row.w)
    (Decides-and (length row.flows == flows) (flows_have states row.flows) (Decides-eqb (length row.flows) flows)
    (Decides-by_and (flow_has states) (FlowFits states) (flows_have states) (flow_decides states) refl (λ _ _. refl) row.flows)))

over_decides : (z : ℤ) → Decides (int_le (pos 1) z) (pos 1 ≤ℤ z)
over_decides z = (λ e. grind (arith, ints, e), λ h. grind (arith, ints, h))

abbrev pub EachRowFits : Shape → Run → Type 0
EachRowFits shape r = (i : ℕ) → i < length r.rows → RowFits shape.flows (state_count shape i) (row_of r i)

-- a run fits from its rows, and they from it
pub run_fits : (shape : Shape) (r : Run) → pos 1 ≤ℤ r.over → IsEntry r.over → IsEntry r.credit → length r.rows ≡ shape.h + shape.t + 1
    → EachRowFits shape r → Fits shape r
run_fits shape r above over credit count each = record {
  shaped = record { over_from = above; row_count = count; each_row = λ i inside. (each i inside).shaped };
  bounded = record { over_in = over; credit_in = credit; each_row = λ i inside. (each i inside).bounded };
}

pub rows_fit : (shape : Shape) (r : Run) → Fits shape r → EachRowFits shape r
rows_fit shape r fits = λ i inside. record { shaped = fits.shaped.each_row i inside; bounded = fits.bounded.each_row i inside }

pub has_shape_decides : (shape : Shape) (r : Run) → Decides (has_shape shape r) (Fits shape r)
unfolding has_shape
has_shape_decides shape r =
    Decides-like (has_shape shape r)
    (λ (h : (pos 1 ≤ℤ r.over) × (IsEntry r.over × (IsEntry r.credit × ((length r.rows ≡ shape.h + shape.t + 1) × EachRowFits shape r)))).
    run_fits shape r h.0 h.1.0 h.1.1.0 h.1.1.1.0 h.1.1.1.1)
    (λ (h : Fits shape r).
    (h.shaped.over_from, (h.bounded.over_in, (h.bounded.credit_in, (h.shaped.row_count, rows_fit shape r h)))))
    (Decides-and (int_le (pos 1) r.over) _ (over_decides r.over)
    (Decides-and (is_entry r.over) _ (entry_decides r.over)
    (Decides-and (is_entry r.credit) _ (entry_decides r.credit)
    (Decides-and (length r.rows == shape.h + shape.t + 1) (rows_have shape r (length r.rows)) (Decides-eqb (length r.rows) (shape.h + shape.t + 1))
    (Decides-below_and (λ i. row_has shape.flows (state_count shape i) (row_of r i))
    (λ i. RowFits shape.flows (state_count shape i) (row_of r i)) (rows_have shape r)
    (λ i. row_decides shape.flows (state_count shape i) (row_of r i)) refl (λ _. refl) (length r.rows))))))
