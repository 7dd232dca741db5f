-- The run of a shape's columns has the shape.
use Rattle.std.proofs.Common.{◌≡◌, ℕ, ℤ, pos, ◌≤ℤ◌, length, sym, ◌∙◌, subst, arith}
use Rattle.std.specs.List.{range_with_len}
use Rattle.std.proofs.lemmas.List.{length-map}
use Rattle.std.proofs.lemmas.List.FromFn.{length-range_with_len}
use Rattle.run_rows.specs.Columns.{rows_of}
use Rattle.run_rows.specs.Runs.{RowShaped, Shaped, state_count}
use Rattle.run_rows.specs.declared.rows.FlowRow.{FlowRow}
use Rattle.run_rows.specs.declared.shapes.Shape.{Shape}
use Rattle.claims.specs.Columns.{entry_value, flow_made, row_made, run_of}
use Rattle.claims.proofs.Made.{row_is}
use Rattle.run_rows.specs.declared.columns.Entry.TheVariants.{X}
use Rattle.claim_values.proofs.ClaimLists.{map_all}

row_shaped : (s : Shape) (value : ℕ → ℤ) (i : ℕ) → RowShaped s.flows (state_count s i) (row_made s value i)
row_shaped s value i = record {
  flow_count = length-map (range_with_len 1 s.flows) (flow_made s value i) ∙ length-range_with_len 1 s.flows;
  each_flow = map_all (λ (flow : FlowRow). length flow.x ≡ state_count s i) (flow_made s value i)
      (λ f. length-map (range_with_len 0 (state_count s i)) (λ j. entry_value s value (X i f j)) ∙ length-range_with_len 0 (state_count s i))
      (range_with_len 1 s.flows);
}

pub made_shape : (s : Shape) (value : ℕ → ℤ) (den : ℤ) → pos 1 ≤ℤ den → Shaped s (run_of s value den)
unfolding run_of
made_shape s value den some =
    let rows : length (run_of s value den).rows ≡ rows_of s = length-map (range_with_len 0 (rows_of s)) (row_made s value) ∙ length-range_with_len 0 (rows_of s) in
    record {
      over_from = some;
      row_count = rows;
      each_row = λ i inside. subst (RowShaped s.flows (state_count s i)) (sym (row_is s value den i (omega (arith, rows)))) (row_shaped s value i);
    }
