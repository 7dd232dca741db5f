-- The run of a shape's columns has the shape, and the sizes of their values.
use Rattle.std.proofs.Common.{◌≡◌, ℕ, ◌+◌, ℤ, pos, List, [], ◌∷◌, map, length, ◌++◌, inl, inr, refl, sym, ◌∙◌, ap, subst, arith, FitsSigned}
use Rattle.std.specs.Prelude.{All, ◌≤ℤ◌}
use Rattle.std.specs.Int.{w128}
use Rattle.std.specs.List.{range_with_len}
use Rattle.std.proofs.lemmas.Int.{ints}
use Rattle.std.proofs.lemmas.Bool.{cases_lt}
use Rattle.std.proofs.lemmas.List.{get_or_past}
use Rattle.std.proofs.lemmas.List.Elements.{All-cons, All-get_or, All-map, All-nil}
use Rattle.std.proofs.lemmas.List.FromFn.{length-map-range_with_len, map-range_with_len_more}
use Rattle.run_rows.specs.Runs.{Bounded, Fits, FlowBounded, IsEntry, RowBounded, RowShaped, Shaped, state_count}
use Rattle.run_rows.specs.declared.columns.Entry.TheVariants.{X}
use Rattle.run_rows.specs.declared.rows.FlowRow.{FlowRow}
use Rattle.run_rows.specs.declared.shapes.Shape.{Shape}
use Rattle.claims.specs.Columns.{entry_value, flow_made, row_made, run_of}
use Rattle.claims.proofs.Made.{row_is}
use Rattle.linear_form.specs.Sums.{entry}
use Rattle.path_server.proofs.RuleColumns.{rows_are}

-- one element more
pub one_more_made : {X : Type 0} (made : ℕ → X) (first n : ℕ) (xs ys : List X) (x : X) → xs ≡ map made (range_with_len first n)
    → x ≡ made (first + n) → ys ≡ xs ++ x ∷ [] → ys ≡ map made (range_with_len first (n + 1))
one_more_made made first n xs ys x before here pushed =
    pushed ∙ ap (λ zs. zs ++ x ∷ []) before ∙ ap (λ z. map made (range_with_len first n) ++ z ∷ []) here
    ∙ sym (map-range_with_len_more made first n (first + n) refl)

each_of : {X : Type 0} (P : X → Type 0) → ((x : X) → P x) → (xs : List X) → All P xs
each_of P each [] = All-nil P
each_of P each (x ∷ xs) = All-cons P x xs (each x) (each_of P each xs)

all_made : {X : Type 0} (P : X → Type 0) (made : ℕ → X) → ((n : ℕ) → P (made n)) → (first n : ℕ) → All P (map made (range_with_len first n))
all_made P made each first n = All-map P made (range_with_len first n) (each_of (λ k. P (made k)) each (range_with_len first n))

row_shaped : (s : Shape) (value : ℕ → ℤ) (i : ℕ) → RowShaped s.flows (state_count s i) (row_made s value i)
row_shaped s value i = record {
  flow_count = length-map-range_with_len (flow_made s value i) 1 s.flows;
  each_flow = all_made (λ (flow : FlowRow). length flow.x ≡ state_count s i) (flow_made s value i)
      (λ f. length-map-range_with_len (λ j. entry_value s value (X i f j)) 0 (state_count s i)) 1 s.flows;
}

pub run_shaped : (s : Shape) (value : ℕ → ℤ) (den : ℤ) → pos 1 ≤ℤ den → Shaped s (run_of s value den)
unfolding run_of
run_shaped s value den some = record {
  over_from = some;
  row_count = rows_are s value den;
  each_row = λ i inside. subst (RowShaped s.flows (state_count s i)) (sym (row_is s value den i (omega (arith, rows_are s value den, inside)))) (row_shaped s value i);
}

row_bounded : (s : Shape) (value : ℕ → ℤ) (i : ℕ) → ((c : ℕ) → IsEntry (value c)) → RowBounded (row_made s value i)
row_bounded s value i small = record {
  w_in = small _;
  each_flow = all_made FlowBounded (flow_made s value i) (λ f. record {
    a_in = small _;
    s_in = small _;
    l_in = small _;
    x_in = all_made IsEntry (λ j. entry_value s value (X i f j)) (λ j. small _) 0 (state_count s i);
  }) 1 s.flows;
}

run_bounded : (s : Shape) (value : ℕ → ℤ) (den : ℤ) → IsEntry den → ((c : ℕ) → IsEntry (value c)) → Bounded (run_of s value den)
unfolding run_of
run_bounded s value den over small = record {
  over_in = over;
  credit_in = small _;
  each_row = λ i inside. subst RowBounded (sym (row_is s value den i (omega (arith, rows_are s value den, inside)))) (row_bounded s value i small);
}

-- what stands in a list of entries, or is 0 past its end
each_entry : (values : List ℤ) → All IsEntry values → (c : ℕ) → IsEntry (entry values c)
each_entry values each c =
    elim (cases_lt c (length values)) [
      | inl inside ↦ All-get_or IsEntry values c (pos 0) inside each
      | inr past ↦ subst IsEntry (sym (get_or_past values c (pos 0) past)) (omega arith)
    ]

pub run_fits : (s : Shape) (values : List ℤ) (den : ℤ) → pos 1 ≤ℤ den → IsEntry den → All IsEntry values → Fits s (run_of s (entry values) den)
run_fits s values den some over each = record {
  shaped = run_shaped s (entry values) den some;
  bounded = run_bounded s (entry values) den over (each_entry values each);
}

-- a denominator that the code holds
pub entry_of_fits : (z : ℤ) → FitsSigned w128 z → pos 1 ≤ℤ z → IsEntry z
entry_of_fits z fits some = omega (arith, ints, fits)
