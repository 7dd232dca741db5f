-- The lines of a trace and their numbers: each line, row and run is a part of the table.
use Rattle.std.proofs.Common.{◌≡◌, ℕ, ◌+◌, ◌^◌, ◌<◌, ◌≤◌, ℤ, pos, ◌≤ℤ◌, List, [], ◌∷◌, ◌++◌, length, get_or, refl, sym, ap, subst, ◌∙◌, arith}
use Rattle.std.specs.Prelude.{codes, All}
use Rattle.std.specs.Fmt.{decimal, signed_decimal}
use Rattle.text_lines.specs.Steps.{numbered}
use Rattle.text_lines.proofs.StepLaws.{AllNumbered-at, AllNumbered-from}
use Rattle.whole.specs.declared.answers.Refusal.{Refusal}
use Rattle.text_machine.specs.Items.{whole}
use Rattle.text_machine.specs.Lines.{spell_line, Suits}
use Rattle.text_machine.specs.Texts.{Table}
use Rattle.text_machine.specs.Scripts.{lines_from, EachOf}
use Rattle.text_machine.proofs.TimesLaws.{times_suit, times_fit, times_spelled}
use Rattle.text_machine.proofs.PartLaws.{Part, OneLine, line_part, pair_part, as_part, each_part}
use Rattle.run_rows.specs.declared.shapes.Shape.{Shape}
use Rattle.run_rows.specs.declared.rows.Run.{Run}
use Rattle.run_rows.specs.declared.rows.Row.{Row}
use Rattle.run_rows.specs.declared.rows.FlowRow.{FlowRow}
use Rattle.run_rows.specs.Limits.{IsWithin}
use Rattle.run_rows.specs.Runs.{no_flow, no_row, row_of, state_count, IsEntry, FlowFits, RowFits, Fits}
use Rattle.run_rows.proofs.Shaped.{flows_fit, row_fits, rows_fit, run_fits as run_made}
use Rattle.trace_text.specs.Spelling.{flow_line as flow_spelled, flow_lines as flow_texts, row_lines as row_texts}
use Rattle.trace_text.specs.Script.{over_line, credit_line, row_line, flow_line, end_line, flow_lines, row_lines, run_lines, one_number, waste_numbers, flow_numbers, flow_table, row_table, run_table}
use Rattle.trace_text.specs.Reading.{SizedFlows, SizedRow, SizedRows}

-- ---- each line

abbrev FitsOver : ℤ → Type 0
FitsOver z = (pos 1 ≤ℤ z) × IsEntry z

over_part : OneLine over_line one_number (λ z. codes "over" ∷ signed_decimal z ∷ []) FitsOver
unfolding spell_line Suits
over_part = record { suits = λ z f. ((f, tt), tt); spells = λ z f. refl; found = of_numbers; same = λ y z e. cc }
  where
    of_numbers : (zs : List ℤ) → Suits over_line.form zs → (z : ℤ) × ((one_number z ≡ zs) × FitsOver z)
    of_numbers [] s = absurd s
    of_numbers (z ∷ []) s = (z, (refl, s.0))
    of_numbers (z ∷ y ∷ zs) s = absurd s.1

credit_part : OneLine credit_line one_number (λ z. codes "credit" ∷ signed_decimal z ∷ []) IsEntry
unfolding spell_line Suits
credit_part = record { suits = λ z f. ((f, tt), tt); spells = λ z f. refl; found = of_numbers; same = λ y z e. cc }
  where
    of_numbers : (zs : List ℤ) → Suits credit_line.form zs → (z : ℤ) × ((one_number z ≡ zs) × IsEntry z)
    of_numbers [] s = absurd s
    of_numbers (z ∷ []) s = (z, (refl, s.0))
    of_numbers (z ∷ y ∷ zs) s = absurd s.1

abbrev pub FitsWaste : ℕ → ℤ → Type 0
FitsWaste i w = IsEntry w × (i < 2 ^ 127)

waste_part : (i : ℕ) → OneLine (row_line i) (waste_numbers i) (λ w. codes "row" ∷ decimal i ∷ signed_decimal w ∷ []) (FitsWaste i)
unfolding spell_line Suits
waste_part i = record { suits = λ w f. (((i, (refl, omega arith, omega arith, f.1)), (f.0, tt)), tt); spells = λ w f. refl; found = of_numbers; same = λ v w e. cc }
  where
    of_numbers : (zs : List ℤ) → Suits (row_line i).form zs → (w : ℤ) × ((waste_numbers i w ≡ zs) × FitsWaste i w)
    of_numbers [] s = absurd s
    of_numbers (z ∷ []) s = absurd s.1
    of_numbers (z ∷ w ∷ []) ((n, (is, low, high, small)), (fits, done)) =
        let same : n ≡ i = omega arith in
        (w, (ap (λ (y : ℤ). y ∷ w ∷ []) (ap pos (sym same) ∙ sym is), (fits, omega arith)))
    of_numbers (z ∷ w ∷ y ∷ zs) s = absurd s.1.1

abbrev pub FitsFlow : ℕ → ℕ → FlowRow → Type 0
FitsFlow states f flow = FlowFits states flow × (f < 2 ^ 127)

flow_part : (states f : ℕ) → OneLine (flow_line states f) (flow_numbers f) (flow_spelled f) (FitsFlow states f)
unfolding spell_line Suits
flow_part states f = record {
  suits = λ flow fits. (((f, (refl, omega arith, omega arith, fits.1)), (fits.0.bounded.a_in, (fits.0.bounded.s_in, (fits.0.bounded.l_in, times_suit whole states flow.x fits.0.shaped fits.0.bounded.x_in)))), tt);
  spells = λ flow fits.
      ap (λ (is : List (List ℕ)). codes "flow" ∷ decimal f ∷ signed_decimal flow.a ∷ signed_decimal flow.s ∷ signed_decimal flow.l ∷ is) (times_spelled whole states flow.x (times_suit whole states flow.x fits.0.shaped fits.0.bounded.x_in));
  found = of_numbers;
  same = λ y z e. same_flow y z e;
}
  where
    same_flow : (y z : FlowRow) → flow_numbers f y ≡ flow_numbers f z → y ≡ z
    same_flow y z e = by_fields y.a z.a y.s z.s y.l z.l y.x z.x e
      where
        by_fields : (a b s t l m : ℤ) (x v : List ℤ) → pos f ∷ a ∷ s ∷ l ∷ x ≡ pos f ∷ b ∷ t ∷ m ∷ v → ◌≡◌ {A = FlowRow} (record { a = a; s = s; l = l; x = x }) (record { a = b; s = t; l = m; x = v })
        by_fields a b s t l m x v e = cc

    of_numbers : (zs : List ℤ) → Suits (flow_line states f).form zs → (flow : FlowRow) × ((flow_numbers f flow ≡ zs) × FitsFlow states f flow)
    of_numbers [] s = absurd s
    of_numbers (z ∷ []) s = absurd s.1
    of_numbers (z ∷ a ∷ []) s = absurd s.1.1
    of_numbers (z ∷ a ∷ b ∷ []) s = absurd s.1.1.1
    of_numbers (z ∷ a ∷ b ∷ l ∷ x) ((n, (is, low, high, small)), (a_in, (b_in, (l_in, states_in)))) =
        let same : n ≡ f = omega arith in
        let x_fits = times_fit whole states x states_in in (
          record { a = a; s = b; l = l; x = x },
          (ap (λ (y : ℤ). y ∷ a ∷ b ∷ l ∷ x) (ap pos (sym same) ∙ sym is), (record { shaped = x_fits.0; bounded = record { a_in = a_in; s_in = b_in; l_in = l_in; x_in = x_fits.1 } }, omega arith)),
        )

end_part : OneLine {R = Refusal} {X = Unit {0}} end_line (λ _. []) (λ _. codes "end" ∷ []) (λ _. Unit {0})
unfolding spell_line Suits
end_part = record { suits = λ x f. (tt, tt); spells = λ x f. refl; found = of_numbers; same = λ x y e. refl }
  where
    of_numbers : (zs : List ℤ) → Suits end_line.form zs → (x : Unit {0}) × (([] ≡ zs) × Unit {0})
    of_numbers [] s = (tt, (refl, tt))
    of_numbers (z ∷ zs) s = absurd s

-- ---- rows

flows_part : (states flows : ℕ) → Part (lines_from (flow_lines states) flows 1) (numbered flow_table 1) (numbered flow_texts 1) (SizedFlows flows) (EachOf (FitsFlow states) flows 1)
flows_part states flows =
    each_part (flow_lines states) flow_table flow_texts (λ _ _. Unit {0}) (FitsFlow states) (λ f. line_part (flow_line states f) (flow_numbers f) (flow_spelled f) (FitsFlow states f) (flow_part states f)) flows 1

abbrev pub FitsRow : Shape → ℕ → Row → Type 0
FitsRow shape i row = FitsWaste i row.w × EachOf (FitsFlow (state_count shape i)) shape.flows 1 row.flows

row_part : (shape : Shape) (i : ℕ) → Part (row_lines shape i) (row_table i) (row_texts i) (SizedRow shape i) (FitsRow shape i)
row_part shape i =
    let states = state_count shape i in
    as_part (row_lines shape i) (λ (z : ℤ × List FlowRow). waste_numbers i z.0 ∷ numbered flow_table 1 z.1) (λ z. (codes "row" ∷ decimal i ∷ signed_decimal z.0 ∷ []) ∷ numbered flow_texts 1 z.1)
    (λ z. Unit {0} × SizedFlows shape.flows z.1) (λ z. FitsWaste i z.0 × EachOf (FitsFlow states) shape.flows 1 z.1) (FitsRow shape i)
    (λ row. (row.w, row.flows)) (λ z. record { w = z.0; flows = z.1 }) (λ z. refl) (λ row. refl) (λ row f. f) (λ z f. f)
    (pair_part (row_line i ∷ []) (lines_from (flow_lines states) shape.flows 1) (λ w. waste_numbers i w ∷ []) (numbered flow_table 1) (λ w. (codes "row" ∷ decimal i ∷ signed_decimal w ∷ []) ∷ []) (numbered flow_texts 1)
    (λ _. Unit {0}) (FitsWaste i) (SizedFlows shape.flows) (EachOf (FitsFlow states) shape.flows 1)
    (line_part (row_line i) (waste_numbers i) (λ w. codes "row" ∷ decimal i ∷ signed_decimal w ∷ []) (FitsWaste i) (waste_part i)) (flows_part states shape.flows))

abbrev pub FitsRows : Shape → List Row → Type 0
FitsRows shape rows = EachOf (FitsRow shape) (shape.h + shape.t + 1) 0 rows

-- ---- a run, and `end`

abbrev Rest : Type 0
Rest = ℤ × (ℤ × (List Row × Unit {0}))

-- the run and `end`
abbrev pub FitsRun : Shape → Run → Type 0
FitsRun shape r = FitsOver r.over × (IsEntry r.credit × (FitsRows shape r.rows × Unit {0}))

pub run_part : (shape : Shape)
    → Part (run_lines shape ++ end_line ∷ []) (λ (r : Run). run_table r ++ [] ∷ []) (λ r. (codes "over" ∷ signed_decimal r.over ∷ []) ∷ (codes "credit" ∷ signed_decimal r.credit ∷ []) ∷ (numbered row_texts 0 r.rows ++ (codes "end" ∷ []) ∷ []))
    (λ r. Unit {0} × (Unit {0} × (SizedRows shape r.rows × Unit {0}))) (FitsRun shape)
run_part shape =
    let count = shape.h + shape.t + 1 in
    let rows = lines_from (row_lines shape) count 0 in
    let spell_over : ℤ → List (List (List ℕ)) = λ z. (codes "over" ∷ signed_decimal z ∷ []) ∷ [] in
    let spell_credit : ℤ → List (List (List ℕ)) = λ z. (codes "credit" ∷ signed_decimal z ∷ []) ∷ [] in
    let end_table : Unit {0} → Table = λ _. [] ∷ [] in
    let end_text : Unit {0} → List (List (List ℕ)) = λ _. (codes "end" ∷ []) ∷ [] in
    as_part (run_lines shape ++ end_line ∷ []) (λ (z : Rest). one_number z.0 ∷ one_number z.1.0 ∷ (numbered row_table 0 z.1.1.0 ++ [] ∷ []))
    (λ z. (codes "over" ∷ signed_decimal z.0 ∷ []) ∷ (codes "credit" ∷ signed_decimal z.1.0 ∷ []) ∷ (numbered row_texts 0 z.1.1.0 ++ (codes "end" ∷ []) ∷ []))
    (λ z. Unit {0} × (Unit {0} × (SizedRows shape z.1.1.0 × Unit {0}))) (λ z. FitsOver z.0 × (IsEntry z.1.0 × (FitsRows shape z.1.1.0 × Unit {0}))) (FitsRun shape)
    (λ r. (r.over, (r.credit, (r.rows, tt)))) (λ z. record { over = z.0; credit = z.1.0; rows = z.1.1.0 }) (λ z. refl) (λ r. refl) (λ r f. f) (λ z f. f)
    (pair_part (over_line ∷ []) (credit_line ∷ (rows ++ end_line ∷ [])) (λ z. one_number z ∷ []) (λ (z : ℤ × (List Row × Unit {0})). one_number z.0 ∷ (numbered row_table 0 z.1.0 ++ [] ∷ []))
    spell_over (λ z. (codes "credit" ∷ signed_decimal z.0 ∷ []) ∷ (numbered row_texts 0 z.1.0 ++ (codes "end" ∷ []) ∷ []))
    (λ _. Unit {0}) FitsOver (λ z. Unit {0} × (SizedRows shape z.1.0 × Unit {0})) (λ z. IsEntry z.0 × (FitsRows shape z.1.0 × Unit {0}))
    (line_part over_line one_number (λ z. codes "over" ∷ signed_decimal z ∷ []) FitsOver over_part)
    (pair_part (credit_line ∷ []) (rows ++ end_line ∷ []) (λ z. one_number z ∷ []) (λ (z : List Row × Unit {0}). numbered row_table 0 z.0 ++ [] ∷ []) spell_credit (λ z. numbered row_texts 0 z.0 ++ (codes "end" ∷ []) ∷ [])
    (λ _. Unit {0}) IsEntry (λ z. SizedRows shape z.0 × Unit {0}) (λ z. FitsRows shape z.0 × Unit {0})
    (line_part credit_line one_number (λ z. codes "credit" ∷ signed_decimal z ∷ []) IsEntry credit_part)
    (pair_part rows (end_line ∷ []) (numbered row_table 0) end_table (numbered row_texts 0) end_text (SizedRows shape) (FitsRows shape) (λ _. Unit {0}) (λ _. Unit {0})
    (each_part (row_lines shape) row_table row_texts (SizedRow shape) (FitsRow shape) (row_part shape) count 0)
    (line_part end_line (λ _. []) (λ _. codes "end" ∷ []) (λ _. Unit {0}) end_part))))

-- ---- what fits a shape

flows_suit : (states flows : ℕ) (xs : List FlowRow) → flows ≤ 4 → length xs ≡ flows → All (FlowFits states) xs → EachOf (FitsFlow states) flows 1 xs
flows_suit states flows xs few l all = record { counted = l; all = AllNumbered-from (FitsFlow states) no_flow 1 xs (λ i lt. (all i no_flow lt, omega arith)) }

fit_flows : (states flows : ℕ) (xs : List FlowRow) → EachOf (FitsFlow states) flows 1 xs → All (FlowFits states) xs
fit_flows states flows xs each i d lt = (AllNumbered-at (FitsFlow states) d 1 xs each.all i lt).0

pub run_fits : (shape : Shape) (r : Run) → IsWithin shape → Fits shape r → FitsRun shape r
run_fits shape r within fits = ((fits.shaped.over_from, fits.bounded.over_in), (fits.bounded.credit_in, (record { counted = fits.shaped.row_count; all = AllNumbered-from (FitsRow shape) no_row 0 r.rows at }, tt)))
  where
    at : (i : ℕ) → i < length r.rows → FitsRow shape (0 + i) (get_or r.rows i no_row)
    at i lt =
        let row = rows_fit shape r fits i lt in
        let here : i ≡ 0 + i = omega arith in
        subst (λ k. FitsRow shape k (get_or r.rows i no_row)) here ((row.bounded.w_in, omega (arith, fits.shaped.row_count, within.h_to, within.t_to)), flows_suit (state_count shape i) shape.flows (row_of r i).flows within.flows_to row.shaped.flow_count (flows_fit shape.flows (state_count shape i) (row_of r i) row))

pub fits_run : (shape : Shape) (r : Run) → FitsRun shape r → Fits shape r
fits_run shape r (over, (credit, (rows, end))) = run_made shape r over.0 over.1 credit rows.counted at
  where
    at : (i : ℕ) → i < length r.rows → RowFits shape.flows (state_count shape i) (row_of r i)
    at i lt =
        let here : 0 + i ≡ i = omega arith in
        let row : FitsRow shape i (row_of r i) = subst (λ k. FitsRow shape k (get_or r.rows i no_row)) here (AllNumbered-at (FitsRow shape) no_row 0 r.rows rows.all i lt) in
        row_fits shape.flows (state_count shape i) (row_of r i) row.0.0 row.1.counted (fit_flows (state_count shape i) shape.flows (row_of r i).flows row.1)
