-- The formulas of a problem are true exactly where a run of the controller violates the question.
use Rattle.std.proofs.Common.{◌≡◌, ℕ, zero, suc, ◌+◌, ◌*◌, ◌-◌, ◌<◌, ◌≤◌, false, ℤ, pos, unsigned_abs, List, [], ◌∷◌, ◌++◌, map, length, inl, inr, refl, sym, ◌∙◌, ap, subst, arith}
use Rattle.std.specs.Prelude.{◌≤ℤ◌, All, flat_map}
use Rattle.std.proofs.lemmas.Int.{ints}
use Rattle.std.proofs.lemmas.Bool.{cases_lt}
use Rattle.std.proofs.lemmas.Grind.{flat_map-append}
use Rattle.std.proofs.lemmas.List.{append-nil, map-append}
use Rattle.std.proofs.Math.Nat.{mul-le-mul_left, mul-le-mul_right}
use Rattle.weighing.specs.First.{below}
use Rattle.run_rows.specs.Columns.{entries_of, rows_of, value_at}
use Rattle.run_rows.specs.Limits.{IsWithin}
use Rattle.run_rows.specs.Runs.{Shaped}
use Rattle.run_rows.specs.declared.rows.Run.{Run}
use Rattle.run_rows.specs.declared.shapes.Shape.{Shape}
use Rattle.run_rows.proofs.EntryPlaces.{length-entries_before}
use Rattle.claims.specs.Columns.{run_of}
use Rattle.claims.specs.Subjects.{Symbolic, part}
use Rattle.condition_tree.specs.Trees.{Tree}
use Rattle.linear_form.specs.declared.relations.Comparison.{Comparison}
use Rattle.clause_form.specs.declared.formulas.Formula.{Formula}
use Rattle.clause_form.specs.Formulas.{AreTrueAt, CanTake, EachComparison}
use Rattle.path_server.specs.Limits.{IsSetting}
use Rattle.path_server.specs.RowClaims.{row_claims}
use Rattle.path_server.specs.Rules.{Admitted, RowHolds}
use Rattle.path_server.specs.Servers.{server_of}
use Rattle.path_server.specs.declared.settings.Path.{Path}
use Rattle.path_server.specs.declared.settings.Setting.{Setting}
use Rattle.path_server.proofs.RuleLaws.{Means}
use Rattle.ctrl_types.specs.Limits.{IsController}
use Rattle.ctrl_types.specs.declared.controllers.Controller.{Controller}
use Rattle.ctrl_meaning.specs.Flows.{FlowsHold, flow_claims, shape_for}
use Rattle.ctrl_meaning.specs.Limits.{HasShape, IsControlled}
use Rattle.ctrl_meaning.specs.Opening.{opening_row}
use Rattle.ctrl_meaning.specs.RunOf.{AreSteps, Opens}
use Rattle.question_text.specs.Claims.{CanUnroll, question_claims, rows_for}
use Rattle.question_text.specs.Meaning.{Violates}
use Rattle.question_text.specs.declared.questions.Question.{Question}
use Rattle.unroll.specs.ClaimFormulas.{Adds, claim_formula, claim_formulas, trees}
use Rattle.unroll.specs.Problems.{IsViolation, problem_claims, problem_formulas, row_problem}
use Rattle.unroll.specs.QuestionFormulas.{IsShapeFor}
use Rattle.unroll.proofs.FlowMeaning.{flows_in_run, flows_made, question_in_run, question_made}
use Rattle.unroll.proofs.FlowSizes.{flows_take}
use Rattle.unroll.proofs.QuestionSizes.{question_takes}
use Rattle.unroll.proofs.RowLaws.{row_is_made, row_is_read, row_takes}
use Rattle.unroll.proofs.RunLaws.{run_shaped}
use Rattle.unroll.proofs.ShapeLaws.{shape_within}

-- ---- formulas of claims one after another

abbrev AreTrueOf : Shape → (ℕ → ℤ) → ℕ → List Symbolic → Type 0
AreTrueOf s value den cs = AreTrueAt value den (claim_formulas s cs)

joined_true : (s : Shape) (value : ℕ → ℤ) (den : ℕ) (cs ds : List Symbolic) → Means (AreTrueOf s value den (cs ++ ds)) (AreTrueOf s value den cs × AreTrueOf s value den ds)
joined_true s value den [] ds = (λ h. (tt, h), λ h. h.1)
joined_true s value den (c ∷ cs) ds =
    let rest = joined_true s value den cs ds in
    (λ h. let both = rest.0 h.1 in ((h.0, both.0), both.1), λ h. (h.0.0, rest.1 (h.0.1, h.1)))

-- the claims of one row more
more_rows : (g : ℕ → List Symbolic) (n : ℕ) → flat_map g (below (suc n)) ≡ flat_map g (below n) ++ g n
more_rows g n = flat_map-append g (below n) (n ∷ []) ∙ ap (λ cs. flat_map g (below n) ++ cs) (append-nil (g n))

one_row_more : (s : Shape) (value : ℕ → ℤ) (den : ℕ) (g : ℕ → List Symbolic) (n : ℕ)
    → Means (AreTrueOf s value den (flat_map g (below n))) ((i : ℕ) → i < n → AreTrueOf s value den (g i))
    → Means (AreTrueOf s value den (flat_map g (below (suc n)))) ((i : ℕ) → i < suc n → AreTrueOf s value den (g i))
one_row_more s value den g n before =
    let joined = joined_true s value den (flat_map g (below n)) (g n) in (
      λ h. λ i less.
          let both = joined.0 (subst (AreTrueOf s value den) (more_rows g n) h) in
          elim (cases_lt i n) [
            | inl lower ↦ before.0 both.0 i lower
            | inr upper ↦ let same : n ≡ i = omega arith in subst (λ k. AreTrueOf s value den (g k)) same both.1
          ],
      λ each. subst (AreTrueOf s value den) (sym (more_rows g n)) (joined.1 (before.1 (λ i less. each i (omega arith)), each n (omega arith))),
    )

-- those of each row
rows_true : (s : Shape) (value : ℕ → ℤ) (den : ℕ) (g : ℕ → List Symbolic) (n : ℕ)
    → Means (AreTrueOf s value den (flat_map g (below n))) ((i : ℕ) → i < n → AreTrueOf s value den (g i))
rows_true s value den g zero = (λ h. λ i less. absurd (omega arith), λ h. tt)
rows_true s value den g (suc n) = one_row_more s value den g n (rows_true s value den g n)

-- ---- each row and the question, of one run

-- what the formulas of each row and of the question say of a run
record Tells (c : Controller) (q : Question) (r : Run) (value : ℕ → ℤ) (den : ℕ) : Type 0 where
  shaped : HasShape c q.setting r
  path : (i : ℕ) → i < rows_of (shape_for c q.setting)
      → Means (AreTrueOf (shape_for c q.setting) value den (row_claims part q.setting.flows (server_of q.setting.path) i)) (RowHolds (server_of q.setting.path) r i)
  flows : (i : ℕ) → i < rows_of (shape_for c q.setting)
      → Means (AreTrueOf (shape_for c q.setting) value den (flow_claims part false c q.setting i)) (FlowsHold false c q.setting r i)
  question : Means (AreTrueOf (shape_for c q.setting) value den (question_claims part q.setting.flows (rows_for (shape_for c q.setting)) q)) (Violates q r)

rows_admitted : (p : Path) (r : Run) (n : ℕ) → length r.rows ≡ n → Means ((i : ℕ) → i < n → RowHolds (server_of p) r i) (Admitted p r)
unfolding Admitted
rows_admitted p r n rows = (
  λ h. λ rule i f inside to. h i (omega (arith, rows)) rule f to,
  λ h. λ i inside. λ rule f to. h rule i f (omega (arith, rows)) to,
)

-- every row keeps what is asked of the flows exactly where each opens and each controlled row is a step of each
rows_stepped : (c : Controller) (s : Setting) (r : Run)
    → Means ((i : ℕ) → i < rows_of (shape_for c s) → FlowsHold false c s r i) (Opens c s r × ((i : ℕ) → IsControlled c s i → AreSteps c s r i))
rows_stepped c s r = (
  λ h. (
    λ f from to. (h (opening_row c s) (omega arith)).opened refl refl f from to,
    λ i controlled. (h i (let last = controlled.within in omega arith)).stepped controlled,
  ),
  λ h. λ i inside. record { opened = λ _ _ f from to. h.0 f from to; stepped = λ controlled. h.1 i controlled },
)

told : (c : Controller) (q : Question) (r : Run) (value : ℕ → ℤ) (den : ℕ) → Tells c q r value den
    → Means (AreTrueAt value den (problem_formulas c q)) (IsViolation c q r)
unfolding problem_claims row_problem
told c q r value den tells =
    let s : Shape = shape_for c q.setting in
    let n : ℕ = rows_of s in
    let all = joined_true s value den (flat_map (row_problem c q) (below n)) (question_claims part q.setting.flows (rows_for s) q) in
    let rows = rows_true s value den (row_problem c q) n in
    let admitted = rows_admitted q.setting.path r n (tells.shaped.row_count) in
    let stepped = rows_stepped c q.setting r in
    let row : (i : ℕ) → Means (AreTrueOf s value den (row_problem c q i))
    (AreTrueOf s value den (row_claims part q.setting.flows (server_of q.setting.path) i) × AreTrueOf s value den (flow_claims part false c q.setting i)) =
    λ i. joined_true s value den (row_claims part q.setting.flows (server_of q.setting.path) i) (flow_claims part false c q.setting i) in (
      λ h.
          let parts = all.0 h in
          let each = rows.0 parts.0 in
          let flows = stepped.0 (λ i inside. (tells.flows i inside).0 ((row i).0 (each i inside)).1) in
          record {
            run = record {
              free = record {
                shaped = tells.shaped;
                admitted = admitted.0 (λ i inside. (tells.path i inside).0 ((row i).0 (each i inside)).0);
                stepped = flows.1;
              };
              opened = flows.0;
            };
            violates = tells.question.0 parts.1;
          },
      λ is.
          let path = admitted.1 is.run.free.admitted in
          let flows = stepped.1 (is.run.opened, is.run.free.stepped) in
          all.1 (
            rows.1 (λ i inside. (row i).1 ((tells.path i inside).1 (path i inside), (tells.flows i inside).1 (flows i inside))),
            tells.question.1 is.violates,
          ),
    )

-- ---- the formulas of a problem

pub shape_fits : (c : Controller) (q : Question) → IsController c → CanUnroll (length c.states) q → IsShapeFor q (shape_for c q.setting)
shape_fits c q is can = record {
  in_shape = record { states = length c.states; delay_max = c.delay_max; states_to = is.states_to; delay_to = is.delay_to; is = refl };
  question_in = can;
}

-- at any values of the columns: exactly where the run that they make is a violation
pub problem_made : (c : Controller) (q : Question) (value : ℕ → ℤ) (den : ℕ) → IsController c → CanUnroll (length c.states) q → 0 < den
    → Means (AreTrueAt value den (problem_formulas c q)) (IsViolation c q (run_of (shape_for c q.setting) value (pos den)))
problem_made c q value den is can some =
    let s : Shape = shape_for c q.setting in
    told c q (run_of s value (pos den)) value den (record {
      shaped = run_shaped s value (pos den) (omega (arith, ints));
      path = λ i inside. row_is_made s value den (server_of q.setting.path) i can.setting_in.path inside;
      flows = λ i inside. flows_made false c q.setting i _ is inside refl value den some;
      question = question_made q s _ (shape_fits c q is can) refl value den some;
    })

-- at the values of a run of the shape: exactly where it is one
pub problem_read : (c : Controller) (q : Question) (r : Run) (den : ℕ) → IsController c → CanUnroll (length c.states) q → HasShape c q.setting r → r.over ≡ pos den
    → Means (AreTrueAt (value_at (shape_for c q.setting) r) den (problem_formulas c q)) (IsViolation c q r)
problem_read c q r den is can shaped units =
    let s : Shape = shape_for c q.setting in
    told c q r (value_at s r) den (record {
      shaped = shaped;
      path = λ i inside. row_is_read s r den (server_of q.setting.path) i can.setting_in.path inside shaped units;
      flows = λ i inside. flows_in_run false c q.setting i _ is inside refl r den shaped units;
      question = question_in_run q s _ (shape_fits c q is can) refl r den shaped units;
    })

-- a run's denominator is its size, above 0
pub over_is : (z : ℤ) → pos 1 ≤ℤ z → z ≡ pos (unsigned_abs z)
over_is z some = omega (arith, ints)

pub over_some : (z : ℤ) → pos 1 ≤ℤ z → 0 < unsigned_abs z
over_some z some = omega (arith, ints)

-- ---- they can be turned into clauses

product_to : (a b m n : ℕ) → a ≤ m → b ≤ n → a * b ≤ m * n
product_to a b m n left right = omega (arith, mul-le-mul_left a right, mul-le-mul_right n left)

pub few_columns : (s : Shape) → IsWithin s → length (entries_of s) ≤ 2048
few_columns s within =
    let flows = within.flows_to in
    let states = within.states_to in
    let before = within.h_to in
    let after = within.t_to in
    let rows : rows_of s * (1 + 3 * s.flows) ≤ 49 * 13 = product_to (rows_of s) (1 + 3 * s.flows) 49 13 (omega arith) (omega arith) in
    let held : s.flows * s.states ≤ 4 * 8 = product_to s.flows s.states 4 8 flows states in
    let later : (rows_of s - s.h) * (s.flows * s.states) ≤ 33 * 32 = product_to (rows_of s - s.h) (s.flows * s.states) 33 32 (omega arith) (omega (arith, held)) in
    omega (arith, length-entries_before s (rows_of s), rows, later)

abbrev AreTaken : Shape → List Symbolic → Type 0
AreTaken s cs = EachComparison (CanTake (length (entries_of s))) (claim_formulas s cs)

joined_taken : (s : Shape) (cs ds : List Symbolic) → AreTaken s cs → AreTaken s ds → AreTaken s (cs ++ ds)
joined_taken s [] ds one two = two
joined_taken s (c ∷ cs) ds one two = (one.0, joined_taken s cs ds one.1 two)

rows_taken : (s : Shape) (g : ℕ → List Symbolic) (n : ℕ) → ((i : ℕ) → i < n → AreTaken s (g i)) → AreTaken s (flat_map g (below n))
rows_taken s g zero each = tt
rows_taken s g (suc n) each =
    subst (AreTaken s) (sym (more_rows g n))
    (joined_taken s (flat_map g (below n)) (g n) (rows_taken s g n (λ i less. each i (omega arith))) (each n (omega arith)))

pub problem_takes : (c : Controller) (q : Question) → IsController c → CanUnroll (length c.states) q
    → EachComparison (CanTake (length (entries_of (shape_for c q.setting)))) (problem_formulas c q)
unfolding problem_claims row_problem
problem_takes c q is can =
    let s : Shape = shape_for c q.setting in
    let within = shape_within q.setting s can.setting_in (shape_fits c q is can).in_shape in
    let asked : List Symbolic = question_claims part q.setting.flows (rows_for s) q in
    joined_taken s (flat_map (row_problem c q) (below (rows_of s))) asked
    (rows_taken s (row_problem c q) (rows_of s) (λ i inside.
    joined_taken s (row_claims part q.setting.flows (server_of q.setting.path) i) (flow_claims part false c q.setting i)
    (row_takes s (server_of q.setting.path) i within can.setting_in.path inside) (flows_take false c q.setting i is can.setting_in inside)))
    (question_takes q s (shape_fits c q is can))

-- ---- what the code makes

-- the formulas of all rows and those of the question are those of the problem
pub problem_parts : (c : Controller) (q : Question) (s : Shape) (n : ℕ) (now asked : List Formula) → s ≡ shape_for c q.setting → n ≡ rows_of s
    → Adds (shape_for c q.setting) [] (flat_map (row_problem c q) (below n)) now
    → trees asked ≡ claim_formulas s (question_claims part s.flows (rows_for s) q) → trees now ++ trees asked ≡ problem_formulas c q
unfolding problem_claims
problem_parts c q s n now asked shape rows made last =
    let t : Shape = shape_for c q.setting in
    let question : List Symbolic = question_claims part q.setting.flows (rows_for t) q in
    let all : n ≡ rows_of t = rows ∙ ap rows_of shape in
    let first : trees now ≡ claim_formulas t (flat_map (row_problem c q) (below (rows_of t))) = made ∙ ap (λ k. claim_formulas t (flat_map (row_problem c q) (below k))) all in
    let second : trees asked ≡ claim_formulas t question = last ∙ ap (λ (z : Shape). claim_formulas z (question_claims part z.flows (rows_for z) q)) shape in
    ap (λ (ts : List (Tree Comparison)). ts ++ trees asked) first
    ∙ ap (λ (ts : List (Tree Comparison)). claim_formulas t (flat_map (row_problem c q) (below (rows_of t))) ++ ts) second
    ∙ sym (map-append (claim_formula t) (flat_map (row_problem c q) (below (rows_of t))) question)

-- values that make the formulas true are those of a violation
pub violation_made : (c : Controller) (q : Question) (s : Shape) (ts : List (Tree Comparison)) (value : ℕ → ℤ) (den : ℕ) → IsController c → CanUnroll (length c.states) q
    → s ≡ shape_for c q.setting → ts ≡ problem_formulas c q → 0 < den → AreTrueAt value den ts → IsViolation c q (run_of s value (pos den))
violation_made c q s ts value den is can shape formulas some true =
    subst (λ z. IsViolation c q (run_of z value (pos den))) (sym shape)
    ((problem_made c q value den is can some).0 (subst (AreTrueAt value den) formulas true))

-- and the values of a violation make them true
pub violation_read : (c : Controller) (q : Question) (s : Shape) (ts : List (Tree Comparison)) (r : Run) → IsController c → CanUnroll (length c.states) q
    → s ≡ shape_for c q.setting → ts ≡ problem_formulas c q → IsViolation c q r
    → (0 < unsigned_abs r.over) × AreTrueAt (value_at s r) (unsigned_abs r.over) ts
violation_read c q s ts r is can shape formulas violation =
    let shaped = violation.run.free.shaped in
    let some = shaped.over_from in (
      over_some r.over some,
      subst (λ z. AreTrueAt (value_at z r) (unsigned_abs r.over) ts) (sym shape)
          (subst (AreTrueAt (value_at (shape_for c q.setting) r) (unsigned_abs r.over)) (sym formulas)
          ((problem_read c q r (unsigned_abs r.over) is can shaped (over_is r.over some)).1 violation)),
    )
