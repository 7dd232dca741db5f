use Rattle.std.proofs.Common.{◌≡◌, ◌∙◌, ◌≤◌, ℕ, ap, sym, subst, length, map, arith}
use Rattle.std.proofs.Common.{rules}
use Rattle.clause_form.specs.Formulas.{CanTake, EachComparison}
use Rattle.run_rows.specs.Columns.{entries_of, value_at}
use Rattle.run_rows.specs.declared.shapes.Shape.{Shape}
use Rattle.ctrl_meaning.specs.Flows.{shape_for}
use Rattle.unroll.specs.ClaimFormulas.{trees}
use Rattle.unroll.specs.Problems.{problem_formulas}
use Rattle.unroll.proofs.ProblemLaws.{few_columns, problem_takes, shape_fits, violation_made, violation_read}
use Rattle.unroll.proofs.ShapeLaws.{shape_within}
use Rattle.unroll.proofs.problems.unroll.Goals as goal

pub to_clauses-requires-clause-room : goal.to_clauses-requires-clause-room
to_clauses-requires-clause-room c =
    let ctrl = c.args.controller.now in
    let q = c.args.question.now in
    let same : c.shape-shape.result ≡ shape_for ctrl q.setting = search rules in
    let within = shape_within q.setting (shape_for ctrl q.setting) c.requires.question_in.setting_in (shape_fits ctrl q c.requires.controller_in c.requires.question_in).in_shape in
    let few : length (entries_of c.shape-shape.result) ≤ 2048 =
    subst (λ (s : Shape). length (entries_of s) ≤ 2048) (sym same) (few_columns (shape_for ctrl q.setting) within) in
    omega (arith, few, c.columns.ensures.count)

pub to_clauses-requires-clause-small : goal.to_clauses-requires-clause-small
to_clauses-requires-clause-small c =
    let ctrl = c.args.controller.now in
    let q = c.args.question.now in
    let same : c.shape-shape.result ≡ shape_for ctrl q.setting = search rules in
    let columns : length (entries_of (shape_for ctrl q.setting)) ≡ c.columns.result =
    ap (λ (s : Shape). length (entries_of s)) (sym same) ∙ sym c.columns.ensures.count in
    subst (EachComparison (CanTake c.columns.result)) (sym c.in_ok-formulas.ensures)
    (subst (λ (n : ℕ). EachComparison (CanTake n) (problem_formulas ctrl q)) columns (problem_takes ctrl q c.requires.controller_in c.requires.question_in))

pub returns-clause-models : goal.returns-clause-models
returns-clause-models c = λ value over truth some model.
    let ctrl = c.args.controller.now in
    let q = c.args.question.now in
    let same : c.shape-shape.result ≡ shape_for ctrl q.setting = search rules in
    violation_made ctrl q c.shape-shape.result (trees c.in_ok-formulas.formulas.items) value over c.requires.controller_in c.requires.question_in
    same c.in_ok-formulas.ensures some (c.in_ok-clauses.ensures.models value over truth some model)

pub returns-clause-runs : goal.returns-clause-runs
returns-clause-runs c = λ run violation.
    let ctrl = c.args.controller.now in
    let q = c.args.question.now in
    let same : c.shape-shape.result ≡ shape_for ctrl q.setting = search rules in
    let read = violation_read ctrl q c.shape-shape.result (trees c.in_ok-formulas.formulas.items) run c.requires.controller_in c.requires.question_in
    same c.in_ok-formulas.ensures violation in
    c.in_ok-clauses.ensures.truths (value_at c.shape-shape.result run) _ read.0 read.1
