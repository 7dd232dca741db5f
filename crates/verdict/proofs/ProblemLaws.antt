-- What holds of the problem that a question poses: it is well formed, its models are the runs that violate the question, and where a
-- certificate proves there are none.
use Rattle.std.proofs.Common.{◌≡◌, ℕ, ◌<◌, ◌≤◌, ℤ, pos, unsigned_abs, Bool, List, [], ◌∷◌, length, map, Ok, refl, subst, sym, arith}
use Rattle.std.specs.Prelude.{All}
use Rattle.std.proofs.lemmas.List.Elements.{All-cons, All-nil}
use Rattle.condition_tree.specs.Trees.{EachLeaf, conjunction}
use Rattle.condition_tree.proofs.Trees.{each_leaf_gives}
use Rattle.claims.specs.Columns.{run_of}
use Rattle.run_rows.specs.Columns.{entries_of, value_at}
use Rattle.run_rows.specs.Limits.{IsWithin}
use Rattle.run_rows.specs.declared.shapes.Shape.{Shape}
use Rattle.path_server.specs.declared.settings.Setting.{Setting}
use Rattle.ctrl_types.specs.Limits.{IsController}
use Rattle.ctrl_types.specs.declared.controllers.Controller.{Controller}
use Rattle.ctrl_meaning.specs.Flows.{shape_for}
use Rattle.question_text.specs.Claims.{CanCompare, CanUnroll, IsSide, is_named, named_terms}
use Rattle.question_text.specs.Conditions.{Comparison, Condition, Sides, compares, condition_of}
use Rattle.question_text.specs.Limits.{IsComparison, IsQuestion, IsTerm}
use Rattle.question_text.specs.declared.conditions.Of.{Of}
use Rattle.question_text.specs.declared.conditions.Of.TheVariants.{One, Credit, W, A, S, L, X}
use Rattle.question_text.specs.declared.conditions.QCond.{QCond}
use Rattle.question_text.specs.declared.conditions.QLin.{QLin}
use Rattle.question_text.specs.declared.conditions.QTerm.{QTerm}
use Rattle.question_text.specs.declared.questions.Question.{Question}
use Rattle.farkas_cert.specs.declared.certificates.Cert.{Cert}
use Rattle.clause_form.specs.declared.clauses.Clauses.{Clauses}
use Rattle.clause_form.specs.Models.{IsModel}
use Rattle.clause_form.specs.WellFormed.{IsWellFormed}
use Rattle.clause_form.proofs.ModelLaws.{are_well_formed, models_are_true, true_have_models}
use Rattle.unroll.specs.Problems.{IsViolation, problem_formulas}
use Rattle.unroll.proofs.ProblemLaws.{few_columns, problem_takes, shape_fits, violation_made, violation_read}
use Rattle.unroll.proofs.ShapeLaws.{shape_within}
use Rattle.cert_check.specs.Answers.{IsAnswer, answer_of}
use Rattle.cert_check.specs.Verdicts.{proved, verdict}
use Rattle.cert_check.specs.declared.found.Checked.TheVariants.{Proved}
use Rattle.cert_check.proofs.AnswerLaws.{proved_no_model, says_proved}
use Rattle.verdict.specs.Problems.{NoneViolates, problem_of}
use Rattle.verdict.proofs.ColumnLaws.{columns_made}

-- ---- what is within the limits of a question can be unrolled

one_at_most : (of : Of) → is_named of ≤ 1
one_at_most One = omega arith
one_at_most Credit = omega arith
one_at_most (W t) = omega arith
one_at_most (A f t) = omega arith
one_at_most (S f t) = omega arith
one_at_most (L f t) = omega arith
one_at_most (X j f t) = omega arith

named_to_all : (ts : List QTerm) → named_terms ts ≤ length ts
named_to_all [] = omega arith
named_to_all (t ∷ ts) = omega (arith, one_at_most t.of, named_to_all ts)

side_in : (states : ℕ) (s : Setting) (lin : QLin) → length lin.terms ≤ 16 → All (IsTerm states s) lin.terms → IsSide states s lin
side_in states s lin few terms = record {
  terms_to = omega (arith, few);
  named_to = omega (arith, few, named_to_all lin.terms);
  terms_in = terms;
}

comparison_in : (states : ℕ) (s : Setting) (l : Comparison) → Sides (IsComparison states s) l → Sides (CanCompare states s) l
comparison_in states s (compares left rel right) is = record {
  left_in = side_in states s left is.left_to is.left_in;
  right_in = side_in states s right is.right_to is.right_in;
  scale_to = is.scale_to;
}

condition_in : (states : ℕ) (s : Setting) (c : Condition) → EachLeaf (Sides (IsComparison states s)) c → EachLeaf (Sides (CanCompare states s)) c
condition_in states s c each = each_leaf_gives (Sides (IsComparison states s)) (Sides (CanCompare states s)) c (comparison_in states s) each

conditions_in : (states : ℕ) (s : Setting) (cs : List QCond) → EachLeaf (Sides (IsComparison states s)) (conjunction (map condition_of cs))
    → All (λ c. EachLeaf (Sides (CanCompare states s)) (condition_of c)) cs
conditions_in states s [] each = All-nil (λ c. EachLeaf (Sides (CanCompare states s)) (condition_of c))
conditions_in states s (c ∷ cs) each =
    All-cons (λ c. EachLeaf (Sides (CanCompare states s)) (condition_of c)) c cs
    (condition_in states s (condition_of c) each.0) (conditions_in states s cs each.1)

pub can_unroll : (states : ℕ) (q : Question) → IsQuestion states q → CanUnroll states q
can_unroll states q is = record {
  setting_in = is.setting_in;
  assumes_in = conditions_in states q.setting q.assumes is.assumes_in;
  require_in = condition_in states q.setting (condition_of q.require) is.require_in;
}

-- ---- the problem

module _ (c : Controller) (q : Question) (problem : Clauses) (is : IsController c) (asked : IsQuestion (length c.states) q)
    (made : problem_of c q ≡ Ok problem) where
  can : CanUnroll (length c.states) q
  can = can_unroll (length c.states) q asked

  abbrev shape : Shape
  shape = shape_for c q.setting

  pub shape_is_within : IsWithin shape
  shape_is_within = shape_within q.setting shape can.setting_in (shape_fits c q is can).in_shape

  room : length (entries_of shape) ≤ 2048
  room = few_columns shape shape_is_within

  pub problem_formed : IsWellFormed problem
  problem_formed = are_well_formed (length (entries_of shape)) room (problem_formulas c q) (problem_takes c q is can) (Ok problem) made

  pub problem_columns : problem.columns ≡ length (entries_of shape)
  problem_columns = columns_made (length (entries_of shape)) (problem_formulas c q) problem made

  -- the run of a model's values violates the question
  pub model_violates : (value : ℕ → ℤ) (over : ℕ) (truth : ℕ → Bool) → 0 < over → IsModel problem value over truth
      → IsViolation c q (run_of shape value (pos over))
  model_violates value over truth some model =
      violation_made c q shape (problem_formulas c q) value over is can refl refl some
      (models_are_true (length (entries_of shape)) room (problem_formulas c q) (problem_takes c q is can) (Ok problem) made value over truth some model)

  -- where a check proves, no run violates the question
  pub none_violates : (cert : Cert) → verdict problem cert ≡ proved → NoneViolates c q
  unfolding answer_of
  none_violates cert verified = λ r run violates.
      let read = violation_read c q shape (problem_formulas c q) r is can refl refl (record { run = run; violates = violates }) in
      let model = true_have_models (length (entries_of shape)) room (problem_formulas c q) (problem_takes c q is can) (Ok problem) made (value_at shape r)
      (unsigned_abs r.over) read.0 read.1 in
      let says = says_proved problem cert Proved (subst (λ v. IsAnswer Proved (answer_of v)) (sym verified) refl) in
      proved_no_model problem cert Proved problem_formed says refl (value_at shape r) (unsigned_abs r.over) model.0 (omega (arith, read.0)) model.1
