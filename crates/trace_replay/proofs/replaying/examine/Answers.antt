use Rattle.std.proofs.Common.{◌≡◌, ◌∙◌, ap, sym, subst, ℕ, Bool, true, Decides, Result, length}
use Rattle.std.proofs.lemmas.Bool.Decides.{same_from_decides}
use Rattle.weighing.specs.First.{first}
use Rattle.run_rows.specs.Fitting.{has_shape}
use Rattle.run_rows.specs.Runs.{Fits}
use Rattle.run_rows.specs.declared.rows.Run.{Run}
use Rattle.run_rows.specs.declared.shapes.Shape.{Shape}
use Rattle.run_rows.proofs.Shaped.{has_shape_decides}
use Rattle.path_server.specs.Shapes.{shape_of}
use Rattle.ctrl_types.specs.declared.controllers.Controller.{Controller}
use Rattle.question_text.specs.declared.questions.Question.{Question}
use Rattle.question_text.specs.Violation.{violation}
use Rattle.trace_replay.specs.Replaying.{answer, found, places_of_rows, replaying}
use Rattle.trace_replay.specs.declared.replaying.Replayed.{Replayed}
use Rattle.trace_replay.proofs.ReplayOrder.{shaped, unshaped}
use Rattle.trace_replay.proofs.replaying.examine.Goals as goal

-- the code's test of the shape is the test of the definitions
tested : (c : Controller) (q : Question) (r : Run) (shape : Shape) (states : ℕ) (b : Bool) → shape ≡ shape_of q.setting states c.delay_max
    → states ≡ length c.states → Decides b (Fits shape r) → has_shape (shape_of q.setting (length c.states) c.delay_max) r ≡ b
tested c q r shape states b made counted decides =
    let same : shape ≡ shape_of q.setting (length c.states) c.delay_max = made ∙ ap (λ n. shape_of q.setting n c.delay_max) counted in
    same_from_decides (has_shape (shape_of q.setting (length c.states) c.delay_max) r) b
    (has_shape_decides (shape_of q.setting (length c.states) c.delay_max) r) (subst (λ s. Decides b (Fits s r)) same decides)

-- what was found on the rows, as the answer of the replay
comes_to : (c : Controller) (q : Question) (r : Run) (t u : Result (Unit {0}) Replayed)
    → has_shape (shape_of q.setting (length c.states) c.delay_max) r ≡ true → t ≡ first (found c q r) (places_of_rows c q r) → t ≡ u
    → answer u (violation q r) ≡ replaying c q r
comes_to c q r t u has found_is is =
    sym (shaped c q r has ∙ ap (λ v. answer v (violation q r)) (sym found_is ∙ is))

pub returns-then-not-fits : goal.returns-then-not-fits
returns-then-not-fits c =
    let is = tested c.args.controller.now c.args.question.now c.args.run.now c.shape-shape.result c.len-states.result c.fits.result
    c.shape-shape.ensures c.len-states.ensures c.fits.ensures in
    sym (unshaped c.args.controller.now c.args.question.now c.args.run.now (is ∙ c.if-not-fits.true))

pub returns-in-Ok : goal.returns-in-Ok
returns-in-Ok c =
    let is = tested c.args.controller.now c.args.question.now c.args.run.now c.shape-shape.result c.len-states.result c.fits.result
    c.shape-shape.ensures c.len-states.ensures c.fits.ensures in
    c.answer_question.ensures
    ∙ comes_to c.args.controller.now c.args.question.now c.args.run.now _ _ (is ∙ c.if-not-fits.false) c.examine_rows.ensures c.in-Ok.is

pub returns-in-Err : goal.returns-in-Err
returns-in-Err c =
    let is = tested c.args.controller.now c.args.question.now c.args.run.now c.shape-shape.result c.len-states.result c.fits.result
    c.shape-shape.ensures c.len-states.ensures c.fits.ensures in
    comes_to c.args.controller.now c.args.question.now c.args.run.now _ _ (is ∙ c.if-not-fits.false) c.examine_rows.ensures c.in-Err.is
