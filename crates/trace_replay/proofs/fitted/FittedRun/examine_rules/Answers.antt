use Rattle.std.proofs.Common.{◌≡◌, ◌∙◌, ap, sym, ℕ, Err, Result, map}
use Rattle.weighing.specs.First.{first}
use Rattle.run_rows.specs.declared.rows.Run.{Run}
use Rattle.path_server.specs.Places.{examined, places_of_row as rules_of_row}
use Rattle.path_server.specs.declared.admission.Admit.{Admit}
use Rattle.ctrl_types.specs.declared.controllers.Controller.{Controller}
use Rattle.question_text.specs.declared.questions.Question.{Question}
use Rattle.trace_replay.specs.Replaying.{found, obeys}
use Rattle.trace_replay.proofs.ReplayOrder.{of_rules, rules_found}
use Rattle.trace_replay.proofs.fitted.FittedRun.examine_rules.Goals as goal

-- what is found under the rules, as an answer of the replay
comes_to : (c : Controller) (q : Question) (r : Run) (i : ℕ) (t u : Result (Unit {0}) Admit)
    → t ≡ first (examined q.setting.path r) (rules_of_row r i) → t ≡ u → of_rules u ≡ first (found c q r) (map obeys (rules_of_row r i))
comes_to c q r i t u found_is is = sym (rules_found c q r (rules_of_row r i) ∙ ap of_rules (sym found_is ∙ is))

pub returns-in-Ok : goal.returns-in-Ok
returns-in-Ok c = comes_to c.args.self.controller.now c.args.self.question.now c.args.self.run.now c.args.row _ _ c.examine_row.ensures.exact c.in-Ok.is

pub returns-in-Err-Broken : goal.returns-in-Err-Broken
returns-in-Err-Broken c =
    ap Err c.broken.ensures
    ∙ comes_to c.args.self.controller.now c.args.self.question.now c.args.self.run.now c.args.row _ _ c.examine_row.ensures.exact
    (c.in-Err-Broken.is ∙ ap Err c.in-Err-Broken.field-0-is)

pub returns-in-Err-Wide : goal.returns-in-Err-Wide
returns-in-Err-Wide c =
    comes_to c.args.self.controller.now c.args.self.question.now c.args.self.run.now c.args.row _ _ c.examine_row.ensures.exact
    (c.in-Err-Wide.is ∙ ap Err c.in-Err-Wide.field-0-is)
