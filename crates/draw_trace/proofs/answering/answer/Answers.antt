use Rattle.std.proofs.Common.{◌≡◌, ap, sym, subst, ℕ, List, Result, Ok, Err}
use Rattle.std.specs.Prelude.{IfOk}
use Rattle.whole.specs.declared.answers.NoMemory.{NoMemory}
use Rattle.path_server.specs.declared.settings.Setting.{Setting}
use Rattle.question_syntax.specs.Grammar.{IsText}
use Rattle.question_syntax.specs.Sections.{Sections}
use Rattle.draw_trace.specs.Drawing.{Answers, TraceAnswers, question_read, question_refused}
use Rattle.draw_trace.specs.Shown.{shown}
use Rattle.draw_trace.specs.declared.reports.Report.{Report}
use Rattle.draw_trace.proofs.answering.answer.Goals as goal

of_setting : (question trace : List ℕ) (s : Setting) (result : Result Report NoMemory) → (sections : Sections) × (IsText question sections × (sections.setting ≡ s))
    → IfOk result (λ report. TraceAnswers s trace (shown report)) → IfOk result (λ report. Answers question trace (shown report))
of_setting question trace s (Ok report) (sections, (spelled, is)) answers =
    question_read sections spelled (subst (λ (t : Setting). TraceAnswers t trace (shown report)) (sym is) answers)
of_setting question trace s (Err fault) found answers = tt

pub returns-in-Ok : goal.returns-in-Ok
returns-in-Ok c = of_setting c.args.question.now c.args.trace.now c.in-Ok.setting c.on_setting.result c.in-Ok.ensures.found c.on_setting.ensures

pub returns-in_ok-refused-in-Err-Refused : goal.returns-in_ok-refused-in-Err-Refused
returns-in_ok-refused-in-Err-Refused c =
    let r = c.in-Err-Refused.refusal in
    question_refused r (c.in-Err-Refused.ensures.refused r (ap Err c.in-Err-Refused.field-0-is)) c.in_ok-refused-in-Err-Refused.ensures
