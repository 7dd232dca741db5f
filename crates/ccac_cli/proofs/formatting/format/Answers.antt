use Rattle.std.proofs.Common.{◌≡◌, sym, subst, ap, ◌∙◌, ℕ, List, Err}
use Rattle.ctrl_syntax.specs.declared.syntax.Syntax.{Syntax}
use Rattle.ctrl_types.specs.declared.controllers.Controller.{Controller}
use Rattle.ccac_cli.specs.Formats.{FormatAnswers, controller_put, controller_refused, controller_text, formatted}
use Rattle.file_reports.specs.Reports.{Answer}
use Rattle.asked.specs.Texts.{IsControllerText}
use Rattle.file_reports.specs.declared.sources.Source.TheVariants.{Controller as ControllerFile}
use Rattle.file_reports.proofs.HaltLaws.{refusal_halts}
use Rattle.ccac_cli.proofs.formatting.format.Goals as goal

shows_text : (bytes text : List ℕ) (syntax : Syntax) (c : Controller) (answer : Answer) → IsControllerText bytes syntax c
    → answer ≡ formatted text → text ≡ controller_text syntax → FormatAnswers bytes answer
shows_text bytes text syntax c answer is shows same =
    subst (FormatAnswers bytes) (sym (shows ∙ ap formatted same)) (controller_put syntax c is)

pub returns-in_ok-print-in-Ok : goal.returns-in_ok-print-in-Ok
returns-in_ok-print-in-Ok c =
    shows_text c.args.controller.now _ c.in-Ok.syntax c.in-Ok._controller _ c.in-Ok.ensures.found c.file_report.ensures c.in_ok-print-in-Ok.ensures.exact

pub returns-in-Err : goal.returns-in-Err
returns-in-Err c =
    refusal_halts (FormatAnswers c.args.controller.now) ControllerFile c.in-Err.fault c.halted.result c.halted.ensures
    (λ r is. controller_refused r (c.in-Err.ensures.refused r (ap Err is)))
