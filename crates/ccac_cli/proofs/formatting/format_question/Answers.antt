use Rattle.std.proofs.Common.{◌≡◌, ap, ◌∙◌, ℕ, List}
use Rattle.ctrl_types.specs.declared.controllers.Controller.{Controller}
use Rattle.question_text.specs.declared.questions.Question.{Question}
use Rattle.asked.specs.Asked.{AreAsked}
use Rattle.ccac_cli.specs.AskAnswers.{asked}
use Rattle.ccac_cli.specs.Formats.{QuestionFormat, formatted, question_text}
use Rattle.file_reports.specs.Reports.{Answer}
use Rattle.ccac_cli.proofs.formatting.format_question.Goals as goal

shows_text : (controller question text : List ℕ) (c : Controller) (q : Question) (answer : Answer) → AreAsked controller question c q
    → answer ≡ formatted text → text ≡ question_text c q → QuestionFormat controller question answer
shows_text controller question text c q answer are shows same = asked c q are (shows ∙ ap formatted same)

pub returns : goal.returns
returns c =
    shows_text c.args.controller.now c.args.question.now _ c.in-Ok.asked.controller c.in-Ok.asked.question _ c.in-Ok.ensures.found c.file_report.ensures
    c.in_ok-print.ensures.exact
