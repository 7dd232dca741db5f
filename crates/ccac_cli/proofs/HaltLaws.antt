-- Commands that end early.
use Rattle.std.proofs.Common.{◌≡◌, subst, sym, ℕ, List}
use Rattle.asked.specs.Asked.{AskFails}
use Rattle.asked.specs.declared.asking.AskFault.{AskFault}
use Rattle.asked.specs.declared.asking.AskFault.TheVariants as unasked
use Rattle.file_reports.specs.Halted.{HaltsBy}
use Rattle.file_reports.specs.Reports.{refused}
use Rattle.file_reports.specs.declared.sources.Source.TheVariants.{Controller as ControllerFile, Question as QuestionFile}
use Rattle.file_reports.specs.declared.early_end.EarlyEnd.{EarlyEnd}
use Rattle.file_reports.proofs.HaltLaws.{halts_so}
use Rattle.ccac_cli.specs.AskAnswers.{AskRefused, controller_refused, question_refused}
use Rattle.ccac_cli.specs.Halted.{HaltsAsAsked}

-- a controller or a question that was refused ends the command as this refusal does
pub ask_halts : (controller question : List ℕ) (fault : AskFault) (halt : EarlyEnd) → AskFails controller question fault → HaltsAsAsked fault halt
    → HaltsBy (AskRefused controller question) halt
ask_halts controller question (unasked.Controller r) halt is ends =
    halts_so (λ a. a ≡ refused ControllerFile r) (AskRefused controller question) halt
    (λ a same. subst (AskRefused controller question) (sym same) (controller_refused r is)) ends
ask_halts controller question (unasked.Question r) halt is ends =
    halts_so (λ a. a ≡ refused QuestionFile r) (AskRefused controller question) halt
    (λ a same. subst (AskRefused controller question) (sym same) (question_refused is.syntax is.asked r is.controller_is is.refused)) ends
ask_halts controller question unasked.NoMemory halt is ends = subst (HaltsBy (AskRefused controller question)) (sym ends) tt
