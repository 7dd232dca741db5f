-- A command that ends before it has an answer of its own.
use Rattle.std.specs.Prelude.{◌≡◌}
use Rattle.asked.specs.declared.asking.AskFault.{AskFault}
use Rattle.asked.specs.declared.asking.AskFault.TheVariants as unasked
use Rattle.file_reports.specs.Halted.{HaltsBy}
use Rattle.file_reports.specs.Reports.{refused}
use Rattle.file_reports.specs.declared.sources.Source.TheVariants.{Controller as ControllerFile, Question as QuestionFile}
use Rattle.file_reports.specs.declared.early_end.EarlyEnd.{EarlyEnd}
use Rattle.file_reports.specs.declared.early_end.EarlyEnd.TheVariants.{NoMemory}

-- it ends by the refusal of the controller or of the question, or as their reading did
abbrev pub HaltsAsAsked : AskFault → EarlyEnd → Type 0
HaltsAsAsked (unasked.Controller refusal) halt = HaltsBy (λ a. a ≡ refused ControllerFile refusal) halt
HaltsAsAsked (unasked.Question refusal) halt = HaltsBy (λ a. a ≡ refused QuestionFile refusal) halt
HaltsAsAsked unasked.NoMemory halt = halt ≡ NoMemory
