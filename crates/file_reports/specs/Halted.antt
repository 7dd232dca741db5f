-- A command that ends before it has an answer of its own: by a report, or for want of memory.
use Rattle.std.specs.Prelude.{◌≡◌, Result, Ok, Err}
use Rattle.whole.specs.declared.answers.ReadFault.{ReadFault}
use Rattle.whole.specs.declared.answers.ReadFault.TheVariants as fault
use Rattle.file_reports.specs.Reports.{Answer, refused}
use Rattle.file_reports.specs.Shown.{shown}
use Rattle.file_reports.specs.declared.reports.Report.{Report as Reported}
use Rattle.file_reports.specs.declared.sources.Source.{Source}
use Rattle.file_reports.specs.declared.early_end.EarlyEnd.{EarlyEnd}
use Rattle.file_reports.specs.declared.early_end.EarlyEnd.TheVariants.{Report, NoMemory}

-- the report that ends it is allowed
abbrev pub HaltsBy : (Answer → Type 0) → EarlyEnd → Type 0
HaltsBy Allowed (Report report) = Allowed (shown report)
HaltsBy Allowed NoMemory = Unit {0}

-- it ends by the refusal of a file, or as its reading did
abbrev pub HaltsAs : Source → ReadFault → EarlyEnd → Type 0
HaltsAs source (fault.Refused refusal) halt = HaltsBy (λ a. a ≡ refused source refusal) halt
HaltsAs source fault.NoMemory halt = halt ≡ NoMemory

-- a report that is allowed, or no memory
abbrev pub Replies : (Answer → Type 0) → Result Reported EarlyEnd → Type 0
Replies Allowed (Ok report) = Allowed (shown report)
Replies Allowed (Err halt) = HaltsBy Allowed halt
