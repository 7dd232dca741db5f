-- The report on texts that aren't read.
use Rattle.std.specs.Prelude.{◌≡◌}
use Rattle.asked.specs.declared.asking.AskFault.{AskFault}
use Rattle.asked.specs.declared.asking.AskFault.TheVariants as fault
use Rattle.problem_smt.specs.Reports.{Answer, refused}
use Rattle.problem_smt.specs.declared.reports.Source.TheVariants.{Controller, Question}

-- the answer names the text that was refused, and its rule and line
abbrev pub SaysOfFault : AskFault → Answer → Type 0
SaysOfFault (fault.Controller r) a = a ≡ refused Controller r
SaysOfFault (fault.Question r) a = a ≡ refused Question r
SaysOfFault fault.NoMemory a = ⊥
