-- The commands on files: the entry of each, and what is answered to the bytes of its files. And what words order by this table.
use Rattle.std.specs.Prelude.{◌&&◌, ℕ, ◌≤◌, Bool, List, [], ◌∷◌, Option, None, codes, find, length, nat_le, option_map}
use Rattle.std.specs.Str.{bytes_eq}
use Rattle.file_reports.specs.Had.{ByTexts, of_one_or_two, of_three, of_two}
use Rattle.file_reports.specs.declared.sources.Source.{Source}
use Rattle.file_reports.specs.declared.sources.Source.TheVariants.{Controller, Question, Trace, Cert}
use Rattle.ccac_cli.specs.Admitting.{AdmitAnswers}
use Rattle.ccac_cli.specs.Audits.{AuditAnswers}
use Rattle.ccac_cli.specs.Checks.{CheckAnswers, CheckRefusals}
use Rattle.ccac_cli.specs.Formats.{FormatAnswers, QuestionFormat}
use Rattle.ccac_cli.specs.Replays.{ReplayAnswers}
use Rattle.ccac_cli.specs.declared.commands.Command.{Command}
use Rattle.ccac_cli.specs.declared.commands.Command.TheVariants.{Admit, Audit, Check, Format, Replay}

-- a command's word, its files in the order in which they are named and fetched, and how many of them have to be named
pub record EntryView : Type 0 where
  pub word : List ℕ
  pub files : List Source
  pub least : ℕ

abbrev pub entry_of : Command → EntryView
entry_of Check = record { word = codes "check"; files = Controller ∷ Question ∷ []; least = 2 }
entry_of Audit = record { word = codes "audit"; files = Controller ∷ Question ∷ Cert ∷ []; least = 3 }
entry_of Replay = record { word = codes "replay"; files = Controller ∷ Question ∷ Trace ∷ []; least = 3 }
entry_of Admit = record { word = codes "admit"; files = Question ∷ Trace ∷ []; least = 2 }
entry_of Format = record { word = codes "fmt"; files = Controller ∷ Question ∷ []; least = 1 }

-- what is answered to the bytes of its files
abbrev pub answers_of : Command → ByTexts
answers_of Check = of_two CheckAnswers
answers_of Audit = of_three AuditAnswers
answers_of Replay = of_three ReplayAnswers
answers_of Admit = of_two AdmitAnswers
answers_of Format = of_one_or_two FormatAnswers QuestionFormat

-- those answers of which the bytes have one: of `check`, whose verdicts can differ in the run or the certificate, it is the refusal of a
-- file or of the problem's size
abbrev pub one_answer_of : Command → ByTexts
one_answer_of Check = of_two CheckRefusals
one_answer_of Audit = of_three AuditAnswers
one_answer_of Replay = of_three ReplayAnswers
one_answer_of Admit = of_two AdmitAnswers
one_answer_of Format = of_one_or_two FormatAnswers QuestionFormat

abbrev pub commands : List Command
commands = Check ∷ Audit ∷ Replay ∷ Admit ∷ Format ∷ []

-- ---- words

-- a command with the names of its files
pub record Order : Type 0 where
  pub command : Command
  pub names : List (List ℕ)

-- the command takes so many names
abbrev pub Takes : Command → ℕ → Type 0
Takes command count = ((entry_of command).least ≤ count) × (count ≤ length (entry_of command).files)

-- a word with so many names calls the command
abbrev pub is_called : List ℕ → ℕ → Command → Bool
is_called word count command =
    bytes_eq (entry_of command).word word && (nat_le (entry_of command).least count && nat_le count (length (entry_of command).files))

-- the order that the words are, if they are one
abbrev pub order_of : List (List ℕ) → Option Order
order_of [] = None
order_of (word ∷ names) = option_map (λ command. record { command = command; names = names }) (find (is_called word (length names)) commands)

-- the order to check a controller and a question by their names
abbrev pub check : List ℕ → List ℕ → Order
check c q = record { command = Check; names = c ∷ q ∷ [] }
