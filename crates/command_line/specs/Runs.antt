-- How a command line ends.
use Rattle.std.specs.Prelude.{◌≡◌, ℕ, ◌≤◌, true, false, List, [], Option, None, Some}
use Rattle.ccac_ports.specs.Ports.{Appends, Got, Told}
use Rattle.file_reports.specs.Ended.{Ends}
use Rattle.command_words.specs.Forms.{RequestView}
use Rattle.command_table.specs.Plain.{plain_of, wants_json}
use Rattle.report_put.specs.Json.{text_as_json}
use Rattle.report_put.specs.Put.{IsPut}
use Rattle.gen_report.specs.Words.{Seeded, seeded_by}
use Rattle.command_line.specs.Carried.{CarriesOut}
use Rattle.command_line.specs.Generated.{Generates}
use Rattle.command_line.specs.Kept.{empty, holding}

-- ---- words without options

-- a problem is generated where the words name one, and else the words are a command on files or no command
abbrev pub CarriesBy : Option Seeded → Told → Told → List (List ℕ) → Got → Got → ℕ → Type 0
CarriesBy None old new words before after status = CarriesOut old new words before after status
CarriesBy (Some seeded) old new words before after status = Ends (Generates seeded) before after status

abbrev pub Carries : Told → Told → List (List ℕ) → Got → Got → ℕ → Type 0
Carries old new words before after status = CarriesBy (seeded_by words) old new words before after status

-- ---- reports as JSON

-- the words were carried out before a sink in memory, and what it got was put as JSON; or memory ran out
pub data InJson (old new : Told) (words : List (List ℕ)) (before after : Got) : ℕ → Type 0 where
  put : (text : List ℕ) (faults told status : ℕ) → told ≤ 5 → Carries old new words empty (holding text faults) told
      → IsPut told (text_as_json told text) before after status → InJson old new words before after status
  ran_out : Appends before.text after.text [] → InJson old new words before after 7

-- ---- command lines

-- what is asked for is carried out, with its report as it is or as JSON; or memory ran out before
pub data Runs (old new : Told) (asked : Option RequestView) (before after : Got) : ℕ → Type 0 where
  as_it_is : (status : ℕ) → wants_json asked ≡ false → Carries old new (plain_of asked) before after status → Runs old new asked before after status
  in_json : (status : ℕ) → wants_json asked ≡ true → InJson old new (plain_of asked) before after status → Runs old new asked before after status
  no_memory : Appends before.text after.text [] → Runs old new asked before after 7
