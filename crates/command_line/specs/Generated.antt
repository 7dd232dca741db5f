-- What `gen SEED SIZE` reports: the two texts of the seed and the size, judged in memory.
use Rattle.std.specs.Prelude.{◌≤◌, ℕ, List, length}
use Rattle.ccac_ports.specs.Ports.{Told}
use Rattle.file_reports.specs.Reports.{Answer}
use Rattle.ctrl_gen.specs.Problems.{controller_text, question_text}
use Rattle.gen_report.specs.Files.{Holds, check_words}
use Rattle.gen_report.specs.Reports.{Reported, report_of}
use Rattle.gen_report.specs.Words.{Seeded}
use Rattle.command_line.specs.Carried.{CarriesOut}
use Rattle.command_line.specs.Kept.{empty, holding}

abbrev pub answer_of : Reported → Answer
answer_of reported = record { status = reported.status; text = reported.text }

-- a report: `check` was carried out on the two texts, before a sink in memory
pub data Generates (s : Seeded) : Answer → Type 0 where
  judged : (old new : Told) (status : ℕ) (text : List ℕ) (faults : ℕ) → Holds old.content s → status ≤ 5
      → CarriesOut old new check_words empty (holding text faults) status
      → Generates s (answer_of (report_of s (length (controller_text s.seed)) (length (question_text s.seed s.size)) status text))
