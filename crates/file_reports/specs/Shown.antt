-- What values of the code show.
use Rattle.std.specs.Prelude.{ℕ, List, map}
use Rattle.std.specs.Global.{Vec}
use Rattle.file_reports.specs.Reports.{Answer}
use Rattle.file_reports.specs.declared.reports.Report.{Report}

abbrev pub shown : Report → Answer
shown report = record { status = report.status; text = report.text.items }

-- the bytes of the texts
abbrev pub texts_of : List (Vec ℕ) → List (List ℕ)
texts_of texts = map (λ text. text.items) texts
