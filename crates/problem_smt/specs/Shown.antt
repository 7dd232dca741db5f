-- What a report of the code shows.
use Rattle.problem_smt.specs.Reports.{Answer}
use Rattle.problem_smt.specs.declared.reports.Report.{Report}

abbrev pub shown : Report → Answer
shown report = record { status = report.status; text = report.text.items }
