-- What a report of the code shows.
use Rattle.draw_trace.specs.Reports.{Answer}
use Rattle.draw_trace.specs.declared.reports.Report.{Report}

abbrev pub shown : Report → Answer
shown report = record { status = report.status; text = report.text.items }
