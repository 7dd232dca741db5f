-- What the code's values show.
use Rattle.gen_report.specs.Reports.{Reported}
use Rattle.gen_report.specs.Words.{Seeded}
use Rattle.gen_report.specs.declared.reports.Report.{Report}
use Rattle.gen_report.specs.declared.seeds.Seed.{Seed}

abbrev pub seed_seen : Seed → Seeded
seed_seen seed = record { seed = seed.seed; size = seed.size }

abbrev pub shown : Report → Reported
shown report = record { status = report.status; text = report.text.items }
