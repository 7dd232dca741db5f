use Rattle.file_reports.specs.Ended.{no_memory}
use Rattle.gen_report.specs.Shown.{seed_seen, shown}
use Rattle.report_put.proofs.PutLaws.{nothing_put}
use Rattle.command_line.specs.Generated.{Generates, answer_of}
use Rattle.command_line.proofs.PutLaws.{ends_put_as}
use Rattle.command_line.proofs.generating.generate.Goals as goal

pub returns-in-Ok : goal.returns-in-Ok
returns-in-Ok g c =
    ends_put_as (Generates (seed_seen c.args.seed)) (answer_of (shown c.in-Ok.report)) _ (g.S.Sink.got c.args.out.now) (g.S.Sink.got c.put.new.out) _
    c.in-Ok.ensures c.as_slice.ensures.value c.put.ensures

pub returns-in-Err : goal.returns-in-Err
returns-in-Err g c = no_memory (nothing_put (g.S.Sink.got c.args.out.now).text)
