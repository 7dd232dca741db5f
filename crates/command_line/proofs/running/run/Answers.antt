use Rattle.std.proofs.Common.{ap, map}
use Rattle.std.specs.Prelude.{string_bytes}
use Rattle.report_put.proofs.PutLaws.{nothing_put}
use Rattle.command_line.specs.Runs.{no_memory}
use Rattle.command_line.proofs.RunLaws.{runs_as_it_is, runs_in_json}
use Rattle.command_line.proofs.running.run.Goals as goal

pub returns-then-plain : goal.returns-then-plain
returns-then-plain g c =
    runs_in_json (g.F.Folder.tells c.args.folder.now) (g.F.Folder.tells c.in_json.new.folder) c.in-Ok.plain _ _ (g.S.Sink.got c.args.out.now)
    (g.S.Sink.got c.in_json.new.out) c.in_json.result (ap (map string_bytes) c.as_slice.ensures.value)
    (record { words = c.in-Ok.ensures.words; json = c.in-Ok.ensures.json }) c.if-plain.true c.in_json.ensures

pub returns-in-Ok : goal.returns-in-Ok
returns-in-Ok g c =
    runs_as_it_is (g.F.Folder.tells c.args.folder.now) (g.F.Folder.tells c.carry_out.new.folder) c.in-Ok.plain _ _ (g.S.Sink.got c.args.out.now)
    (g.S.Sink.got c.carry_out.new.out) c.carry_out.result (ap (map string_bytes) c.as_slice.ensures.value)
    (record { words = c.in-Ok.ensures.words; json = c.in-Ok.ensures.json }) c.if-plain.false c.carry_out.ensures

pub returns : goal.returns
returns g c = no_memory (nothing_put (g.S.Sink.got c.args.out.now).text)
