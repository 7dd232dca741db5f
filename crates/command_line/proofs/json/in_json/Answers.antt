use Rattle.command_line.specs.Runs.{ran_out}
use Rattle.report_put.proofs.PutLaws.{nothing_put}
use Rattle.command_line.proofs.PutLaws.{kept_in_json}
use Rattle.command_line.proofs.json.in_json.Goals as goal

pub returns-then-status-gt-LAST_WHOLE : goal.returns-then-status-gt-LAST_WHOLE
returns-then-status-gt-LAST_WHOLE g c = ran_out (nothing_put (g.S.Sink.got c.args.out.now).text)

pub returns : goal.returns
returns g c =
    kept_in_json (g.F.Folder.tells c.args.folder.now) (g.F.Folder.tells c.carry_out-status.new.folder) _ c.new-kept.result c.carry_out-status.new.out
    (g.S.Sink.got c.args.out.now) (g.S.Sink.got c.put_as_json.new.out) _ c.carry_out-status.result _ c.if-status-gt-LAST_WHOLE.false
    c.new-kept.ensures.empty c.new-kept.ensures.faults c.carry_out-status.ensures c.text.ensures c.put_as_json.ensures
