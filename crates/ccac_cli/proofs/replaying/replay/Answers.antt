use Rattle.ccac_cli.specs.AskAnswers.{asked}
use Rattle.ccac_cli.specs.Replays.{ReplayAnswers, RunAnswers}
use Rattle.file_reports.proofs.HaltLaws.{replies_so}
use Rattle.ccac_cli.proofs.replaying.replay.Goals as goal

pub returns : goal.returns
returns c =
    replies_so (RunAnswers c.args.trace.now c.in-Ok.asked.controller c.in-Ok.asked.question)
    (ReplayAnswers c.args.controller.now c.args.question.now c.args.trace.now) c.replay_trace.result
    (λ answer answers. asked c.in-Ok.asked.controller c.in-Ok.asked.question c.in-Ok.ensures.found answers) c.replay_trace.ensures
