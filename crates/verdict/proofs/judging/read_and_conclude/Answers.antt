use Rattle.verdict.proofs.JudgeLaws.{asking_law, concluded_law}
use Rattle.verdict.proofs.judging.read_and_conclude.Goals as goal

pub returns-in-Ok : goal.returns-in-Ok
returns-in-Ok c =
    concluded_law c.args.controller.now c.args.question.now c.in-Ok.asked.controller c.in-Ok.asked.question c.in-Ok.ensures.found
    c.conclude.result c.conclude.ensures

pub returns-in-Err : goal.returns-in-Err
returns-in-Err c =
    asking_law c.args.controller.now c.args.question.now c.in-Err.fault c.of_asking.result c.of_asking.ensures c.in-Err.ensures.refused
