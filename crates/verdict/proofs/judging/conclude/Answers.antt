use Rattle.std.proofs.Common.{length}
use Rattle.verdict.proofs.JudgeLaws.{large_law}
use Rattle.verdict.proofs.ProblemLaws.{can_unroll}
use Rattle.verdict.proofs.judging.conclude.Goals as goal

pub unroll-requires-clause-question_in : goal.unroll-requires-clause-question_in
unroll-requires-clause-question_in c = can_unroll (length c.args.asked.now.controller.states) c.args.asked.now.question c.requires.question_in

pub settle-requires-clause-problem_in : goal.settle-requires-clause-problem_in
settle-requires-clause-problem_in c = record { made = c.in-Ok.ensures.exact; shape_is = c.in-Ok.ensures.shape }

pub returns-in-Err : goal.returns-in-Err
returns-in-Err c =
    large_law c.args.asked.now.controller c.args.asked.now.question c.in-Err.fault c.of_building.result c.of_building.ensures c.in-Err.ensures.exact
