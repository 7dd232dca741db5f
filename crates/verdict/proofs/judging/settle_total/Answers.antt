use Rattle.std.proofs.Common.{arith}
use Rattle.verdict.proofs.DecideLaws.{total_decides}
use Rattle.verdict.proofs.JudgeLaws.{as_many_columns, clauses_formed, overflow_says, within_limits}
use Rattle.verdict.proofs.judging.settle_total.Goals as goal

pub decide_total-decided-requires-clause-formed : goal.decide_total-decided-requires-clause-formed
decide_total-decided-requires-clause-formed c =
    clauses_formed c.args.asked.now.controller c.args.asked.now.question c.args.problem.now c.requires.controller_in c.requires.question_in c.requires.problem_in

pub decide_total-decided-requires-clause-within : goal.decide_total-decided-requires-clause-within
decide_total-decided-requires-clause-within c =
    within_limits c.args.asked.now.controller c.args.asked.now.question c.args.problem.now c.requires.controller_in c.requires.question_in c.requires.problem_in

pub decide_total-decided-requires-clause-columns : goal.decide_total-decided-requires-clause-columns
decide_total-decided-requires-clause-columns c =
    as_many_columns c.args.asked.now.controller c.args.asked.now.question c.args.problem.now c.requires.controller_in c.requires.question_in c.requires.problem_in

pub decide_total-decided-requires-clause-budget_to : goal.decide_total-decided-requires-clause-budget_to
decide_total-decided-requires-clause-budget_to c = let most = c.requires.question_in.setting_in.budget_to in omega arith

pub confirmed-requires-clause-decides : goal.confirmed-requires-clause-decides
confirmed-requires-clause-decides c =
    total_decides c.args.problem.now c.args.asked.now.question.setting.budget c.decide_total-decided.result c.decide_total-decided.ensures

pub returns-in-Verdict : goal.returns-in-Verdict
returns-in-Verdict c = (c.args.problem.now, c.requires.problem_in, c.in-Verdict.ensures)

pub returns-in-Overflow : goal.returns-in-Overflow
returns-in-Overflow c = (
  c.args.problem.now,
  c.requires.problem_in,
  overflow_says c.args.asked.now.controller c.args.asked.now.question c.args.problem.now c.requires.controller_in c.requires.question_in c.requires.problem_in
      c.decide_total-decided.result c.in-Overflow.stuck c.in-Overflow.spent c.decide_total-decided.ensures c.in-Overflow.ensures,
)
