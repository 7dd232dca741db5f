use Rattle.std.proofs.Common.{arith}
use Rattle.verdict.proofs.JudgeLaws.{as_many_columns, clauses_formed, within_limits}
use Rattle.verdict.proofs.judging.settle.Goals as goal

pub decide-decided-requires-clause-formed : goal.decide-decided-requires-clause-formed
decide-decided-requires-clause-formed c =
    clauses_formed c.args.asked.now.controller c.args.asked.now.question c.args.problem c.requires.controller_in c.requires.question_in c.requires.problem_in

pub decide-decided-requires-clause-within : goal.decide-decided-requires-clause-within
decide-decided-requires-clause-within c =
    within_limits c.args.asked.now.controller c.args.asked.now.question c.args.problem c.requires.controller_in c.requires.question_in c.requires.problem_in

pub decide-decided-requires-clause-columns : goal.decide-decided-requires-clause-columns
decide-decided-requires-clause-columns c =
    as_many_columns c.args.asked.now.controller c.args.asked.now.question c.args.problem c.requires.controller_in c.requires.question_in c.requires.problem_in

pub decide-decided-requires-clause-budget_to : goal.decide-decided-requires-clause-budget_to
decide-decided-requires-clause-budget_to c = let most = c.requires.question_in.setting_in.budget_to in omega arith

pub returns-in-Verdict : goal.returns-in-Verdict
returns-in-Verdict c = (c.args.problem, c.requires.problem_in, c.in-Verdict.ensures)
