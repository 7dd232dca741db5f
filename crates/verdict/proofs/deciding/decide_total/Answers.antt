use Rattle.lra_solve.specs.Solving.{IsFoundTotal}
use Rattle.lra_solve.proofs.SolveLaws.{total_solves}
use Rattle.verdict.proofs.DecideLaws.{answer_law}
use Rattle.verdict.proofs.deciding.decide_total.Goals as goal

pub answer-requires-clause-solves : goal.answer-requires-clause-solves
answer-requires-clause-solves c = (c.args.budget, total_solves c.args.problem.now.clauses c.args.budget c.solve_total.result c.solve_total.ensures)

pub returns : goal.returns
returns c =
    answer_law c.args.problem.now c.args.budget (IsFoundTotal c.args.problem.now.clauses c.args.budget) c.solve_total.result c.answer.result c.requires.formed
    c.solve_total.ensures c.answer.ensures
