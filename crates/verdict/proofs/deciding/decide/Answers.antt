use Rattle.lra_solve.specs.Solving.{IsFound}
use Rattle.verdict.proofs.DecideLaws.{answer_law}
use Rattle.verdict.proofs.deciding.decide.Goals as goal

pub answer-requires-clause-solves : goal.answer-requires-clause-solves
answer-requires-clause-solves c = (c.args.budget, c.solve.ensures)

pub returns : goal.returns
returns c =
    answer_law c.args.problem.now c.args.budget (IsFound c.args.problem.now.clauses c.args.budget) c.solve.result c.answer.result c.requires.formed
    c.solve.ensures c.answer.ensures
