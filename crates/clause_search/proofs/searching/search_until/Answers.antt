use Rattle.std.proofs.Common.{true}
use Rattle.whole.specs.Budget.{counts}
use Rattle.clause_search.specs.Answers.{starting_at}
use Rattle.clause_search.proofs.AnswerLaws.{found_until}
use Rattle.clause_search.proofs.searching.search_until.Goals as goal

pub returns-clause-found : goal.returns-clause-found
returns-clause-found g c =
    found_until (starting_at (g.T.Theory.seen c.args.theory.now).state g.T.Theory.relations) c.args.clauses.now true (g.G.Guide.stops c.args.clauses.now c.run.new.guide c.run.new.theory) (g.T.Theory.seen c.run.new.theory) (counts c.run.new.budget) c.run.result c.run.ensures.found
