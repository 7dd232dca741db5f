use Rattle.std.proofs.Common.{◌∙◌, ap}
use Rattle.whole.specs.Budget.{Counts}
use Rattle.lra_solve.specs.Solving.{seen_of}
use Rattle.lra_solve.proofs.SolveLaws.{answered_law, may_value, search_starts}
use Rattle.lra_solve.proofs.solving.solve_total.Goals as goal

pub search_guided-found-requires : goal.search_guided-found-requires
search_guided-found-requires c =
    search_starts c.args.clauses.now c.args.budget (seen_of c.in-Ok.theory) _ c.requires.formed c.in-Ok.ensures c.requires.budget_to
    c.new-spent.ensures

pub answered-requires : goal.answered-requires
answered-requires c =
    may_value _ c.args.clauses.now (seen_of c.search_guided-found.new.theory) _ c.search_guided-found.result c.search_guided-found.ensures.found

pub returns : goal.returns
returns c =
    answered_law c.args.clauses.now c.args.budget (seen_of c.in-Ok.theory).state c.in-Ok.ensures.state (seen_of c.search_guided-found.new.theory)
    c.search_guided-found.new.budget c.search_guided-found.result c.answered.result (c.search_guided-found.ensures.rows ∙ c.in-Ok.ensures.rows)
    (c.search_guided-found.ensures.limit ∙ ap (λ (n : Counts). n.limit) c.new-spent.ensures) c.search_guided-found.ensures.found c.answered.ensures
