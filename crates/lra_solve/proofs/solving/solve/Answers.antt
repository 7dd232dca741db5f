use Rattle.std.proofs.Common.{◌∙◌, ap}
use Rattle.whole.specs.Budget.{Counts}
use Rattle.lra_solve.specs.Solving.{seen_of}
use Rattle.lra_solve.proofs.SolveLaws.{answered_law, holds_some, may_value, search_starts, stopped_solves, total_solves}
use Rattle.lra_solve.proofs.solving.solve.Goals as goal

pub search_until-requires : goal.search_until-requires
search_until-requires c =
    search_starts c.args.clauses.now c.args.budget (seen_of c.in-Ok.theory) _ c.requires.formed c.in-Ok.ensures c.requires.budget_to
    c.new-budget.ensures

pub stopped-requires : goal.stopped-requires
stopped-requires c = holds_some c.search_until.new.guide _ c.in-Stopped.ensures.found.1

pub returns-in-Stopped : goal.returns-in-Stopped
returns-in-Stopped c =
    stopped_solves c.args.clauses.now c.args.budget (seen_of c.search_until.new.theory) c.search_until.new.guide
    (record { budget = c.search_until.new.budget; journal = c.in-Stopped.journal }) c.stopped.result
    (seen_of c.in-Ok.theory).state c.in-Ok.ensures.state
    (c.in-Stopped.ensures.rows ∙ c.in-Ok.ensures.rows)
    (c.in-Stopped.ensures.limit ∙ ap (λ (n : Counts). n.limit) c.new-budget.ensures) c.in-Stopped.ensures.found.0 c.in-Stopped.ensures.found.1 c.stopped.ensures

pub answered-requires : goal.answered-requires
answered-requires c = may_value _ c.args.clauses.now (seen_of c.search_until.new.theory) _ c.in-Found.found c.in-Found.ensures.found

pub returns : goal.returns
returns c =
    total_solves c.args.clauses.now c.args.budget c.answered.result
    (answered_law c.args.clauses.now c.args.budget (seen_of c.in-Ok.theory).state c.in-Ok.ensures.state (seen_of c.search_until.new.theory)
    c.search_until.new.budget c.in-Found.found c.answered.result
    (c.in-Found.ensures.rows ∙ c.in-Ok.ensures.rows)
    (c.in-Found.ensures.limit ∙ ap (λ (n : Counts). n.limit) c.new-budget.ensures) c.in-Found.ensures.found c.answered.ensures)
