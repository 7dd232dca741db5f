use Rattle.std.proofs.Common.{◌∙◌}
use Rattle.verdict.proofs.DecideLaws.{model_found}
use Rattle.verdict.proofs.deciding.answer.Goals as goal

pub run_at-requires-clause-count : goal.run_at-requires-clause-count
run_at-requires-clause-count c = (model_found c.args.problem.now.clauses c.requires.solves.0 c.args.solved c.in-Model.values c.in-Model._truths c.in-Model.spent c.in-Model.is c.requires.solves.1).is_model.count ∙ c.requires.columns

pub run_at-requires-clause-each_in : goal.run_at-requires-clause-each_in
run_at-requires-clause-each_in c = (model_found c.args.problem.now.clauses c.requires.solves.0 c.args.solved c.in-Model.values c.in-Model._truths c.in-Model.spent c.in-Model.is c.requires.solves.1).is_model.each_in

pub run_at-requires-clause-over_from : goal.run_at-requires-clause-over_from
run_at-requires-clause-over_from c = (model_found c.args.problem.now.clauses c.requires.solves.0 c.args.solved c.in-Model.values c.in-Model._truths c.in-Model.spent c.in-Model.is c.requires.solves.1).is_model.over_from
