use Rattle.std.proofs.Common.{inl, subst}
use Rattle.verdict.specs.Deciding.{Decides}
use Rattle.verdict.specs.declared.deciding.Decided.{Decided}
use Rattle.verdict.proofs.JudgeLaws.{found_violates, replayed_settles, verified_law}
use Rattle.verdict.proofs.judging.confirmed.Goals as goal

pub replayed-requires-clause-violation : goal.replayed-requires-clause-violation
replayed-requires-clause-violation c =
    found_violates c.args.asked.now.controller c.args.asked.now.question c.args.problem.now c.requires.controller_in c.requires.question_in c.requires.problem_in
    c.in-Model.run' c.in-Model.spent (subst (λ (a : Decided). Decides c.args.problem.now c.args.asked.now.question.setting.budget a) c.in-Model.is c.requires.decides)

pub replayed-requires-clause-bounded : goal.replayed-requires-clause-bounded
replayed-requires-clause-bounded c =
    (subst (λ (a : Decided). Decides c.args.problem.now c.args.asked.now.question.setting.budget a) c.in-Model.is c.requires.decides).run_at.fits.bounded

pub returns-in-Model : goal.returns-in-Model
returns-in-Model c =
    replayed_settles c.args.asked.now.controller c.args.asked.now.question c.args.problem.now c.requires.controller_in c.requires.question_in c.requires.problem_in
    c.in-Model.run' c.in-Model.spent c.args.decided c.replayed.result c.in-Model.is
    (subst (λ (a : Decided). Decides c.args.problem.now c.args.asked.now.question.setting.budget a) c.in-Model.is c.requires.decides) c.replayed.ensures

pub returns-in-Closed : goal.returns-in-Closed
returns-in-Closed c =
    verified_law c.args.asked.now.controller c.args.asked.now.question c.args.problem.now c.requires.controller_in c.requires.question_in c.requires.problem_in
    c.in-Closed.cert (subst (λ (a : Decided). Decides c.args.problem.now c.args.asked.now.question.setting.budget a) c.in-Closed.is c.requires.decides)

pub returns-in-Spent : goal.returns-in-Spent
returns-in-Spent c = subst (λ (a : Decided). Decides c.args.problem.now c.args.asked.now.question.setting.budget a) c.in-Spent.is c.requires.decides

pub returns-in-Stuck : goal.returns-in-Stuck
returns-in-Stuck c =
    inl (subst (λ (a : Decided). Decides c.args.problem.now c.args.asked.now.question.setting.budget a) c.in-Stuck.is c.requires.decides)
