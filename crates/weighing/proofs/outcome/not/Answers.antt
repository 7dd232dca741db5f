use Rattle.std.proofs.Common.{◌≡◌, Bool, not, Result, Ok, rules}
use Rattle.whole.specs.declared.answers.Stuck.{Stuck}
use Rattle.weighing.specs.Claim.{not_outcome}
use Rattle.weighing.proofs.Claims.{opposite_answers}
use Rattle.weighing.proofs.outcome.not.Goals as goal

pub returns-in_err-inner-clause-means : goal.returns-in_err-inner-clause-means
returns-in_err-inner-clause-means c =
    let answer : Result Bool Stuck = c.from_residual.result in
    let is : answer ≡ not_outcome c.args.inner = search rules in
    λ row claim. opposite_answers row claim c.args.inner answer is

pub returns-clause-means : goal.returns-clause-means
returns-clause-means c =
    let answer : Result Bool Stuck = Ok (not c.in_ok-inner.inner) in
    let is : answer ≡ not_outcome c.args.inner = search rules in
    λ row claim. opposite_answers row claim c.args.inner answer is
