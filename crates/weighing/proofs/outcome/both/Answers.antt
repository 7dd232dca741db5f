use Rattle.std.proofs.Common.{◌≡◌, Bool, Result, Ok, rules}
use Rattle.whole.specs.declared.answers.Stuck.{Stuck}
use Rattle.weighing.specs.Claim.{both_outcomes}
use Rattle.weighing.proofs.Claims.{both_answer}
use Rattle.weighing.proofs.outcome.both.Goals as goal

pub returns-in_err-first-clause-means : goal.returns-in_err-first-clause-means
returns-in_err-first-clause-means c =
    let answer : Result Bool Stuck = c.from_residual.result in
    let is : answer ≡ both_outcomes c.args.first c.args.second = search rules in
    λ row one two. both_answer row one two c.args.first c.args.second answer is

pub returns-in_err-second-clause-means : goal.returns-in_err-second-clause-means
returns-in_err-second-clause-means c =
    let answer : Result Bool Stuck = c.from_residual-in_err-second.result in
    let is : answer ≡ both_outcomes c.args.first c.args.second = search rules in
    λ row one two. both_answer row one two c.args.first c.args.second answer is

pub returns-then-first-clause-means : goal.returns-then-first-clause-means
returns-then-first-clause-means c =
    let answer : Result Bool Stuck = Ok c.in_ok-second.second in
    let is : answer ≡ both_outcomes c.args.first c.args.second = search rules in
    λ row one two. both_answer row one two c.args.first c.args.second answer is

pub returns-else-first-clause-means : goal.returns-else-first-clause-means
returns-else-first-clause-means c =
    let answer : Result Bool Stuck = Ok c.in_ok-first.first in
    let is : answer ≡ both_outcomes c.args.first c.args.second = search rules in
    λ row one two. both_answer row one two c.args.first c.args.second answer is
