use Rattle.run_rows.specs.Runs.{flow_count}
use Rattle.claims.specs.Subjects.{in_run}
use Rattle.std.proofs.Common.{◌≡◌, drop, map}
use Rattle.weighing.specs.Claim.{both_outcomes, outcome}
use Rattle.question_text.specs.Conditions.{condition_of, conjunction}
use Rattle.question_text.specs.Expressions.{CanWeigh, condition_claim}
use Rattle.question_text.proofs.violation.all_assumed.Given as goal

-- the assumptions passed so far, and those to come, are all of them
abbrev pub invariant-loop-assumption : goal.invariant-loop-assumption
invariant-loop-assumption l =
    (both_outcomes l.all (outcome l.at.last (condition_claim (in_run l.run) (flow_count l.run 0) l.at (conjunction (map condition_of (drop l.assumption-index l.assumption-items)))))
    ≡ outcome l.at.last (condition_claim (in_run l.run) (flow_count l.run 0) l.at (conjunction (map condition_of l.assumption-items))))
    × CanWeigh l.run l.at (conjunction (map condition_of (drop l.assumption-index l.assumption-items)))
