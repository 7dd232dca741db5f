use Rattle.run_rows.specs.Runs.{flow_count}
use Rattle.claims.specs.Subjects.{in_run}
use Rattle.std.proofs.Common.{◌≡◌, drop, map}
use Rattle.weighing.specs.Claim.{both_outcomes, either_outcome, outcome}
use Rattle.question_text.specs.Conditions.{condition_of, conjunction, disjunction}
use Rattle.question_text.specs.Expressions.{CanWeigh, condition_claim}
use Rattle.question_text.proofs.truth.+conditions.Given as goal

-- the parts passed so far, and those to come, are all the parts
abbrev pub invariant-all_hold-loop-part : goal.invariant-all_hold-loop-part
invariant-all_hold-loop-part l =
    (both_outcomes l.all (outcome l.at.last (condition_claim (in_run l.run) (flow_count l.run 0) l.at (conjunction (map condition_of (drop l.part-index l.part-items)))))
    ≡ outcome l.at.last (condition_claim (in_run l.run) (flow_count l.run 0) l.at (conjunction (map condition_of l.part-items))))
    × CanWeigh l.run l.at (conjunction (map condition_of (drop l.part-index l.part-items)))

abbrev pub invariant-any_holds-loop-part : goal.invariant-any_holds-loop-part
invariant-any_holds-loop-part l =
    (either_outcome l.any (outcome l.at.last (condition_claim (in_run l.run) (flow_count l.run 0) l.at (disjunction (map condition_of (drop l.part-index l.part-items)))))
    ≡ outcome l.at.last (condition_claim (in_run l.run) (flow_count l.run 0) l.at (disjunction (map condition_of l.part-items))))
    × CanWeigh l.run l.at (disjunction (map condition_of (drop l.part-index l.part-items)))
