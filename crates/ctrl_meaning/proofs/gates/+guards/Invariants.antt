use Rattle.claims.specs.Subjects.{in_run}
use Rattle.std.proofs.Common.{◌≡◌, drop, map}
use Rattle.weighing.specs.Claim.{both_outcomes, either_outcome, outcome}
use Rattle.ctrl_types.specs.Tests.{conjunction, disjunction, test_of}
use Rattle.ctrl_meaning.specs.Guards.{CanWeigh, test_claim}
use Rattle.ctrl_meaning.proofs.gates.+guards.Given as goal

-- the parts passed so far, and those to come, are all the parts
abbrev pub invariant-all_hold-loop-part : goal.invariant-all_hold-loop-part
invariant-all_hold-loop-part l =
    (both_outcomes l.all (outcome l.at.row (test_claim (in_run l.run) l.at (conjunction (map test_of (drop l.part-index l.part-items)))))
    ≡ outcome l.at.row (test_claim (in_run l.run) l.at (conjunction (map test_of l.part-items))))
    × CanWeigh l.run l.at (conjunction (map test_of (drop l.part-index l.part-items)))

abbrev pub invariant-any_holds-loop-part : goal.invariant-any_holds-loop-part
invariant-any_holds-loop-part l =
    (either_outcome l.any (outcome l.at.row (test_claim (in_run l.run) l.at (disjunction (map test_of (drop l.part-index l.part-items)))))
    ≡ outcome l.at.row (test_claim (in_run l.run) l.at (disjunction (map test_of l.part-items))))
    × CanWeigh l.run l.at (disjunction (map test_of (drop l.part-index l.part-items)))
