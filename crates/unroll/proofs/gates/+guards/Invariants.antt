use Rattle.std.proofs.Common.{◌≡◌, ◌++◌, drop, map}
use Rattle.ctrl_types.specs.Tests.{conjunction, disjunction, test_of}
use Rattle.unroll.specs.ClaimFormulas.{trees}
use Rattle.unroll.specs.FlowFormulas.{gate_tree}
use Rattle.unroll.specs.FlowLimits.{CanTest}
use Rattle.unroll.proofs.gates.+guards.Given as goal

-- the formulas so far, and those of the parts to come, are those of all
abbrev pub invariant-all_hold-loop-part : goal.invariant-all_hold-loop-part
invariant-all_hold-loop-part l =
    (trees l.formulas.items ++ map (gate_tree l.shape l.at) (drop l.part-index l.part-items) ≡ map (gate_tree l.shape l.at) l.part-items)
    × CanTest l.shape l.at (conjunction (map test_of (drop l.part-index l.part-items)))

-- the formulas so far, and those of the parts to come, are those of all
abbrev pub invariant-any_holds-loop-part : goal.invariant-any_holds-loop-part
invariant-any_holds-loop-part l =
    (trees l.formulas.items ++ map (gate_tree l.shape l.at) (drop l.part-index l.part-items) ≡ map (gate_tree l.shape l.at) l.part-items)
    × CanTest l.shape l.at (disjunction (map test_of (drop l.part-index l.part-items)))
