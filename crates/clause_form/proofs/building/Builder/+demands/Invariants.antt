use Rattle.std.proofs.Common.{◌≡◌, drop, map}
use Rattle.clause_form.specs.Answers.{build_of}
use Rattle.clause_form.specs.Building.{demanded_each}
use Rattle.clause_form.specs.Simplified.{simple_of}
use Rattle.clause_form.proofs.building.Builder.+demands.Given as goal

-- what was demanded so far, and what is to come, is what all parts give
abbrev pub invariant-demand_each-loop-part : goal.invariant-demand_each-loop-part
invariant-demand_each-loop-part l =
    (demanded_each l.sign (map simple_of (drop l.part-index l.part-items)) (build_of l.self) ≡ demanded_each l.sign (map simple_of l.part-items) (build_of l.initial.self))
    × (l.self.columns ≡ l.initial.self.columns)
