use Rattle.std.proofs.Common.{◌≡◌, drop, map}
use Rattle.clause_form.specs.Answers.{build_of}
use Rattle.clause_form.specs.Building.{literals}
use Rattle.clause_form.specs.Simplified.{simple_of}
use Rattle.clause_form.proofs.LiteralLaws.{in_front}
use Rattle.clause_form.proofs.building.Builder.+literals.Given as goal

-- the literals so far, and those to come, are all literals
abbrev pub invariant-literals-loop-part : goal.invariant-literals-loop-part
invariant-literals-loop-part l =
    (in_front l.lits.items (literals (map simple_of (drop l.part-index l.part-items)) (build_of l.self)) ≡ literals (map simple_of l.part-items) (build_of l.initial.self))
    × (l.self.columns ≡ l.initial.self.columns)
