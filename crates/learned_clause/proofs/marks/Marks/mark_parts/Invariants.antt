use Rattle.std.proofs.Common.{map, take}
use Rattle.learned_clause.specs.LightTrees.{AreWithin}
use Rattle.learned_clause.specs.Resolvents.{AreMarked}
use Rattle.learned_clause.proofs.marks.Marks.mark_parts.Given as goal

abbrev pub invariant-loop-part : goal.invariant-loop-part
invariant-loop-part l = AreMarked l.initial.self (take l.part-index (map (λ p. p.lit) l.parts)) l.self × AreWithin (take l.part-index l.parts)
