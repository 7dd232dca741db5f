use Rattle.std.proofs.Common.{◌≡◌, ◌++◌, map, take}
use Rattle.whole.specs.Budget.{counts}
use Rattle.farkas_cert.specs.declared.journals.Move.TheVariants.{Pivot}
use Rattle.simplex.specs.Checks.{pivots_charged}
use Rattle.lra_theory.proofs.checking.write.Given as goal

abbrev pub invariant-loop-count : goal.invariant-loop-count
invariant-loop-count l = record {
  charged : counts l.budget ≡ pivots_charged l.count (counts l.initial.budget);
  moves : l.journal.moves ≡ l.initial.journal.moves ++ map (λ p. Pivot p.0 p.1) (take l.count l.pivots);
}
