use Rattle.std.proofs.Common.{◌≡◌, All, take, pos, ◌≤ℤ◌}
use Rattle.whole.specs.Numbers.{IsWithin}
use Rattle.lra_theory.specs.Clashes.{HasSmallUnit, common}
use Rattle.lra_theory.proofs.clash.common.Given as goal

abbrev pub invariant-loop-position : goal.invariant-loop-position
invariant-loop-position l = record {
  exact : l.least ≡ pos (common 1 (take l.position l.pieces));
  within : IsWithin l.least;
  some : pos 1 ≤ℤ l.least;
  units : All HasSmallUnit (take l.position l.pieces);
}
