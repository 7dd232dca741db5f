use Rattle.std.proofs.Common.{◌≡◌, All, map, take, unsigned_abs}
use Rattle.whole.specs.Numbers.{IsWithin}
use Rattle.lra_theory.specs.Clashes.{part_of}
use Rattle.lra_theory.proofs.clash.parts.Given as goal

abbrev pub invariant-loop-position : goal.invariant-loop-position
invariant-loop-position l = record {
  parts : l.parts ≡ map (part_of (unsigned_abs l.common)) (take l.position l.pieces);
  mults : All (λ p. IsWithin p.mult) l.parts;
}
