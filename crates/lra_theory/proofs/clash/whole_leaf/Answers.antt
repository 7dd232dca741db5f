use Rattle.std.proofs.Common.{All, sym, subst}
use Rattle.whole.specs.Numbers.{IsWithin}
use Rattle.lra_theory.proofs.clash.whole_leaf.Goals as goal

pub sums_fit-requires-clause-mults : goal.sums_fit-requires-clause-mults
sums_fit-requires-clause-mults c = subst (λ ps. All (λ p. IsWithin p.mult) ps) (sym c.as_slice.ensures) c.in_ok-parts.ensures.mults
