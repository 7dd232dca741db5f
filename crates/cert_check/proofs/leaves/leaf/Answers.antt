use Rattle.std.proofs.Common.{sym}
use Rattle.cert_check.proofs.LeafLaws.{sound_parts}
use Rattle.cert_check.proofs.leaves.leaf.Goals as goal

pub add_parts-total-requires-clause-mults : goal.add_parts-total-requires-clause-mults
add_parts-total-requires-clause-mults c = sound_parts _ _ _ (sym c.in-Sound.ensures)
