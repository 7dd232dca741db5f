use Rattle.std.proofs.Common.{◌≡◌, All, map, take}
use Rattle.lra_theory.specs.Clashes.{IsSoundPiece, piece_of}
use Rattle.lra_theory.specs.Standings.{lits_of}
use Rattle.lra_theory.proofs.clash.pieces.Given as goal

abbrev pub invariant-loop-share : goal.invariant-loop-share
invariant-loop-share g l = record {
  pieces : l.pieces.items ≡ map (piece_of g.F.OrderedField.pair l.rows (lits_of l.trail.told.items l.trail.refused)) (take l.share-index l.shares);
  sound : All IsSoundPiece l.pieces.items;
}
