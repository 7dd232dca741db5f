use Rattle.lra_theory.specs.Clashes.{IsSoundPiece, piece_of}
use Rattle.lra_theory.specs.Standings.{lits_of}
use Rattle.lra_theory.proofs.ListLaws.{all_last, map_more}
use Rattle.std.proofs.Common.{ap, ◌∙◌}
use Rattle.lra_theory.proofs.clash.pieces.Goals as goal

pub loop-share-preserved : goal.loop-share-preserved
loop-share-preserved g c =
    let f = piece_of g.F.OrderedField.pair c.args.rows.now (lits_of c.args.trail.now.told.items c.args.trail.now.refused) in
    record {
      pieces = map_more f c.args.shares.now c.loop-share.share-index c.share-item.result c.loop-share.pieces.items c.push.new.self.items c.piece_of_share.result c.loop-share-test.true c.loop-share.invariant.pieces c.in_ok-push.ensures.items (c.piece_of_share.ensures.piece ∙ ap f c.share-item.is);
      sound = all_last IsSoundPiece c.loop-share.pieces.items c.push.new.self.items c.piece_of_share.result c.in_ok-push.ensures.items c.loop-share.invariant.sound c.piece_of_share.ensures.sound;
    }
