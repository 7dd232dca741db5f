use Rattle.std.proofs.Common.{◌≡◌, ◌<◌, [], ◌∷◌, ◌++◌, Some, length, set, sym, ap, subst, ◌∙◌, arith}
use Rattle.std.specs.List.{All}
use Rattle.std.proofs.lemmas.List.{length-set, length_push}
use Rattle.std.proofs.lemmas.List.Elements.{All-pop}
use Rattle.tableau.specs.Layout.{placed}
use Rattle.tableau.proofs.PlacedLaws.{placed-push}
use Rattle.tableau.proofs.exchange.put_followed.Goals as goal

pub put_row-requires : goal.put_row-requires
put_row-requires g c =
    subst (λ n. c.in-Some.change.variable < n) (sym c.loop-change.invariant.count)
    ((All-pop (λ f. f.variable < length c.args.rows.now.items) c.loop-change.followed.items c.pop.new.self.items (Some c.in-Some.change) c.in-Some.ensures.items c.loop-change.invariant.inside).1)

pub loop-change-preserved : goal.loop-change-preserved
loop-change-preserved g c =
    record {
      rows_are = c.loop-change.invariant.rows_are ∙ ap (placed c.loop-change.rows.items) c.in-Some.ensures.items
          ∙ placed-push c.loop-change.rows.items c.pop.new.self.items c.in-Some.change
          ∙ ap (λ r. placed r c.pop.new.self.items) (sym c.put_row.ensures);
      count = ap length c.put_row.ensures ∙ length-set _ _ _ ∙ c.loop-change.invariant.count;
      inside = (All-pop (λ f. f.variable < length c.args.rows.now.items) c.loop-change.followed.items c.pop.new.self.items (Some c.in-Some.change) c.in-Some.ensures.items c.loop-change.invariant.inside).0;
    }
