use Rattle.std.proofs.Common.{◌≡◌, sym, subst}
use Rattle.tableau.proofs.NameLaws.{IsGrown-more, named_still, on_ok}
use Rattle.tableau.proofs.names.name_exchange.Goals as goal

pub returns-in-Ok-clause-grown : goal.returns-in-Ok-clause-grown
returns-in-Ok-clause-grown g c = IsGrown-more _ _ _ c.name_row.ensures.grown c.name_followed.ensures.grown

pub returns-in-Ok-clause-own : goal.returns-in-Ok-clause-own
returns-in-Ok-clause-own g c =
    on_ok c.name_followed.result (λ each. named_still _ _ c.args.other c.args.solved.now c.name_followed.ensures.grown c.in-Ok.ensures.named) c.name_followed.ensures.named
