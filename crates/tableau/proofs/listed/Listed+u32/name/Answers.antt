use Rattle.std.proofs.Common.{◌≡◌, sym, subst, ap}
use Rattle.std.specs.List.{Contains}
use Rattle.tableau.proofs.NameLaws.{Contains-insert}
use Rattle.tableau.proofs.listed.Listed+u32.name.Goals as goal

pub returns-in_ok-insert-clause-kept : goal.returns-in_ok-insert-clause-kept
returns-in_ok-insert-clause-kept c = λ b has.
    subst (λ l. Contains l b) (sym c.in_ok-insert.ensures.items) (Contains-insert _ c.in-Err.place c.args.name b (subst (λ l. Contains l b) (sym c.self.view_is) has))
