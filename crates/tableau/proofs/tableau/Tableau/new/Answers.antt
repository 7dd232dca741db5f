use Rattle.std.proofs.Common.{◌≡◌, refl}
use Rattle.tableau.specs.Tables.{Table}
use Rattle.tableau.proofs.OpeningLaws.{opened_laid_out, opened_opening, opened_meets, opened_fits}
use Rattle.tableau.proofs.tableau.Tableau.new.Goals as goal

pub invariant_of-result : goal.invariant_of-result
invariant_of-result g c =
    let value = g.F.OrderedField.value in
    let limit = g.F.OrderedField.LIMIT in
    let opened = c.in-Ok.opened in
    let t : Table _ = record { columns = c.args.columns; basic = opened.basic.items; rows = opened.rows.items } in
    opened_laid_out limit value c.args.columns c.args.rows.now.items t opened.users.items c.in-Ok.ensures.opened refl c.requires.terms c.requires.few

pub returns-clause-opening : goal.returns-clause-opening
returns-clause-opening g c =
    let value = g.F.OrderedField.value in
    let limit = g.F.OrderedField.LIMIT in
    let opened = c.in-Ok.opened in
    let t : Table _ = record { columns = c.args.columns; basic = opened.basic.items; rows = opened.rows.items } in
    opened_opening limit value c.args.columns c.args.rows.now.items t opened.users.items c.in-Ok.ensures.opened refl c.requires.terms c.requires.few

pub returns-clause-exact : goal.returns-clause-exact
returns-clause-exact g c =
    let value = g.F.OrderedField.value in
    let limit = g.F.OrderedField.LIMIT in
    let opened = c.in-Ok.opened in
    let t : Table _ = record { columns = c.args.columns; basic = opened.basic.items; rows = opened.rows.items } in
    opened_meets limit value c.args.columns c.args.rows.now.items t opened.users.items c.in-Ok.ensures.opened refl c.requires.terms c.requires.few

pub returns-clause-kept : goal.returns-clause-kept
returns-clause-kept g c =
    opened_fits g.F.OrderedField.LIMIT g.F.OrderedField.value c.args.columns c.args.rows.now.items _ _ _ c.in-Ok.ensures.opened
