use Rattle.std.proofs.Common.{◌≡◌, ◌<◌, false, sym, subst, ◌∙◌, ap}
use Rattle.std.proofs.lemmas.List.{get_or_read_under}
use Rattle.tableau.specs.Tables.{variables, is_basic}
use Rattle.tableau.proofs.TableLaws.{is_basic-is}
use Rattle.tableau.proofs.tableau.Tableau.is_basic.Goals as goal

pub returns : goal.returns
returns g c =
    let within : c.args.variable < c.self.inside.basic.len = subst (λ n. c.args.variable < n) (ap variables (sym c.self.view_is) ∙ sym c.self.invariant.basic ∙ sym c.self.inside.basic.ok.0) c.requires in
    get_or_read_under c.self.inside.basic.items c.args.variable c.self.inside.basic.len c.index.result.now false c.index.ensures within c.self.inside.basic.ok.0
    ∙ sym (is_basic-is _ c.args.variable) ∙ ap (λ t. is_basic t c.args.variable) c.self.view_is
