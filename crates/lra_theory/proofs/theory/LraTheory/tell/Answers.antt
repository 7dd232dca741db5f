use Rattle.std.proofs.Common.{false, ap, subst, ◌∙◌}
use Rattle.clause_form.specs.Theories.{HearsLiteral}
use Rattle.lra_theory.specs.Relations.{relations}
use Rattle.lra_theory.specs.Standings.{seen}
use Rattle.lra_theory.proofs.TheoryLaws.{hears-literal}
use Rattle.lra_theory.proofs.theory.LraTheory.tell.Goals as goal

pub returns : goal.returns
returns g c =
    let most = g.F.OrderedField.LIMIT in
    let value = g.F.OrderedField.value in
    let i = c.self.inside in
    subst (λ k. HearsLiteral (relations most value) (seen value k) c.args.lit c.told-heard.result (seen value (record { rows = i.rows; told = c.told-heard.new.trail.told.items; refused = c.told-heard.new.trail.refused; simplex = c.told-heard.new.simplex; fine = false; owes = c.is_clash-self-inside.result; rest = c.rest_after-self-inside.result }))) c.self.view_is
    (hears-literal most value i.rows i.trail.told.items i.trail.refused i.simplex i.fine i.owes i.rest c.args.lit c.told-heard.result c.told-heard.new.trail.told.items c.told-heard.new.trail.refused c.told-heard.new.simplex c.is_clash-self-inside.result c.rest_after-self-inside.result (c.self.invariant.agrees (ap (λ k. k.owes) c.self.view_is ∙ c.requires.paid)) c.in_default.is c.is_clash-self-inside.ensures c.rest_after-self-inside.ensures (c.told-heard.ensures.answers i.fine i.owes))
