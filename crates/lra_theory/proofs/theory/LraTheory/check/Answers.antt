use Rattle.std.proofs.Common.{ap, sym, subst, ◌∙◌}
use Rattle.clause_form.specs.Theories.{HearsCheck}
use Rattle.lra_theory.specs.Relations.{relations}
use Rattle.lra_theory.specs.Standings.{seen}
use Rattle.lra_theory.proofs.TheoryLaws.{check-at_rest, check-settled}
use Rattle.lra_theory.proofs.theory.LraTheory.check.Goals as goal

pub returns-in-Some : goal.returns-in-Some
returns-in-Some g c =
    let most = g.F.OrderedField.LIMIT in
    let value = g.F.OrderedField.value in
    subst (λ a. HearsCheck (relations most value) (seen value c.args.self.now) a (seen value c.args.self.now) c.args.budget.now c.args.budget.now c.args.journal.now c.args.journal.now) (sym c.heard.ensures)
    (check-at_rest most value c.args.self.now c.in-Some.fault c.args.budget.now c.args.journal.now (ap (λ k. k.rest) (sym c.self.view_is) ∙ c.in-Some.is))

pub invariant_of-self : goal.invariant_of-self
invariant_of-self g c =
    let most = g.F.OrderedField.LIMIT in
    let value = g.F.OrderedField.value in
    let i = c.self.inside in
    let none = c.self.invariant.agrees (ap (λ k. k.owes) c.self.view_is ∙ c.requires.paid) in
    record {
      sound = c.checked-heard.ensures.sound;
      few = c.self.invariant.few;
      agrees = λ _. none;
      works = λ e. c.checked-heard.ensures.works (sym c.rest_after-self-inside.ensures ∙ e);
      settled = check-settled most value i.rows i.trail.told.items i.trail.refused i.simplex c.checked-heard.new.simplex i.fine i.owes c.is_fine-self-inside.result c.rest_after-self-inside.result c.checked-heard.result c.args.budget.now c.checked-heard.new.budget c.args.journal.now c.checked-heard.new.journal none c.is_fine-self-inside.ensures c.rest_after-self-inside.ensures (c.checked-heard.ensures.answers i.fine i.owes);
    }
