use Rattle.std.proofs.Common.{ap, subst, unsigned_abs, ◌∙◌}
use Rattle.whole.specs.declared.answers.Stuck.{Stuck}
use Rattle.linear_form.specs.Sums.{entry}
use Rattle.clause_form.specs.Theories.{AreMet}
use Rattle.simplex.specs.States.{corner}
use Rattle.corner_values.specs.Faults.{IsStuckValue}
use Rattle.lra_theory.specs.Standings.{lits_of, seen}
use Rattle.lra_theory.proofs.ValueLaws.{all_within, kept-met}
use Rattle.lra_theory.proofs.theory.Lra.values.Goals as goal

pub values-requires : goal.values-requires
values-requires g c =
    let i = c.self.inside in
    all_within g.F.OrderedField.LIMIT g.F.OrderedField.value i.rows (lits_of i.trail.told.items i.trail.refused) i.simplex (c.self.invariant.settled (ap (λ k. k.fine) c.self.view_is ∙ c.requires)).calm

pub returns-in-Ok-clause-met : goal.returns-in-Ok-clause-met
returns-in-Ok-clause-met g c =
    let value = g.F.OrderedField.value in
    let i = c.self.inside in
    let v = c.in-Ok.values in
    subst (λ k. AreMet (seen value k).rows (entry v.values) (unsigned_abs v.over) (seen value k).told) c.self.view_is
    (kept-met value i.rows i.trail.told.items i.trail.refused i.simplex i.fine i.owes i.rest c.self.invariant (ap (λ k. k.fine) c.self.view_is ∙ c.requires) c.variables-variables.ensures.sound v.over v.values c.in-Ok.ensures.solution c.in-Ok.ensures.positive)

pub returns-in-Ok-clause-kept : goal.returns-in-Ok-clause-kept
returns-in-Ok-clause-kept g c =
    subst (λ k. (s : Stuck) → IsStuckValue g.F.OrderedField.LIMIT (corner g.F.OrderedField.value k.simplex) s → ⊥) c.self.view_is c.in-Ok.ensures.kept
