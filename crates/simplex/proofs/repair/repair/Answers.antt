use Rattle.std.proofs.Common.{None, refl}
use Rattle.whole.specs.Budget.{counts}
use Rattle.simplex.specs.States.{rest_of}
use Rattle.simplex.proofs.RepairLaws.{ends, charged_on, repaired_at_end, repaired_on, leads_on, IsKeptSound-trans, IsBuilt-on}
use Rattle.simplex.proofs.repair.repair.Goals as goal

pub returns-in-Some-clause-answers : goal.returns-in-Some-clause-answers
returns-in-Some-clause-answers g c =
    ends g.F.OrderedField.LIMIT g.F.OrderedField.value c.args.assignment.now c.turns.assignment c.turn.new.assignment c.args.limits.now c.turns.pivots.items c.turn.new.pivots.items (counts c.turns.budget) (counts c.turn.new.budget) c.turns.invariant.leads (c.turns.invariant.built.repaired refl) c.in-Some.outcome c.in-Some.ensures.answers

pub returns-in-Some-clause-built : goal.returns-in-Some-clause-built
returns-in-Some-clause-built g c =
    IsBuilt-on g.F.OrderedField.value c.turns.assignment c.turn.new.assignment c.args.limits.now None (rest_of c.in-Some.outcome) c.turns.invariant.built c.turn.ensures.sound (repaired_at_end g.F.OrderedField.LIMIT g.F.OrderedField.value c.args.assignment.now c.turns.assignment c.turn.new.assignment c.args.limits.now c.turns.pivots.items c.turn.new.pivots.items (counts c.turns.budget) (counts c.turn.new.budget) c.turns.invariant.leads (c.turns.invariant.built.repaired refl) c.in-Some.outcome c.in-Some.ensures.answers)

pub turns-preserved : goal.turns-preserved
turns-preserved g c =
    let limit = g.F.OrderedField.LIMIT in
    let value = g.F.OrderedField.value in
    let a = c.args.assignment.now in
    let b = c.turns.assignment in
    let d = c.turn.new.assignment in
    let h = c.args.limits.now in
    let ps = c.turns.pivots.items in
    let qs = c.turn.new.pivots.items in
    let before = counts c.turns.budget in
    let after = counts c.turn.new.budget in
    let leads = c.turns.invariant.leads in
    let repaired = c.turns.invariant.built.repaired refl in
    let answer = c.turn.result in
    let turn = c.turn.ensures.answers in
    record {
      built = IsBuilt-on value b d h None None c.turns.invariant.built c.turn.ensures.sound (λ e. repaired_on limit value a b d h ps qs before after leads repaired answer c.in_default.is turn);
      leads = leads_on limit value a b d h ps qs before after leads repaired answer c.in_default.is turn;
      charged = charged_on limit value a b d h ps qs before after leads repaired (counts c.args.budget.now) c.turns.invariant.charged answer turn;
      sound = IsKeptSound-trans value a b d c.turns.invariant.sound c.turn.ensures.sound;
    }
