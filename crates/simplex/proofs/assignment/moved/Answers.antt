use Rattle.std.proofs.Common.{◌≡◌, ◌+◌, ◌<◌, [], ◌∷◌, length, sym, ap, ◌∙◌, arith, below_more}
use Rattle.std.proofs.lemmas.List.{length-append}
use Rattle.ordered_field.specs.Delta.{delta_value}
use Rattle.simplex.specs.Moves.{moved_value}
use Rattle.simplex.specs.States.{value_in}
use Rattle.simplex.proofs.ValueLaws.{value_in-read, value_in-front, value_in-last}
use Rattle.simplex.proofs.MovedValues.{moved_at, moved-all, stuck_row}
use Rattle.simplex.proofs.assignment.moved.Goals as goal

pub loop-v-preserved : goal.loop-v-preserved
loop-v-preserved g c =
    let value = g.F.OrderedField.value in
    let t = c.args.tableau.now in
    let old = value_in value c.args.values.now in
    let m = c.args.variable in
    let to = delta_value value c.args.to in
    let xs = c.loop-v.moved.items in
    let d = c.in-Ok.value in
    let v = c.loop-v.v in
    let items = c.in_ok-push-in-Ok.ensures.items in
    let count = c.loop-v.invariant.count in
    let inside : c.loop-v.v < length c.args.values.now = omega (arith, c.requires.values, c.variables-v-end.ensures.count, c.loop-v-test.true) in
    let read = value_in-read value c.args.values.now c.loop-v.v c.index-values-v.result inside c.index-values-v.is in
    record {
      count = omega (arith, ap length items, length-append c.loop-v.moved.items (c.in-Ok.value ∷ []), c.loop-v.invariant.count);
      done = below_more (λ k. value_in value c.push.new.self.items k ≡ moved_value value t old m to k) v (λ k h. ap (λ ds. value_in value ds k) items ∙ value_in-front value xs d k (omega (arith, c.loop-v.invariant.count, h)) ∙ c.loop-v.invariant.done k h) (ap (λ ds. value_in value ds c.loop-v.v) items ∙ value_in-last value xs d v (sym count) ∙ c.in-Ok.ensures.moved ∙ moved_at value t old m to v (delta_value value c.index-values-v.result) (delta_value value c.args.change) read c.requires.change);
    }

pub returns-clause-moved : goal.returns-clause-moved
returns-clause-moved g c =
    let value = g.F.OrderedField.value in
    moved-all value c.args.tableau.now c.args.values.now c.loop-v.moved.items c.args.variable (delta_value value c.args.to) c.loop-v.v c.variables-v-end.ensures.table c.requires.within c.requires.values (omega (arith, c.loop-v-test.false, c.loop-v.auto.v-end, c.variables-v-end.ensures.count)) c.loop-v.invariant.count c.loop-v.invariant.done

pub returns-in-Err-clause-stuck : goal.returns-in-Err-clause-stuck
returns-in-Err-clause-stuck g c =
    let value = g.F.OrderedField.value in
    let inside : c.loop-v.v < length c.args.values.now = omega (arith, c.requires.values, c.variables-v-end.ensures.count, c.loop-v-test.true) in
    stuck_row value c.args.tableau.now (value_in value c.args.values.now) c.args.variable (delta_value value c.args.to) g.F.OrderedField.LIMIT (delta_value value c.args.change) c.loop-v.v (delta_value value c.index-values-v.result) (value_in-read value c.args.values.now c.loop-v.v c.index-values-v.result inside c.index-values-v.is) c.in-Err.fault c.in-Err.ensures.stuck
