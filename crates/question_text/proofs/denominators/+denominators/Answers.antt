use Rattle.std.proofs.Common.{rules, map, ap, ◌∙◌}
use Rattle.std.specs.List.{flat_map}
use Rattle.condition_syntax.specs.declared.conditions.Cond.TheViews.{the_lemmas}
use Rattle.condition_syntax.specs.Trees.{condition_of}
use Rattle.ctrl_types.specs.Denominators.{with_numbers}
use Rattle.ctrl_types.specs.Statements.{condition_numbers}
use Rattle.question_text.proofs.DenominatorLaws.{True_numbers, False_numbers, And_numbers, Or_numbers, parts_of_And, parts_of_Or, asked_next, parts_go_on, parts_end}
use Rattle.question_text.proofs.denominators.+denominators.Goals as goal

pub with_condition-with_parts-requires : goal.with_condition-with_parts-requires
with_condition-with_parts-requires t c =
    let asked = parts_of_And c.args.den c.args.condition.now c.in-And.parts c.in-And.is c.requires.condition_in in
    search (rules, the_lemmas, asked)

pub with_condition-with_parts-requires-in-Or : goal.with_condition-with_parts-requires-in-Or
with_condition-with_parts-requires-in-Or t c =
    let asked = parts_of_Or c.args.den c.args.condition.now c.in-Or.parts c.in-Or.is c.requires.condition_in in
    search (rules, the_lemmas, asked)

pub with_condition-returns-in-True-clause-exact : goal.with_condition-returns-in-True-clause-exact
with_condition-returns-in-True-clause-exact t c = True_numbers c.args.den c.args.condition.now c.in-True.is

pub with_condition-returns-in-False-clause-exact : goal.with_condition-returns-in-False-clause-exact
with_condition-returns-in-False-clause-exact t c = False_numbers c.args.den c.args.condition.now c.in-False.is

pub with_condition-returns-in-And-clause-exact : goal.with_condition-returns-in-And-clause-exact
with_condition-returns-in-And-clause-exact t c =
    And_numbers c.args.den c.args.condition.now c.in-And.parts c.with_parts.result c.in-And.is c.with_parts.ensures.exact

pub with_condition-returns-in-Or-clause-exact : goal.with_condition-returns-in-Or-clause-exact
with_condition-returns-in-Or-clause-exact t c =
    Or_numbers c.args.den c.args.condition.now c.in-Or.parts c.with_parts-in-Or.result c.in-Or.is c.with_parts-in-Or.ensures.exact

pub with_parts-loop-part-preserved : goal.with_parts-loop-part-preserved
with_parts-loop-part-preserved t c = record {
  told = parts_go_on c.deref-part-items.result.now c.loop-part.part-index c.part-item.result c.part-item.is c.loop-part-test.true
      c.loop-part.common c.with_condition-common.result _ c.with_condition-common.ensures.exact c.loop-part.invariant.told;
  asked = (asked_next c.deref-part-items.result.now c.loop-part.part-index c.part-item.result c.part-item.is c.loop-part-test.true c.loop-part.invariant.asked).1;
  within = c.with_condition-common.ensures.within;
}

pub with_parts-returns-clause-exact : goal.with_parts-returns-clause-exact
with_parts-returns-clause-exact t c =
    parts_end c.deref-part-items.result.now c.loop-part.part-index c.loop-part.common
    (with_numbers c.args.den (flat_map condition_numbers (map condition_of c.deref-part-items.result.now))) c.loop-part-test.false c.loop-part.invariant.told
    ∙ ap (λ ps. with_numbers c.args.den (flat_map condition_numbers (map condition_of ps))) c.deref-part-items.ensures.value
