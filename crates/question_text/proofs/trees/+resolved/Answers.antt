use Rattle.std.proofs.Common.{◌≡◌, List, map, ap, sym, ◌∙◌}
use Rattle.std.proofs.lemmas.Result.{err_from_is_err_and}
use Rattle.path_server.specs.declared.settings.Setting.{Setting}
use Rattle.condition_syntax.specs.Trees as written
use Rattle.condition_syntax.specs.declared.conditions.Cond.{Cond}
use Rattle.ctrl_types.specs.declared.controllers.State.{State}
use Rattle.question_text.specs.NamedValues.{each_found}
use Rattle.question_text.specs.StatementRules.{meant}
use Rattle.question_text.proofs.TreeLaws.{And_gives, And_fails, Or_gives, Or_fails, each_found-map, part_meant, parts_go_on, parts_fail, parts_end}
use Rattle.question_text.proofs.trees.+resolved.Goals as goal

pub condition-returns-in_ok-conditions-in-And : goal.condition-returns-in_ok-conditions-in-And
condition-returns-in_ok-conditions-in-And t c =
    And_gives c.args.states.now c.args.setting.now c.args.line c.args.cond.now c.in-And.parts c.in-And.is _ c.in_ok-conditions-in-And.ensures

pub condition-returns-in_err-conditions-in-And : goal.condition-returns-in_err-conditions-in-And
condition-returns-in_err-conditions-in-And t c =
    let p = err_from_is_err_and c.from_residual-in_err-conditions-in-And.result c.from_residual-in_err-conditions-in-And.ensures.1 in
    rw (p.1, p.2)
    (And_fails c.args.states.now c.args.setting.now c.args.line c.args.cond.now c.in-And.parts c.in-And.is _ c.in_err-conditions-in-And.ensures)

pub condition-returns-in_ok-conditions-in-Or : goal.condition-returns-in_ok-conditions-in-Or
condition-returns-in_ok-conditions-in-Or t c =
    Or_gives c.args.states.now c.args.setting.now c.args.line c.args.cond.now c.in-Or.parts c.in-Or.is _ c.in_ok-conditions-in-Or.ensures

pub condition-returns-in_err-conditions-in-Or : goal.condition-returns-in_err-conditions-in-Or
condition-returns-in_err-conditions-in-Or t c =
    let p = err_from_is_err_and c.from_residual-in_err-conditions-in-Or.result c.from_residual-in_err-conditions-in-Or.ensures.1 in
    rw (p.1, p.2)
    (Or_fails c.args.states.now c.args.setting.now c.args.line c.args.cond.now c.in-Or.parts c.in-Or.is _ c.in_err-conditions-in-Or.ensures)

-- the parts as they are written, and as trees
all_parts : (states : List State) (s : Setting) (items parts : List Cond) → items ≡ parts
    → each_found (part_meant states s) items ≡ each_found (meant states s) (map written.condition_of parts)
all_parts states s items parts same =
    ap (each_found (part_meant states s)) same ∙ sym (each_found-map (meant states s) written.condition_of parts)

pub conditions-returns-in_err-condition : goal.conditions-returns-in_err-condition
conditions-returns-in_err-condition t c =
    let p = err_from_is_err_and c.from_residual.result c.from_residual.ensures.1 in
    rw (p.1, p.2)
    (parts_fail c.args.states.now c.args.setting.now c.args.line c.deref-part-items.result.now c.loop-part.part-index c.loop-part.resolved.items
    (each_found (meant c.args.states.now c.args.setting.now) (map written.condition_of c.args.parts.now.items))
    (c.loop-part.invariant ∙ all_parts c.args.states.now c.args.setting.now c.deref-part-items.result.now c.args.parts.now.items c.deref-part-items.ensures.value)
    c.part-item.result _ c.part-item.is c.loop-part-test.true c.in_err-condition.ensures)

pub conditions-loop-part-preserved : goal.conditions-loop-part-preserved
conditions-loop-part-preserved t c =
    parts_go_on c.args.states.now c.args.setting.now c.args.line c.deref-part-items.result.now c.loop-part.part-index c.loop-part.resolved.items _ c.loop-part.invariant
    c.part-item.result _ c.push.new.self.items c.part-item.is c.loop-part-test.true c.in_ok-condition.ensures c.in_ok-push.ensures.items

pub conditions-returns : goal.conditions-returns
conditions-returns t c =
    parts_end c.args.states.now c.args.setting.now c.args.line c.deref-part-items.result.now c.loop-part.part-index c.loop-part.resolved.items
    (each_found (meant c.args.states.now c.args.setting.now) (map written.condition_of c.args.parts.now.items))
    (c.loop-part.invariant ∙ all_parts c.args.states.now c.args.setting.now c.deref-part-items.result.now c.args.parts.now.items c.deref-part-items.ensures.value)
    c.loop-part-test.false
