use Rattle.std.proofs.Common.{◌≡◌, ◌+◌, ◌-◌, ◌<◌, suc, List, [], ◌∷◌, length, length-append, sym, ap, subst, ◌∙◌, arith}
use Rattle.std.specs.Prelude.{codes}
use Rattle.std.proofs.lemmas.Result.{err_from_is_err_and}
use Rattle.text_lines.proofs.StepLaws.{with_front}
use Rattle.std.proofs.lemmas.List.{map-append}
use Rattle.ctrl_syntax.specs.Sections.{Rule, rule_of, rules_of}
use Rattle.ctrl_syntax.specs.Reading.{refusal, rule_by, many_by}
use Rattle.ctrl_syntax.proofs.ManyLoop.{many_goes_on, many_fails, many_is_full, many_is_done}
use Rattle.ctrl_syntax.proofs.sections.rules.Goals as goal

pub returns-then-len-eq-RULE_LIMIT : goal.returns-then-len-eq-RULE_LIMIT
returns-then-len-eq-RULE_LIMIT c =
    let none : 16 - length c.loop-alloc.rules ≡ 0 = omega arith in
    rw (c.refusal.ensures, c.number.ensures) (many_is_full (refusal 11) (codes "rule") rule_by (rules_of c.loop-alloc.rules) c.loop-alloc.rest (many_by (codes "rule") rule_by 16 c.args.rest.now) (16 - length c.loop-alloc.rules) none (sym c.begins_with.ensures ∙ c.loop-alloc-test.true) c.loop-alloc.invariant.told)

pub loop-alloc-preserved : goal.loop-alloc-preserved
loop-alloc-preserved c =
    let size : length c.push.new.self ≡ length c.loop-alloc.rules + 1 = omega (arith, simp length-append at (ap length c.in_ok-push.ensures.ok)) in
    let more : 16 - length c.loop-alloc.rules ≡ suc (16 - length c.push.new.self) = omega arith in
    record {
      told = subst (λ (front : List Rule). with_front front (many_by (codes "rule") rule_by (16 - length c.push.new.self) c.rule.new.rest) ≡ many_by (codes "rule") rule_by 16 c.args.rest.now)
          (sym (ap rules_of c.in_ok-push.ensures.ok ∙ map-append rule_of c.loop-alloc.rules (c.in_ok-rule.rule ∷ [])))
          (many_goes_on (refusal 11) (codes "rule") rule_by (rules_of c.loop-alloc.rules) c.loop-alloc.rest (many_by (codes "rule") rule_by 16 c.args.rest.now) (16 - length c.loop-alloc.rules) (16 - length c.push.new.self) (rule_of c.in_ok-rule.rule) c.rule.new.rest more (sym c.begins_with.ensures ∙ c.loop-alloc-test.true) c.in_ok-rule.ensures c.loop-alloc.invariant.told);
      few = omega arith;
    }

pub returns-in_err-rule : goal.returns-in_err-rule
returns-in_err-rule c =
    let some : 0 < 16 - length c.loop-alloc.rules = omega arith in
    let p = err_from_is_err_and c.from_residual.result c.from_residual.ensures.1 in
    rw (p.1, p.2)
    (many_fails (refusal 11) (codes "rule") rule_by (rules_of c.loop-alloc.rules) c.loop-alloc.rest (many_by (codes "rule") rule_by 16 c.args.rest.now) c.in_err-rule.field-0.0 (16 - length c.loop-alloc.rules) some (sym c.begins_with.ensures ∙ c.loop-alloc-test.true) c.in_err-rule.ensures c.loop-alloc.invariant.told)

pub returns : goal.returns
returns c = many_is_done (refusal 11) (codes "rule") rule_by (rules_of c.loop-alloc.rules) c.loop-alloc.rest (many_by (codes "rule") rule_by 16 c.args.rest.now) (16 - length c.loop-alloc.rules) (sym c.begins_with.ensures ∙ c.loop-alloc-test.false) c.loop-alloc.invariant.told
