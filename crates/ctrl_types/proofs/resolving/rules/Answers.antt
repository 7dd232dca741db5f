use Rattle.std.proofs.Common.{◌≡◌, ◌+◌, nat_eq, length, List, ◌++◌, ◌∷◌, [], map, refl, ap, ◌∙◌}
use Rattle.std.proofs.lemmas.List.{map-append}
use Rattle.std.proofs.lemmas.Result.{err_from_is_err_and}
use Rattle.ctrl_types.specs.declared.controllers.Rule.{Rule}
use Rattle.ctrl_types.specs.Resolving.{rule_seen}
use Rattle.ctrl_types.proofs.LineLoops.{rules_go_on, rules_fail, rules_end}
use Rattle.ctrl_types.proofs.resolving.rules.Goals as goal

pub returns-in_err-made-clause-exact : goal.returns-in_err-made-clause-exact
returns-in_err-made-clause-exact c =
    let p = err_from_is_err_and c.from_residual.result c.from_residual.ensures.1 in
    rw (p.1, p.2)
    (rules_fail c.args.scope.now.states.now c.args.lines.now c.loop-number.number c.loop-number.totals (map rule_seen c.loop-number.rules) _ c.loop-number.invariant.told
    c.index-lines-number.result (nat_eq (c.loop-number.number + 1) (length c.args.lines.now)) _ c.index-lines-number.is c.loop-number-test.true refl c.in_err-made.ensures.exact)

-- the rules with one more
pushed : (rules : List Rule) (rule : Rule) (more : List Rule) → more ≡ rules ++ rule ∷ [] → map rule_seen more ≡ map rule_seen rules ++ rule_seen rule ∷ []
pushed rules rule more e = ap (map rule_seen) e ∙ map-append rule_seen rules (rule ∷ [])

pub loop-number-preserved : goal.loop-number-preserved
loop-number-preserved c = record {
  told = rw (pushed c.loop-number.rules c.in_ok-made.made c.push.new.self c.in_ok-push.ensures.ok)
      (rules_go_on c.args.scope.now.states.now c.args.lines.now c.loop-number.number c.loop-number.totals (map rule_seen c.loop-number.rules) _ c.loop-number.invariant.told
      c.index-lines-number.result (nat_eq (c.loop-number.number + 1) (length c.args.lines.now)) (rule_seen c.in_ok-made.made) c.rule.new.totals c.index-lines-number.is c.loop-number-test.true refl c.in_ok-made.ensures.exact);
  within = c.in_ok-made.ensures.within;
}

pub returns-clause-exact : goal.returns-clause-exact
returns-clause-exact c = rules_end c.args.scope.now.states.now c.args.lines.now c.loop-number.number c.loop-number.totals (map rule_seen c.loop-number.rules) _ c.loop-number.invariant.told c.loop-number-test.false
