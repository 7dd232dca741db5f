-- The limits of a controller's sections, which are those of its syntax.
use Rattle.std.proofs.Common.{◌≤◌, Option, Some, None, sym, subst}
use Rattle.std.proofs.lemmas.List.{length-map}
use Rattle.std.proofs.lemmas.List.Elements.{All-map, All-weaker}
use Rattle.condition_syntax.specs.declared.conditions.Cond.{Cond}
use Rattle.ctrl_syntax.specs.Limits.{AreSectionsWithin, IsGuard, IsGuardWithin, IsRuleLine, IsRuleWithin, IsSyntax}
use Rattle.ctrl_syntax.specs.Sections.{guard_of, rule_of, sections_of}
use Rattle.ctrl_syntax.specs.declared.syntax.RuleLine.{RuleLine}
use Rattle.ctrl_syntax.specs.declared.syntax.Syntax.{Syntax}

guard_within : (g : Option Cond) → IsGuard g → IsGuardWithin (guard_of g)
guard_within None is = tt
guard_within (Some c) is = is

rule_within : (r : RuleLine) → IsRuleLine r → IsRuleWithin (rule_of r)
rule_within r is = record { guard = guard_within r.guard is.guard; each_set = is.each_set }

pub sections_within : (syntax : Syntax) → IsSyntax syntax → AreSectionsWithin (sections_of syntax)
sections_within syntax is = record {
  states_to = is.states_to;
  each_state = is.each_state;
  rules_to = subst (λ n. n ≤ 16) (sym (length-map syntax.rules rule_of)) is.rules_to;
  each_rule = All-map IsRuleWithin rule_of syntax.rules (All-weaker IsRuleLine (λ (r : RuleLine). IsRuleWithin (rule_of r)) (λ r line. rule_within r line) syntax.rules is.each_rule);
  window = is.window;
  rate = is.rate;
}
