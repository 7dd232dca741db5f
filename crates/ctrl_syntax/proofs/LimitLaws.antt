-- What a text spells is within the limits of a syntax.
use Rattle.std.proofs.Common.{ℕ, ◌≤◌, true, false, Option, None, Some, Result, Ok, Err, List, [], ◌∷◌, ◌++◌, map, subst, All}
use Rattle.std.specs.Prelude.{codes, IfOk}
use Rattle.std.proofs.lemmas.List.{length-map}
use Rattle.std.proofs.lemmas.List.Elements.{All-nil, All-cons, All-head, All-tail}
use Rattle.source_text.specs.Tokens.{Token}
use Rattle.source_text.specs.Printed.{AreFromLine}
use Rattle.source_text.specs.Shown.{Ahead}
use Rattle.weighing.specs.declared.scales.Num.{Num}
use Rattle.weighing.specs.Scaled.{IsNum}
use Rattle.condition_syntax.specs.Trees.{Condition}
use Rattle.condition_syntax.specs.declared.conditions.Cond.{Cond}
use Rattle.ctrl_syntax.specs.declared.syntax.StateLine.{StateLine}
use Rattle.ctrl_syntax.specs.declared.syntax.SetLine.{SetLine}
use Rattle.ctrl_syntax.specs.declared.syntax.RuleLine.{RuleLine}
use Rattle.ctrl_syntax.specs.declared.syntax.RateLine.{RateLine}
use Rattle.ctrl_syntax.specs.declared.syntax.Syntax.{Syntax}
use Rattle.ctrl_syntax.specs.Rest.{fronts}
use Rattle.ctrl_syntax.specs.Sections.{Rule, Sections, guard_of, rule_of, sections_of}
use Rattle.ctrl_syntax.specs.Grammar.{SpellsBound, unsigned, negative, SpellsState, SpellsGuard, when, SpellsSet, SpellsTitled, Each, none, one_more, SpellsRules, a_rule, SpellsRate, a_rate, Spells, IsText}
use Rattle.ctrl_syntax.specs.Limits.{IsExpr, IsStateLine, IsSetLine, IsGuard, IsRuleLine, IsRateLine, IsSyntax, IsGuardWithin, IsRuleWithin, AreSectionsWithin}
use Rattle.ctrl_syntax.proofs.SectionTexts.{AreFromLines, fronts_from, from_parts}
use Rattle.ctrl_syntax.proofs.ConditionLimits.{number_within, expr_within, condition_within}

-- ---- lines

bound_within : {front : List Token} {q : Num} → SpellsBound front q → IsNum q
bound_within (unsigned is) = number_within false is
bound_within (negative is) = number_within true is

state_within : (a : Ahead) (s : StateLine) → SpellsState a s → AreFromLine a.tokens → IsStateLine s
state_within a s is from =
    let words = subst AreFromLine is.tokens_are from in
    record { name = record { spelled = words.1.0; short = is.short }; lo = bound_within is.lo_is; hi = bound_within is.hi_is }

set_within : (a : Ahead) (s : SetLine) → SpellsSet a s → AreFromLine a.tokens → IsSetLine s
set_within a s is from =
    let words = subst AreFromLine is.tokens_are from in
    record { name = record { spelled = words.1.0; short = is.short }; expr = expr_within is.expr_is words.1.1.1 }

guard_within : (tokens : List Token) (guard : Option Condition) → SpellsGuard tokens guard → AreFromLine tokens → IsGuardWithin guard
guard_within tokens None is from = tt
guard_within tokens (Some c) (when is) from = condition_within is from.1.1

titled_within : (title : List ℕ) (a : Ahead) (x : RateLine) → SpellsTitled title a x → AreFromLine a.tokens → IsExpr x.expr
titled_within title a x is from =
    let words = subst AreFromLine is.tokens_are from in
    expr_within is.expr_is words.1

-- ---- all lines

each_within : {X : Type 0} (SpellsOne : Ahead → X → Type 0) (P : X → Type 0) → ((a : Ahead) (x : X) → SpellsOne a x → AreFromLine a.tokens → P x)
    → {lines : List Ahead} {xs : List X} → Each SpellsOne lines xs → AreFromLines lines → All P xs
each_within SpellsOne P within none from = All-nil P
each_within SpellsOne P within (one_more {a} {x} {lines} {xs} is others) from = All-cons P x xs (within a x is from.0) (each_within SpellsOne P within others from.1)

rules_within : (rules : List Rule) {lines : List Ahead} → SpellsRules lines rules → AreFromLines lines → All IsRuleWithin rules
rules_within [] is from = All-nil IsRuleWithin
rules_within (r ∷ rules) (a_rule {a} {sets} {lines} guard line assigned others) from =
    let parts = from_parts sets lines from.1 in
    All-cons IsRuleWithin r rules (record { guard = guard_within a.tokens r.guard guard from.0; each_set = each_within SpellsSet IsSetLine set_within assigned parts.0 }) (rules_within rules others parts.1)

rate_within : {lines : List Ahead} (rate : Option RateLine) → SpellsRate lines rate → AreFromLines lines → IsRateLine rate
rate_within None is from = tt
rate_within (Some r) (a_rate {a} is) from = titled_within (codes "rate") a r is from.0

lines_within : (lines : List Ahead) (s : Sections) → Spells lines s → AreFromLines lines → AreSectionsWithin s
lines_within lines s is from =
    let from_states = from_parts is.state_lines (is.rule_lines ++ (is.window ∷ (is.rate_lines ++ (is.last ∷ [])))) (subst AreFromLines is.lines_are from) in
    let from_rules = from_parts is.rule_lines (is.window ∷ (is.rate_lines ++ (is.last ∷ []))) from_states.1 in
    let from_rate = from_parts is.rate_lines (is.last ∷ []) from_rules.1.1 in
    record {
      states_to = is.few_states;
      each_state = each_within SpellsState IsStateLine state_within is.states_are from_states.0;
      rules_to = is.few_rules;
      each_rule = rules_within s.rules is.rules_are from_rules.0;
      window = titled_within (codes "window") is.window (record { expr = s.window; line = s.window_line }) is.window_is from_rules.1.0;
      rate = rate_within s.rate is.rate_is from_rate.0;
    }

-- what a text spells is within the limits
pub sections_within : (bytes : List ℕ) (s : Sections) → IsText bytes s → AreSectionsWithin s
sections_within bytes s is = lines_within (fronts is.lines) s is.spelled (fronts_from is.lines)

-- ---- the syntax that has these sections

guard_line : (guard : Option Cond) → IsGuardWithin (guard_of guard) → IsGuard guard
guard_line None is = tt
guard_line (Some c) is = is

rule_lines : (rules : List RuleLine) → All IsRuleWithin (map rule_of rules) → All IsRuleLine rules
rule_lines [] each = All-nil IsRuleLine
rule_lines (r ∷ rules) each =
    let here = All-head IsRuleWithin (rule_of r) (map rule_of rules) each in
    All-cons IsRuleLine r rules (record { guard = guard_line r.guard here.guard; each_set = here.each_set }) (rule_lines rules (All-tail IsRuleWithin (rule_of r) (map rule_of rules) each))

syntax_within : (s : Syntax) → AreSectionsWithin (sections_of s) → IsSyntax s
syntax_within s is = record {
  states_to = is.states_to;
  each_state = is.each_state;
  rules_to = subst (λ n. n ≤ 16) (length-map s.rules rule_of) is.rules_to;
  each_rule = rule_lines s.rules is.each_rule;
  window = is.window;
  rate = is.rate;
}

pub text_within : (bytes : List ℕ) (s : Syntax) → IsText bytes (sections_of s) → IsSyntax s
text_within bytes s is = syntax_within s (sections_within bytes (sections_of s) is)

-- a call that gives what the bytes spell
pub is_within : {E : Type 0} (bytes : List ℕ) (result : Result Syntax E) → IfOk result (λ s. IsText bytes (sections_of s)) → IfOk result IsSyntax
is_within bytes (Ok s) found = text_within bytes s found
is_within bytes (Err fault) found = tt
