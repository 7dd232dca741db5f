-- A controller's text in sections, with each condition as a tree of the logic.
use Rattle.std.specs.Prelude.{◌≡◌, ℕ, List, map, Option, None, Some}
use Rattle.condition_syntax.specs.declared.conditions.Cond.{Cond}
use Rattle.condition_syntax.specs.declared.expressions.Expr.{Expr}
use Rattle.condition_syntax.specs.Trees.{Condition, condition_of}
use Rattle.ctrl_syntax.specs.declared.syntax.StateLine.{StateLine}
use Rattle.ctrl_syntax.specs.declared.syntax.SetLine.{SetLine}
use Rattle.ctrl_syntax.specs.declared.syntax.RuleLine.{RuleLine}
use Rattle.ctrl_syntax.specs.declared.syntax.RateLine.{RateLine}
use Rattle.ctrl_syntax.specs.declared.syntax.Syntax.{Syntax}

-- a rule's line with the assignments behind it; `otherwise` has no guard
pub record Rule : Type 0 where
  pub guard : Option Condition
  pub sets : List SetLine
  pub line : ℕ

pub record Sections : Type 0 where
  pub states : List StateLine
  pub rules : List Rule
  pub window : Expr
  pub window_line : ℕ
  pub rate : Option RateLine

abbrev pub guard_of : Option Cond → Option Condition
guard_of None = None
guard_of (Some c) = Some (condition_of c)

abbrev pub rule_of : RuleLine → Rule
rule_of r = record { guard = guard_of r.guard; sets = r.sets; line = r.line }

abbrev pub rules_of : List RuleLine → List Rule
rules_of rules = map rule_of rules

abbrev pub sections_of : Syntax → Sections
sections_of s = record { states = s.states; rules = rules_of s.rules; window = s.window; window_line = s.window_line; rate = s.rate }

-- ---- the same but for line numbers

abbrev pub state_at : ℕ → StateLine → StateLine
state_at n s = record { name = s.name; count = s.count; lo = s.lo; hi = s.hi; line = n }

abbrev pub set_at : ℕ → SetLine → SetLine
set_at n s = record { name = s.name; expr = s.expr; line = n }

abbrev pub rate_at : ℕ → RateLine → RateLine
rate_at n r = record { expr = r.expr; line = n }

-- with no line numbers
abbrev pub rate_without : Option RateLine → Option RateLine
rate_without None = None
rate_without (Some r) = Some (rate_at 0 r)

abbrev pub rule_without : Rule → Rule
rule_without r = record { guard = r.guard; sets = map (set_at 0) r.sets; line = 0 }

abbrev pub without_lines : Sections → Sections
without_lines s = record {
  states = map (state_at 0) s.states;
  rules = map rule_without s.rules;
  window = s.window;
  window_line = 0;
  rate = rate_without s.rate;
}

abbrev pub SameButLines : Sections → Sections → Type 0
SameButLines s t = without_lines s ≡ without_lines t
