-- The drawn problem: the draws in their order, and the two texts that are written of them.
use Rattle.std.specs.Prelude.{ℕ, zero, suc, ◌+◌, pos, negsuc, false, List, [], ◌∷◌, ◌++◌, codes, Option, Some, None}
use Rattle.std.specs.Fmt.{decimal}
use Rattle.whole.specs.declared.answers.Pair.{Pair}
use Rattle.weighing.specs.declared.scales.Num.{Num}
use Rattle.weighing.specs.declared.weighings.Rel5.TheVariants.{Above, AtLeast}
use Rattle.condition_syntax.specs.declared.expressions.Name.{Name}
use Rattle.condition_syntax.specs.declared.expressions.ETerm.{ETerm}
use Rattle.condition_syntax.specs.declared.expressions.Expr.{Expr}
use Rattle.condition_syntax.specs.Trees.{Condition, comparison, delay}
use Rattle.path_server.specs.declared.settings.Setting.{Setting}
use Rattle.ctrl_syntax.specs.declared.syntax.StateLine.{StateLine}
use Rattle.ctrl_syntax.specs.declared.syntax.SetLine.{SetLine}
use Rattle.ctrl_syntax.specs.Sections.{Rule, Sections as ControllerSections}
use Rattle.ctrl_syntax.specs.Printed.{printed as controller_printed}
use Rattle.question_syntax.specs.Sections.{Sections as QuestionSections}
use Rattle.question_syntax.specs.Printed.{printed as question_printed}
use Rattle.ctrl_gen.specs.Draws.{Drawing, draw, each}

-- ---- expressions. No text shows a line's number, so each is 0

abbrev pub over : ℕ → ℕ → Num
over n d = record { num = pos n; den = pos d }

abbrev pub alone : List ℕ → Name
alone text = record { text = text; flow = None; step = None }

abbrev pub number_term : Num → ETerm
number_term q = record { coef = q; name = None }

abbrev pub name_term : Num → Name → ETerm
name_term q x = record { coef = q; name = Some x }

abbrev pub sum_of : List ETerm → Expr
sum_of terms = record { terms = terms }

-- the name of state j
abbrev pub state_name : ℕ → List ℕ
state_name j = codes "s" ++ decimal j

-- ---- the lines of a controller

-- state j begins within lo and lo + spread
abbrev pub state_of : ℕ → ℕ → ℕ → StateLine
state_of j lo spread = record { name = state_name j; count = false; lo = over lo 1; hi = over (lo + spread) 1; line = 0 }

unfoldable pub drawn_state : ℕ → Drawing StateLine
drawn_state j x =
    let lo = draw 3 x in
    let spread = draw 3 lo.1 in
    (state_of j (1 + lo.0) spread.0, spread.1)

-- the signal is above a number
abbrev pub signal_above : List ℕ → ℕ → Condition
signal_above signal n = comparison (sum_of (name_term (over 1 1) (alone signal) ∷ [])) Above (sum_of (number_term (over n 1) ∷ []))

unfoldable pub guard_by : ℕ → Drawing Condition
guard_by zero x = (signal_above (codes "lost") 0, x)
guard_by (suc zero) x = let c = draw 4 x in (signal_above (codes "acked") c.0, c.1)
guard_by (suc (suc n)) x = let k = draw 2 x in (delay (over (1 + k.0) 1), k.1)

unfoldable pub drawn_guard : Drawing Condition
drawn_guard x = let kind = draw 3 x in guard_by kind.0 kind.1

-- set sj = a/b * sj + c/d
abbrev pub set_of : ℕ → Num → Num → SetLine
set_of j factor more = record { name = state_name j; expr = sum_of (name_term factor (alone (state_name j)) ∷ number_term more ∷ []); line = 0 }

unfoldable pub drawn_set : ℕ → Drawing SetLine
drawn_set j x =
    let a = draw 3 x in
    let b = draw 4 a.1 in
    let c = draw 3 b.1 in
    let d = draw 4 c.1 in
    (set_of j (over (1 + a.0) (1 + b.0)) (over c.0 (1 + d.0)), d.1)

-- a rule sets each of n states
unfoldable pub drawn_rule : ℕ → Drawing Rule
drawn_rule n x =
    let guard = drawn_guard x in
    let sets = each drawn_set n guard.1 in
    (record { guard = Some guard.0; sets = sets.0; line = 0 }, sets.1)

abbrev pub otherwise : Rule
otherwise = record { guard = None; sets = []; line = 0 }

-- ---- the problem, in the order of its draws

pub record Problem : Type 0 where
  pub flows : ℕ
  pub jitter : ℕ
  pub rtt : ℕ
  pub states : List StateLine
  pub rules : List Rule
  pub buffer : Option ℕ
  pub least : ℕ

-- no buffer, or one of 1 to 4
unfoldable pub buffer_by : ℕ → Drawing (Option ℕ)
buffer_by zero x = (None, x)
buffer_by (suc n) x = let b = draw 4 x in (Some (1 + b.0), b.1)

unfoldable pub drawn_buffer : Drawing (Option ℕ)
drawn_buffer x = let kind = draw 2 x in buffer_by kind.0 kind.1

-- the rules in front of `otherwise`: at most two, over n states
unfoldable pub drawn_rules : ℕ → Drawing (List Rule)
drawn_rules n x = let rules = draw 3 x in each (λ _. drawn_rule n) rules.0 rules.1

unfoldable pub drawn_problem : Drawing Problem
drawn_problem x =
    let flows = draw 2 x in
    let jitter = draw 3 flows.1 in
    let rtt = draw 2 jitter.1 in
    let states = draw 3 rtt.1 in
    let lines = each drawn_state (1 + states.0) states.1 in
    let rules = drawn_rules (1 + states.0) lines.1 in
    let buffer = drawn_buffer rules.1 in
    let least = draw 3 buffer.1 in (
      record {
        flows = 1 + flows.0;
        jitter = jitter.0;
        rtt = 1 + rtt.0;
        states = lines.0;
        rules = rules.0;
        buffer = buffer.0;
        least = least.0;
      },
      least.1,
    )

-- ---- the texts

abbrev pub controller_of : Problem → ControllerSections
controller_of p = record {
  states = p.states;
  rules = p.rules ++ otherwise ∷ [];
  window = sum_of (name_term (over 1 1) (alone (state_name 1)) ∷ []);
  window_line = 0;
  rate = None;
}

abbrev pub whole_pair : ℕ → Pair
whole_pair n = record { num = pos n; den = pos 1 }

abbrev pub pair_if : Option ℕ → Option Pair
pair_if None = None
pair_if (Some n) = Some (whole_pair n)

abbrev pub setting_of : Problem → ℕ → Setting
setting_of p steps = record {
  flows = p.flows;
  steps = steps;
  rtt = p.rtt;
  path = record { rate = whole_pair 1; jitter = p.jitter; buffer = pair_if p.buffer };
  budget = 2000;
}

-- what all flows were served by a step
abbrev pub served_by : ℕ → Name
served_by step = record { text = codes "S"; flow = None; step = Some step }

-- in all steps together at least so much is served
abbrev pub serves_at_least : ℕ → ℕ → Condition
serves_at_least steps least =
    comparison (sum_of (name_term (over 1 1) (served_by steps) ∷ name_term (record { num = negsuc 0; den = pos 1 }) (served_by 0) ∷ []))
    AtLeast (sum_of (number_term (over least 1) ∷ []))

abbrev pub question_of : Problem → ℕ → QuestionSections
question_of p steps = record {
  setting = setting_of p steps;
  rate_line = 0;
  buffer_line = 0;
  assumes = [];
  require = record { cond = serves_at_least steps p.least; line = 0 };
}

-- the problem of a seed
abbrev pub problem_of : ℕ → Problem
problem_of seed = (drawn_problem seed).0

-- the texts of a seed: the controller's, and the question's over so many steps
unfoldable pub controller_text : ℕ → List ℕ
controller_text seed = controller_printed (controller_of (problem_of seed))

unfoldable pub question_text : ℕ → ℕ → List ℕ
question_text seed steps = question_printed (question_of (problem_of seed) steps)
