-- The controller that a text means.
use Rattle.std.specs.Prelude.{◌≡◌, ℕ, pos, max, List, [], ◌∷◌, map, true, false, Option, None, Some, Result, Ok, Err}
use Rattle.std.specs.List.{find, flat_map, AllZip}
use Rattle.std.specs.Option.{option_and_then}
use Rattle.whole.specs.declared.answers.ReadFault.{ReadFault}
use Rattle.whole.specs.declared.answers.ReadFault.TheVariants.{Refused, NoMemory}
use Rattle.whole.specs.declared.answers.Refusal.{Refusal}
use Rattle.weighing.specs.declared.scales.Num.{Num}
use Rattle.weighing.specs.declared.weighings.Rel5.{Rel5}
use Rattle.condition_syntax.specs.Trees as conditions
use Rattle.condition_syntax.specs.Trees.{Condition}
use Rattle.condition_syntax.specs.declared.expressions.Expr.{Expr}
use Rattle.ctrl_syntax.specs.declared.syntax.StateLine.{StateLine}
use Rattle.ctrl_syntax.specs.declared.syntax.SetLine.{SetLine}
use Rattle.ctrl_syntax.specs.declared.syntax.RateLine.{RateLine}
use Rattle.ctrl_syntax.specs.Sections.{Rule, Sections}
use Rattle.ctrl_types.specs.declared.controllers.Controller.{Controller}
use Rattle.ctrl_types.specs.declared.expressions.Lin.{Lin}
use Rattle.ctrl_types.specs.Tests as tests
use Rattle.ctrl_types.specs.Tests.{Test}
use Rattle.ctrl_types.specs.Names.{lin_of}
use Rattle.ctrl_types.specs.Denominators.{least_common}
use Rattle.ctrl_types.specs.Statements.{rows_of, sets_name, numbers, sayings}
use Rattle.ctrl_types.specs.Resolving.{SeenRule, SeenController, controller_seen, state_of}

-- a condition with its names replaced, where the signals are known
pub data Means (states : List StateLine) : Condition → Test → Type 0 where
  always : Means states conditions.always tests.always
  never : Means states conditions.never tests.never
  comparison : {left right : Expr} {x y : Lin} (rel : Rel5) → lin_of states true left ≡ Some x → lin_of states true right ≡ Some y
      → Means states (conditions.comparison left rel right) (tests.comparison x rel y)
  delay : (q : Num) → Means states (conditions.delay q) (tests.delay (rows_of q))
  opposite : {c : Condition} {t : Test} → Means states c t → Means states (conditions.opposite c) (tests.opposite t)
  end_of_all : Means states conditions.end_of_all tests.end_of_all
  all_of : {c rest : Condition} {t u : Test} → Means states c t → Means states rest u → Means states (conditions.all_of c rest) (tests.all_of t u)
  end_of_any : Means states conditions.end_of_any tests.end_of_any
  any_of : {c rest : Condition} {t u : Test} → Means states c t → Means states rest u → Means states (conditions.any_of c rest) (tests.any_of t u)

-- `otherwise` always holds
abbrev pub GuardMeans : List StateLine → Option Condition → Test → Type 0
GuardMeans states None t = t ≡ tests.always
GuardMeans states (Some c) t = Means states c t

-- the expression of the line that sets a state, if one does
abbrev pub place_of : List StateLine → List SetLine → StateLine → Option Lin
place_of states sets s = option_and_then (λ (l : SetLine). lin_of states true l.expr) (find (sets_name s.name) sets)

pub record RuleMeans (states : List StateLine) (line : Rule) (rule : SeenRule) : Type 0 where
  pub guard : GuardMeans states line.guard rule.guard
  pub sets : rule.sets ≡ map (place_of states line.sets) states

abbrev pub RateMeans : List StateLine → Option RateLine → Option Lin → Type 0
RateMeans states None None = Unit {0}
RateMeans states None (Some lin) = ⊥
RateMeans states (Some r) None = ⊥
RateMeans states (Some r) (Some lin) = lin_of states false r.expr ≡ Some lin

-- the greatest number of rows in a condition's tests of delay, or this one
abbrev pub greatest_delay : ℕ → Condition → ℕ
greatest_delay k conditions.always = k
greatest_delay k conditions.never = k
greatest_delay k (conditions.leaf (conditions.compares left rel right)) = k
greatest_delay k (conditions.leaf (conditions.delayed q)) = max k (rows_of q)
greatest_delay k (conditions.opposite c) = greatest_delay k c
greatest_delay k conditions.end_of_all = k
greatest_delay k (conditions.all_of c rest) = greatest_delay (greatest_delay k c) rest
greatest_delay k conditions.end_of_any = k
greatest_delay k (conditions.any_of c rest) = greatest_delay (greatest_delay k c) rest

abbrev pub guard_delay : ℕ → Option Condition → ℕ
guard_delay k None = k
guard_delay k (Some c) = greatest_delay k c

abbrev pub rules_delay : ℕ → List Rule → ℕ
rules_delay k [] = k
rules_delay k (r ∷ rules) = rules_delay (guard_delay k r.guard) rules

-- the controller of a text, with its guards seen as trees
pub record SeenResolves (sections : Sections) (c : SeenController) : Type 0 where
  pub states : c.states ≡ map state_of sections.states
  pub rules : AllZip (RuleMeans sections.states) sections.rules c.rules
  pub window : lin_of sections.states false sections.window ≡ Some c.window
  pub rate : RateMeans sections.states sections.rate c.rate
  pub delay_max : c.delay_max ≡ rules_delay 0 sections.rules
  pub den : c.den ≡ pos (least_common (flat_map numbers (sayings sections)))

-- the controller that the text means
abbrev pub Resolves : Sections → Controller → Type 0
Resolves sections c = SeenResolves sections (controller_seen c)

-- a call is refused so, unless memory runs out
abbrev pub RefusesUnless : {X : Type 0} → Refusal → Result X ReadFault → Type 0
RefusesUnless r (Ok x) = ⊥
RefusesUnless r (Err (Refused s)) = s ≡ r
RefusesUnless r (Err NoMemory) = Unit {0}
