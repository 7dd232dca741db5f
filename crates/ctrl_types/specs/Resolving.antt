-- Resolving a controller's sections from the top: its controller, or the refusal of the first line that breaks a rule.
use Rattle.std.specs.Prelude.{◌≡◌, ℕ, ℤ, pos, max, List, [], ◌∷◌, ◌++◌, map, slice_get, slice_set, Bool, true, false, ◌||◌, ◌&&◌, not, Option, None, Some, is_some, Result, Ok, Err}
use Rattle.std.specs.List.{list_any}
use Rattle.text_lines.specs.Steps.{◌>>=◌, Fails}
use Rattle.whole.specs.declared.answers.Refusal.{Refusal}
use Rattle.whole.specs.declared.answers.ReadFault.{ReadFault}
use Rattle.whole.specs.declared.answers.ReadFault.TheVariants as faults
use Rattle.weighing.specs.declared.scales.Num.{Num}
use Rattle.weighing.specs.declared.weighings.Rel5.{Rel5}
use Rattle.condition_syntax.specs.Trees.{Condition, always, never, leaf, compares, delayed, opposite, end_of_all, all_of, end_of_any, any_of, EachExpr, EachDelay}
use Rattle.condition_syntax.specs.declared.expressions.Expr.{Expr}
use Rattle.ctrl_syntax.specs.Limits.{IsExpr, IsUnsigned}
use Rattle.ctrl_syntax.specs.declared.syntax.StateLine.{StateLine}
use Rattle.ctrl_syntax.specs.declared.syntax.SetLine.{SetLine}
use Rattle.ctrl_syntax.specs.declared.syntax.RateLine.{RateLine}
use Rattle.ctrl_syntax.specs.Sections.{Rule as WrittenRule, Sections}
use Rattle.ctrl_types.specs.declared.breaches.Breach.{Breach}
use Rattle.ctrl_types.specs.declared.breaches.Breach.TheVariants as breaches
use Rattle.ctrl_types.specs.declared.breaches.Breach.TheVariants.{Reserved, Unknown, Kinds, Bounds, Twice, Otherwise, Denominators}
use Rattle.ctrl_types.specs.declared.breaches.ResolveStop.{ResolveStop}
use Rattle.ctrl_types.specs.declared.breaches.ResolveStop.TheVariants as halts
use Rattle.ctrl_types.specs.declared.controllers.Controller.{Controller}
use Rattle.ctrl_types.specs.declared.controllers.Rule.{Rule}
use Rattle.ctrl_types.specs.declared.controllers.State.{State}
use Rattle.ctrl_types.specs.declared.controllers.Kind.{Kind}
use Rattle.ctrl_types.specs.declared.controllers.Kind.TheVariants.{Amount, Count}
use Rattle.ctrl_types.specs.declared.expressions.Lin.{Lin}
use Rattle.ctrl_types.specs.declared.expressions.LinTerm.{LinTerm}
use Rattle.ctrl_types.specs.declared.expressions.Source.TheVariants.{State as StateSource}
use Rattle.ctrl_types.specs.declared.surveys.Survey.{Survey}
use Rattle.ctrl_types.specs.declared.surveys.Totals.{Totals}
use Rattle.ctrl_types.specs.Tests as tests
use Rattle.ctrl_types.specs.Tests.{Test, test_of}
use Rattle.ctrl_types.specs.Names.{has_name, is_reserved, state_named, lin_of, kind_of, is_kind, kind_of_state}
use Rattle.ctrl_types.specs.Denominators.{with_numbers}
use Rattle.ctrl_types.specs.Statements.{refusal_of, rows_of, is_unfit, is_above, is_empty, ends_otherwise}

-- ---- what calls answer

-- the breach is the one that is found, unless memory ran out
abbrev pub Halts : {Y : Type 0} → ResolveStop → Result Y Breach → Type 0
Halts (halts.Broken breach) read = read ≡ Err breach
Halts halts.NoMemory read = Unit {0}

-- a call gives what is resolved, as it is seen, unless memory runs out
abbrev pub Answers : {X Y : Type 0} → (X → Y) → Result X ResolveStop → Result Y Breach → Type 0
Answers view (Ok x) read = read ≡ Ok (view x)
Answers view (Err halt) read = Halts halt read

-- the same of a call that leaves a state
abbrev pub AnswersLeaving : {X Y S : Type 0} → (X → Y) → Result X ResolveStop → S → Result (Y × S) Breach → Type 0
AnswersLeaving view (Ok x) left read = read ≡ Ok (view x, left)
AnswersLeaving view (Err halt) left read = Halts halt read

abbrev pub GivesSeenUnless : {X Y : Type 0} → (X → Y) → Result X ReadFault → Result Y Refusal → Type 0
GivesSeenUnless view (Ok x) read = read ≡ Ok (view x)
GivesSeenUnless view (Err fault) read = Fails fault read

abbrev pub LeavesUnless : {X Y S : Type 0} → (X → Y) → Result X ReadFault → S → Result (Y × S) Refusal → Type 0
LeavesUnless view (Ok x) left read = read ≡ Ok (view x, left)
LeavesUnless view (Err fault) left read = Fails fault read

-- the refusal of this line, unless memory ran out
abbrev pub fault_of : ResolveStop → ℕ → ReadFault
fault_of (halts.Broken breach) line = faults.Refused (refusal_of breach line)
fault_of halts.NoMemory line = faults.NoMemory

-- a line is refused where it breaks the rule
abbrev pub demand : Bool → Breach → Result (Unit {0}) Breach
demand true breach = Err breach
demand false breach = Ok tt

-- or where what is wanted isn't found
abbrev pub wanted : {X : Type 0} → Option X → Breach → Result X Breach
wanted None breach = Err breach
wanted (Some x) breach = Ok x

-- a breach on this line
abbrev pub on_line : {X : Type 0} → ℕ → Result X Breach → Result X Refusal
on_line line (Ok x) = Ok x
on_line line (Err breach) = Err (refusal_of breach line)

-- the expressions and numbers of a condition are within their limits
abbrev pub AreReadable : Condition → Type 0
AreReadable c = EachExpr IsExpr c × EachDelay IsUnsigned c

abbrev pub EachReadable : List Condition → Type 0
EachReadable [] = Unit {0}
EachReadable (c ∷ cs) = AreReadable c × EachReadable cs

-- ---- expressions that are resolved

-- whether a name of this kind stands in it
unfoldable pub lin_has : List StateLine → Kind → Lin → Bool
lin_has states kind lin = list_any (λ (t : LinTerm). is_kind kind (kind_of states t.of)) lin.terms

abbrev pub lin_numbers : Lin → List Num
lin_numbers lin = map (λ (t : LinTerm). t.coef) lin.terms

unfoldable pub with_lin : Option ℕ → Lin → Option ℕ
with_lin s lin = with_numbers s (lin_numbers lin)

-- ---- guards

unfoldable pub lins_mix : List StateLine → Lin → Lin → Bool
lins_mix states left right = (lin_has states Amount left || lin_has states Amount right) && (lin_has states Count left || lin_has states Count right)

unfoldable pub with_comparison : List StateLine → Lin → Lin → Survey → Survey
with_comparison states left right s = record {
  mixed = s.mixed || lins_mix states left right;
  unfit = s.unfit;
  delay_max = s.delay_max;
  den = with_lin (with_lin s.den left) right;
}

unfoldable pub with_delay : Num → Survey → Survey
with_delay q s = record { mixed = s.mixed; unfit = s.unfit || is_unfit q; delay_max = max s.delay_max (rows_of q); den = s.den }

abbrev pub Gated : Type 0
Gated = Result (Test × Survey) Breach

unfoldable pub comparison_by : List StateLine → Expr → Rel5 → Expr → Survey → Gated
comparison_by states left rel right s = do
  x ← wanted (lin_of states true left) Unknown
  y ← wanted (lin_of states true right) Unknown
  Ok (tests.comparison x rel y, with_comparison states x y s)

abbrev pub opposite_of : Gated → Gated
opposite_of read = read >>= λ t. Ok (tests.opposite t.0, t.1)

unfoldable pub gate_by : List StateLine → Condition → Survey → Gated
gate_by states always s = Ok (tests.always, s)
gate_by states never s = Ok (tests.never, s)
gate_by states (leaf (compares left rel right)) s = comparison_by states left rel right s
gate_by states (leaf (delayed q)) s = Ok (tests.delay (rows_of q), with_delay q s)
gate_by states (opposite c) s = opposite_of (gate_by states c s)
gate_by states end_of_all s = Ok (tests.end_of_all, s)
gate_by states (all_of c rest) s = do
  t ← gate_by states c s
  u ← gate_by states rest t.1
  Ok (tests.all_of t.0 u.0, u.1)
gate_by states end_of_any s = Ok (tests.end_of_any, s)
gate_by states (any_of c rest) s = do
  t ← gate_by states c s
  u ← gate_by states rest t.1
  Ok (tests.any_of t.0 u.0, u.1)

-- the parts of a condition, from the left
unfoldable pub gates_by : List StateLine → List Condition → Survey → Result (List Test × Survey) Breach
gates_by states [] s = Ok ([], s)
gates_by states (c ∷ cs) s = do
  t ← gate_by states c s
  ts ← gates_by states cs t.1
  Ok (t.0 ∷ ts.0, ts.1)

abbrev pub survey_from : Totals → Survey
survey_from totals = record { mixed = false; unfit = false; delay_max = totals.delay_max; den = Some totals.den }

-- what is left of a survey in which nothing is wrong
unfoldable pub surveyed : Survey → Result Totals Breach
surveyed s = do
  kinds ← demand s.mixed Kinds
  rows ← demand s.unfit breaches.Delay
  den ← wanted s.den Denominators
  Ok (record { delay_max = s.delay_max; den = den })

unfoldable pub condition_by : List StateLine → Condition → Totals → Result (Test × Totals) Breach
condition_by states c totals = do
  t ← gate_by states c (survey_from totals)
  left ← surveyed t.1
  Ok (t.0, left)

unfoldable pub guard_by : List StateLine → Bool → Option Condition → Totals → Result (Test × Totals) Breach
guard_by states is_last None totals = do
  last ← demand (not is_last) Otherwise
  Ok (tests.always, totals)
guard_by states is_last (Some c) totals = condition_by states c totals

-- ---- lines

abbrev pub state_of : StateLine → State
state_of s = record { name = s.name; kind = kind_of_state s; lo = s.lo; hi = s.hi }

-- the state of a line; whether an earlier state has its name
unfoldable pub state_by : Bool → StateLine → ℕ → Result (State × ℕ) Breach
state_by taken s den = do
  free ← demand (is_reserved s.name || taken) Reserved
  ordered ← demand (is_above s.lo s.hi) Bounds
  next ← wanted (with_numbers (Some den) (s.lo ∷ s.hi ∷ [])) Denominators
  Ok (state_of s, next)

unfoldable pub states_by : List StateLine → List StateLine → ℕ → Result (List State × ℕ) Refusal
states_by earlier [] den = Ok ([], den)
states_by earlier (s ∷ states) den = do
  x ← on_line s.line (state_by (list_any (has_name s.name) earlier) s den)
  xs ← states_by (earlier ++ s ∷ []) states x.1
  Ok (x.0 ∷ xs.0, xs.1)

-- whether the kinds of an assignment's target and of its expression's names differ
unfoldable pub set_mixes : List StateLine → ℕ → Lin → Bool
set_mixes states j lin =
    (is_kind Amount (kind_of states (StateSource j)) || lin_has states Amount lin)
    && (is_kind Count (kind_of states (StateSource j)) || lin_has states Count lin)

-- whether the place of a state has an expression
abbrev pub is_filled : Option (Option Lin) → Bool
is_filled None = false
is_filled (Some place) = is_some place

abbrev pub Places : Type 0
Places = List (Option Lin)

-- no state is set
abbrev pub unset : List StateLine → Places
unset states = map (λ (s : StateLine). None) states

unfoldable pub set_by : List StateLine → SetLine → Places → ℕ → Result (Places × ℕ) Breach
set_by states s places den = do
  j ← wanted (state_named states s.name) Unknown
  lin ← wanted (lin_of states true s.expr) Unknown
  kinds ← demand (set_mixes states j lin) Kinds
  once ← demand (is_filled (slice_get places j)) Twice
  next ← wanted (with_lin (Some den) lin) Denominators
  Ok (slice_set places j (Some lin), next)

unfoldable pub sets_by : List StateLine → List SetLine → Places → ℕ → Result (Places × ℕ) Refusal
sets_by states [] places den = Ok (places, den)
sets_by states (s ∷ sets) places den = do
  x ← on_line s.line (set_by states s places den)
  sets_by states sets x.0 x.1

-- a rule whose guard is seen as a tree
pub record SeenRule : Type 0 where
  pub guard : Test
  pub sets : Places

abbrev pub rule_seen : Rule → SeenRule
rule_seen rule = record { guard = test_of rule.guard; sets = rule.sets }

unfoldable pub rule_by : List StateLine → Bool → WrittenRule → Totals → Result (SeenRule × Totals) Refusal
rule_by states is_last r totals = do
  guard ← on_line r.line (guard_by states is_last r.guard totals)
  sets ← sets_by states r.sets (unset states) guard.1.den
  Ok (record { guard = guard.0; sets = sets.0 }, record { delay_max = guard.1.delay_max; den = sets.1 })

unfoldable pub rules_by : List StateLine → List WrittenRule → Totals → Result (List SeenRule × Totals) Refusal
rules_by states [] totals = Ok ([], totals)
rules_by states (r ∷ rules) totals = do
  x ← rule_by states (is_empty rules) r totals
  xs ← rules_by states rules x.1
  Ok (x.0 ∷ xs.0, xs.1)

-- the window or the rate; `unended` says that the last rule is no `otherwise`, at the window
unfoldable pub bound_by : List StateLine → Bool → Expr → ℕ → Result (Lin × ℕ) Breach
bound_by states unended expr den = do
  lin ← wanted (lin_of states false expr) Unknown
  kinds ← demand (lin_has states Count lin && lin_has states Amount lin) Kinds
  ended ← demand unended Otherwise
  next ← wanted (with_lin (Some den) lin) Denominators
  amount ← demand (lin_has states Count lin) breaches.Count
  Ok (lin, next)

unfoldable pub rate_by : List StateLine → Option RateLine → ℕ → Result (Option Lin × ℕ) Refusal
rate_by states None den = Ok (None, den)
rate_by states (Some r) den = do
  x ← on_line r.line (bound_by states false r.expr den)
  Ok (Some x.0, x.1)

-- a controller whose guards are seen as trees
pub record SeenController : Type 0 where
  pub states : List State
  pub rules : List SeenRule
  pub window : Lin
  pub rate : Option Lin
  pub delay_max : ℕ
  pub den : ℤ

abbrev pub controller_seen : Controller → SeenController
controller_seen c = record { states = c.states; rules = map rule_seen c.rules; window = c.window; rate = c.rate; delay_max = c.delay_max; den = c.den }

unfoldable pub controller_by : Sections → Result SeenController Refusal
controller_by sections = do
  states ← states_by [] sections.states 1
  rules ← rules_by sections.states sections.rules (record { delay_max = 0; den = states.1 })
  window ← on_line sections.window_line (bound_by sections.states (not (ends_otherwise sections.rules)) sections.window rules.1.den)
  rate ← rate_by sections.states sections.rate window.1
  Ok (record { states = states.0; rules = rules.0; window = window.0; rate = rate.0; delay_max = rules.1.delay_max; den = pos rate.1 })
