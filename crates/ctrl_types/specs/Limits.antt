-- The limits of a controller, which callers owe.
use Rattle.std.specs.Prelude.{◌≡◌, ℕ, ◌-◌, ◌<◌, ◌≤◌, pos, ◌≤ℤ◌, unsigned_abs, Option, Some, None, [], length, All}
use Rattle.std.specs.Int.{◌∣◌}
use Rattle.std.proofs.Common.{get_or}
use Rattle.weighing.specs.Scaled.{IsNum, den_of}
use Rattle.weighing.specs.declared.scales.Num.{Num}
use Rattle.ctrl_types.specs.Tests.{EachDelay, EachExpr, always, comparisons, test_of}
use Rattle.ctrl_types.specs.declared.expressions.Lin.{Lin}
use Rattle.ctrl_types.specs.declared.expressions.Source.{Source}
use Rattle.ctrl_types.specs.declared.expressions.Source.TheVariants.{One, State as StateSource, Acked, Lost}
use Rattle.ctrl_types.specs.declared.gates.Gate.TheVariants.{True}
use Rattle.ctrl_types.specs.declared.controllers.Controller.{Controller}
use Rattle.ctrl_types.specs.declared.controllers.Rule.{Rule}

abbrev pub OptionalLin : (Lin → Type 0) → Option Lin → Type 0
OptionalLin Q None = Unit {0}
OptionalLin Q (Some lin) = Q lin

pub record RuleLins (Q : Lin → Type 0) (rule : Rule) : Type 0 where
  pub guard : EachExpr Q (test_of rule.guard)
  pub sets : All (OptionalLin Q) rule.sets

-- each expression of a controller is such a one
pub record LinsAre (Q : Lin → Type 0) (c : Controller) : Type 0 where
  pub rules : All (RuleLins Q) c.rules
  pub window : Q c.window
  pub rate : OptionalLin Q c.rate

-- each number that a controller has as a coefficient, a constant or a bound is such a one
pub record NumsAre (P : Num → Type 0) (c : Controller) : Type 0 where
  pub states : All (λ s. P s.lo × P s.hi) c.states
  pub lins : LinsAre (λ lin. All (λ t. P t.coef) lin.terms) c

-- each number of rows in a controller's tests of delay is such a one
abbrev pub DelaysAre : (ℕ → Type 0) → Controller → Type 0
DelaysAre P c = All (λ rule. EachDelay P (test_of rule.guard)) c.rules

-- a term's state is among so many
abbrev pub IsSource : ℕ → Source → Type 0
IsSource states One = Unit {0}
IsSource states (StateSource j) = j < states
IsSource states Acked = Unit {0}
IsSource states Lost = Unit {0}

pub record IsLin (states : ℕ) (lin : Lin) : Type 0 where
  pub terms_to : length lin.terms ≤ 16
  pub sources : All (λ t. IsSource states t.of) lin.terms

pub record IsRule (states : ℕ) (rule : Rule) : Type 0 where
  pub comparisons_to : comparisons (test_of rule.guard) ≤ 16
  pub places : length rule.sets ≡ states

abbrev pub no_rule : Rule
no_rule = record { guard = True; sets = [] }

abbrev pub rule_of : Controller → ℕ → Rule
rule_of c j = get_or c.rules j no_rule

pub record IsController (c : Controller) : Type 0 where
  pub states_to : length c.states ≤ 8
  pub rules_from : 1 ≤ length c.rules
  pub rules_to : length c.rules ≤ 16
  pub otherwise : test_of (rule_of c (length c.rules - 1)).guard ≡ always
  pub each_rule : All (IsRule (length c.states)) c.rules
  pub each_lin : LinsAre (IsLin (length c.states)) c
  pub each_num : NumsAre IsNum c
  pub den_from : pos 1 ≤ℤ c.den
  pub den_to : c.den ≤ℤ pos 1000000
  pub den_common : NumsAre (λ n. den_of n ∣ unsigned_abs c.den) c
  pub den_least : (m : ℕ) → NumsAre (λ n. den_of n ∣ m) c → unsigned_abs c.den ∣ m
  pub delay_to : c.delay_max ≤ 8
  pub delay_reached : DelaysAre (λ k. k ≤ c.delay_max) c
  pub delay_least : (m : ℕ) → DelaysAre (λ k. k ≤ m) c → c.delay_max ≤ m
