-- What the code's steps need of a controller and a run.
use Rattle.std.specs.Prelude.{◌≡◌, ℕ, ◌+◌, ◌<◌, ◌≤◌, length, Option, Some, None}
use Rattle.run_rows.specs.Runs.{Fits, IsRun, Shaped, flow_of}
use Rattle.run_rows.specs.declared.rows.Run.{Run}
use Rattle.path_server.specs.Shapes.{shape_of}
use Rattle.path_server.specs.declared.settings.Setting.{Setting}
use Rattle.ctrl_types.specs.Limits.{rule_of}
use Rattle.ctrl_types.specs.Tests.{test_of}
use Rattle.ctrl_types.specs.declared.controllers.Controller.{Controller}
use Rattle.ctrl_types.specs.declared.expressions.Lin.{Lin}
use Rattle.ctrl_meaning.specs.Expressions.{AreTerms, scale_with}
use Rattle.ctrl_meaning.specs.Guards.{CanWeigh}
use Rattle.ctrl_meaning.specs.Readings.{IsReading}
use Rattle.ctrl_meaning.specs.Steps.{set_of}
use Rattle.ctrl_meaning.specs.declared.readings.ReadPoint.{ReadPoint}

-- the run has the shape of the setting's runs for this controller
abbrev pub HasShape : Controller → Setting → Run → Type 0
HasShape c s r = Shaped (shape_of s (length c.states) c.delay_max) r

-- and its entries are within 128 bits
abbrev pub FitsBoth : Controller → Setting → Run → Type 0
FitsBoth c s r = Fits (shape_of s (length c.states) c.delay_max) r

-- a row on which the controller has taken a step
pub record IsControlled (c : Controller) (s : Setting) (row : ℕ) : Type 0 where
  pub after_opening : (shape_of s (length c.states) c.delay_max).h < row
  pub within : row ≤ (shape_of s (length c.states) c.delay_max).h + s.steps

abbrev pub CanSum : Run → ReadPoint → Option Lin → Type 0
CanSum r at None = Unit {0}
CanSum r at (Some lin) = AreTerms r at lin.terms × (scale_with 1 lin.terms ≤ 1000000)

-- guards and assignments can be weighed at this reading
pub record CanStep (c : Controller) (r : Run) (at : ReadPoint) : Type 0 where
  pub run_in : IsRun r
  pub at_in : IsReading r at
  pub states_to : length c.states ≤ 8
  pub rules_from : 1 ≤ length c.rules
  pub rules_to : length c.rules ≤ 16
  pub guards : (k : ℕ) → k < length c.rules → CanWeigh r at (test_of (rule_of c k).guard)
  pub places : (k : ℕ) → k < length c.rules → length (rule_of c k).sets ≡ length c.states
  pub sets : (k j : ℕ) → k < length c.rules → j < length c.states → CanSum r at (set_of c k j)
  pub states_before : length (flow_of r at.states at.flow).x ≡ length c.states
  pub states_here : length (flow_of r at.row at.flow).x ≡ length c.states

-- window and rate can be weighed at this reading
pub record CanSend (c : Controller) (r : Run) (at : ReadPoint) : Type 0 where
  pub run_in : IsRun r
  pub at_in : IsReading r at
  pub window_in : CanSum r at (Some c.window)
  pub rate_in : CanSum r at c.rate
