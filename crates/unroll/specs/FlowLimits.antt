-- What the builders of a controller's formulas need of the shape, of where they read, and of what they read.
use Rattle.std.specs.Prelude.{ℕ, ◌<◌, ◌≤◌, Option, Some, None, List, All, length}
use Rattle.condition_tree.specs.Trees.{EachLeaf}
use Rattle.run_rows.specs.Columns.{rows_of}
use Rattle.run_rows.specs.Limits.{IsWithin}
use Rattle.run_rows.specs.Runs.{state_count}
use Rattle.run_rows.specs.declared.shapes.Shape.{Shape}
use Rattle.ctrl_types.specs.Limits.{rule_of}
use Rattle.ctrl_types.specs.Tests.{Leaf, Test, compares, delayed, test_of}
use Rattle.ctrl_types.specs.declared.controllers.Controller.{Controller}
use Rattle.ctrl_types.specs.declared.expressions.Lin.{Lin}
use Rattle.ctrl_types.specs.declared.expressions.LinTerm.{LinTerm}
use Rattle.ctrl_meaning.specs.Expressions.{IsTerm, scale_of_two, scale_with}
use Rattle.ctrl_meaning.specs.Steps.{set_of}
use Rattle.ctrl_meaning.specs.declared.readings.ReadPoint.{ReadPoint}

-- the shape has the rows and the flow, and the row before the one that the sender hears of
pub record CanRead (s : Shape) (at : ReadPoint) : Type 0 where
  pub shape_in : IsWithin s
  pub row_from : 1 ≤ at.row
  pub row_in : at.row < rows_of s
  pub states_in : at.states < rows_of s
  pub heard_from : 1 ≤ at.heard
  pub heard_in : at.heard < rows_of s
  pub flow_from : 1 ≤ at.flow
  pub flow_to : at.flow ≤ s.flows

abbrev pub AreTerms : Shape → ReadPoint → List LinTerm → Type 0
AreTerms s at terms = All (IsTerm (state_count s at.states)) terms

-- at most 16 terms of what the shape has
pub record CanAdd (s : Shape) (at : ReadPoint) (lin : Lin) : Type 0 where
  pub terms_to : length lin.terms ≤ 16
  pub terms_in : AreTerms s at lin.terms

-- and with a scale of its own
pub record CanSum (s : Shape) (at : ReadPoint) (lin : Lin) : Type 0 where
  pub lin_in : CanAdd s at lin
  pub scale_to : scale_with 1 lin.terms ≤ 1000000

pub record CanCompare (s : Shape) (at : ReadPoint) (left right : Lin) : Type 0 where
  pub left_in : CanAdd s at left
  pub right_in : CanAdd s at right
  pub scale_to : scale_of_two left right ≤ 1000000

abbrev pub CanAsk : Shape → ReadPoint → Leaf Lin ℕ → Type 0
CanAsk s at (compares left rel right) = CanCompare s at left right
CanAsk s at (delayed k) = k ≤ at.heard

abbrev pub CanTest : Shape → ReadPoint → Test → Type 0
CanTest s at t = EachLeaf (CanAsk s at) t

abbrev pub CanSet : Shape → ReadPoint → Option Lin → Type 0
CanSet s at None = Unit {0}
CanSet s at (Some lin) = CanSum s at lin

-- the guards and assignments of a controller
pub record CanStep (s : Shape) (at : ReadPoint) (c : Controller) : Type 0 where
  pub read : CanRead s at
  pub states_to : length c.states ≤ 8
  pub rules_to : length c.rules ≤ 16
  pub states_here : length c.states ≤ state_count s at.row
  pub states_before : length c.states ≤ state_count s at.states
  pub guards : (k : ℕ) → k < length c.rules → CanTest s at (test_of (rule_of c k).guard)
  pub places : (k : ℕ) → k < length c.rules → length c.states ≤ length (rule_of c k).sets
  pub sets : (k j : ℕ) → k < length c.rules → j < length c.states → CanSet s at (set_of c k j)

-- the window and the rate
pub record CanSend (s : Shape) (at : ReadPoint) (c : Controller) : Type 0 where
  pub read : CanRead s at
  pub window_in : CanSum s at c.window
  pub rate_in : CanSet s at c.rate
