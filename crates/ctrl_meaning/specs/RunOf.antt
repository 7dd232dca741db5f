-- What it is to be a run of a controller's flows on an admitted path, over all whole numbers, whatever their size: in parts.
use Rattle.std.specs.Prelude.{ℕ, ◌≤◌}
use Rattle.run_rows.specs.declared.rows.Run.{Run}
use Rattle.path_server.specs.Rules.{Admitted}
use Rattle.path_server.specs.declared.settings.Setting.{Setting}
use Rattle.ctrl_types.specs.declared.controllers.Controller.{Controller}
use Rattle.ctrl_meaning.specs.Limits.{HasShape, IsControlled}
use Rattle.ctrl_meaning.specs.Meaning.{IsStep, OpensWithin}

-- the row is a step of each flow
abbrev pub AreSteps : Controller → Setting → Run → ℕ → Type 0
AreSteps c s r i = (f : ℕ) → 1 ≤ f → f ≤ s.flows → (rule : ℕ) × IsStep c s r i f rule

-- each flow opens within its ranges
abbrev pub Opens : Controller → Setting → Run → Type 0
Opens c s r = (f : ℕ) → 1 ≤ f → f ≤ s.flows → OpensWithin c s r f

-- a run that opens with any states: it has the setting's shape, the path admits it, and each controlled row is a step of
-- each flow
pub record FreeRunOf (c : Controller) (s : Setting) (r : Run) : Type 0 where
  pub shaped : HasShape c s r
  pub admitted : Admitted s.path r
  pub stepped : (i : ℕ) → IsControlled c s i → AreSteps c s r i

-- a run of the controller's flows: and each flow opens within its ranges
pub record RunOf (c : Controller) (s : Setting) (r : Run) : Type 0 where
  pub free : FreeRunOf c s r
  pub opened : Opens c s r
