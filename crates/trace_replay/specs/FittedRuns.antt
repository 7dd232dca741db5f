-- A run in the shape of the question's runs of a controller, and what is found of it first.
use Rattle.std.specs.Prelude.{◌≡◌, List, Result, length}
use Rattle.weighing.specs.First.{first}
use Rattle.ctrl_types.specs.Limits.{IsController}
use Rattle.ctrl_meaning.specs.Limits.{FitsBoth}
use Rattle.ctrl_meaning.specs.Opening.{opening_row}
use Rattle.path_server.specs.Scales.{AreScales}
use Rattle.question_text.specs.Limits.{IsQuestion}
use Rattle.trace_replay.specs.Replaying.{ReplayPlace, found}
use Rattle.trace_replay.specs.declared.fitted.FittedRun.{FittedRun}
use Rattle.trace_replay.specs.declared.replaying.Replayed.{Replayed}

-- the run fits, the opening row is the one of its shape, and the scales are those of the question's path
pub record IsFitted (f : FittedRun) : Type 0 where
  pub controller_in : IsController f.controller.now
  pub question_in : IsQuestion (length f.controller.now.states) f.question.now
  pub run_in : FitsBoth f.controller.now f.question.now.setting f.run.now
  pub scales_in : AreScales f.question.now.setting.path f.scales
  pub opens_at : f.opening ≡ opening_row f.controller.now f.question.now.setting

-- what is found at a place, and first at places in their order
abbrev pub found_at : FittedRun → ReplayPlace → Result (Unit {0}) Replayed
found_at f place = found f.controller.now f.question.now f.run.now place

abbrev pub asks_first : FittedRun → List ReplayPlace → Result (Unit {0}) Replayed
asks_first f ps = first (found f.controller.now f.question.now f.run.now) ps
