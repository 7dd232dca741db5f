-- Where the names of an expression are read.
use Rattle.std.specs.Prelude.{ℕ, ◌-◌, ◌<◌, ◌≤◌, length}
use Rattle.claims.specs.Subjects.{Subject, of_losses}
use Rattle.run_rows.specs.Runs.{flow_count, flow_of}
use Rattle.run_rows.specs.declared.rows.Run.{Run}
use Rattle.ctrl_meaning.specs.declared.readings.ReadPoint.{ReadPoint}

abbrev pub reading : ℕ → ℕ → ℕ → ℕ → ReadPoint
reading row flow states heard = record { row = row; flow = flow; states = states; heard = heard }

-- the losses that the flow hears of on the row, and those that it heard of on the row before
abbrev pub losses_heard : ReadPoint → Subject
losses_heard at = of_losses at.heard at.flow

abbrev pub losses_heard_before : ReadPoint → Subject
losses_heard_before at = of_losses (at.heard - 1) at.flow

-- the rows and the flow stand in the run, and so does the row before the one that the sender hears of
pub record IsReading (r : Run) (at : ReadPoint) : Type 0 where
  pub row_from : 1 ≤ at.row
  pub row_in : at.row < length r.rows
  pub states_in : at.states < length r.rows
  pub heard_from : 1 ≤ at.heard
  pub heard_in : at.heard < length r.rows
  pub flow_from : 1 ≤ at.flow
  pub flow_to : at.flow ≤ flow_count r 0

-- how many states the flow has where they are read
abbrev pub states_at : Run → ReadPoint → ℕ
states_at r at = length (flow_of r at.states at.flow).x
