-- What the names of a question stand for in a run, and how they are weighed.
use Rattle.std.specs.Prelude.{ℕ, zero, suc, ◌+◌, ◌<◌, ◌≤◌, ℤ, List, [], ◌∷◌, length}
use Rattle.run_rows.specs.Runs.{arrived, flow_count, flow_of, lost, over_flows, served, state_of, waste}
use Rattle.run_rows.specs.declared.rows.Run.{Run}
use Rattle.claims.specs.Subjects.{Subject, constant, of_credit, of_waste, of_arrivals, of_service, of_losses, of_state, each_flow}
use Rattle.question_text.specs.declared.names.Rows.{Rows}
use Rattle.question_text.specs.declared.names.Count.{Count}
use Rattle.question_text.specs.declared.names.Count.TheVariants.{Arrived, Served, Lost}
use Rattle.question_text.specs.declared.conditions.Of.{Of}
use Rattle.question_text.specs.declared.conditions.Of.TheVariants.{One, Credit, W, A, S, L, X}

-- the row of a step
abbrev pub row_at : Rows → ℕ → ℕ
row_at at step = at.opening + step

-- what a flow has on a row
abbrev pub counted : Run → Count → ℕ → ℕ → ℤ
counted r Arrived i f = arrived r i f
counted r Served i f = served r i f
counted r Lost i f = lost r i f

-- what a flow has or, for flow 0, the sum of what flows 1 to n have
abbrev pub flow_amount : (ℕ → ℤ) → ℕ → ℕ → ℤ
flow_amount entry n zero = over_flows entry n
flow_amount entry n (suc f) = entry (suc f)

-- what a name stands for, in units of 1 / over; a constant is a multiple of over
abbrev pub amount : Run → Rows → Of → ℤ
amount r at One = r.over
amount r at Credit = r.credit
amount r at (W t) = waste r (row_at at t)
amount r at (A f t) = flow_amount (arrived r (row_at at t)) (flow_count r 0) f
amount r at (S f t) = flow_amount (served r (row_at at t)) (flow_count r 0) f
amount r at (L f t) = flow_amount (lost r (row_at at t)) (flow_count r 0) f
amount r at (X j f t) = state_of r (row_at at t) f j

-- a multiple of it, as terms: the sum over n flows is one term for each flow
abbrev pub flow_terms : {S T : Type 0} → (ℤ → S → T) → ℤ → (ℕ → S) → ℕ → ℕ → List T
flow_terms term k of n zero = each_flow (λ f. term k (of f) ∷ []) n
flow_terms term k of n (suc f) = term k (of (suc f)) ∷ []

abbrev pub of_terms : {T : Type 0} → (ℤ → Subject → T) → ℕ → Rows → ℤ → Of → List T
of_terms term n at k One = term k constant ∷ []
of_terms term n at k Credit = term k of_credit ∷ []
of_terms term n at k (W t) = term k (of_waste (row_at at t)) ∷ []
of_terms term n at k (A f t) = flow_terms term k (of_arrivals (row_at at t)) n f
of_terms term n at k (S f t) = flow_terms term k (of_service (row_at at t)) n f
of_terms term n at k (L f t) = flow_terms term k (of_losses (row_at at t)) n f
of_terms term n at k (X j f t) = term k (of_state (row_at at t) f j) ∷ []

-- the run has the flow, or the sum, at the step
pub record HasFlow (r : Run) (at : Rows) (f t : ℕ) : Type 0 where
  pub flow_to : f ≤ flow_count r 0
  pub row_in : row_at at t < length r.rows

-- the run has the state of the flow at the step
pub record HasState (r : Run) (at : Rows) (j f t : ℕ) : Type 0 where
  pub flow_from : 1 ≤ f
  pub flow_to : f ≤ flow_count r 0
  pub row_in : row_at at t < length r.rows
  pub state_in : j < length (flow_of r (row_at at t) f).x

-- the run has what the name stands for
abbrev pub IsOf : Run → Rows → Of → Type 0
IsOf r at One = Unit {0}
IsOf r at Credit = Unit {0}
IsOf r at (W t) = row_at at t < length r.rows
IsOf r at (A f t) = HasFlow r at f t
IsOf r at (S f t) = HasFlow r at f t
IsOf r at (L f t) = HasFlow r at f t
IsOf r at (X j f t) = HasState r at j f t
