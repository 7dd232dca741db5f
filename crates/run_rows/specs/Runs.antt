-- A run in the logic is the record of its fields, over unbounded whole numbers: what it holds, and the shape that it has.
use Rattle.std.specs.Prelude.{◌≡◌, ℕ, zero, suc, ◌+◌, ◌-◌, ◌<◌, unsigned_abs, ◌≤ℤ◌, ◌+ℤ◌, ℤ, pos, ◌^◌, [], length, nat_lt, if◌then◌else◌, All}
use Rattle.std.proofs.Common.{get_or}
use Rattle.run_rows.specs.Limits.{IsWithin}
use Rattle.run_rows.specs.declared.shapes.Shape.{Shape}
use Rattle.run_rows.specs.declared.rows.Run.{Run}
use Rattle.run_rows.specs.declared.rows.Row.{Row}
use Rattle.run_rows.specs.declared.rows.FlowRow.{FlowRow}

abbrev pub no_flow : FlowRow
no_flow = record { a = pos 0; s = pos 0; l = pos 0; x = [] }

abbrev pub no_row : Row
no_row = record { w = pos 0; flows = [] }

-- row i; past the end, a row with nothing in it
abbrev pub row_of : Run → ℕ → Row
row_of r i = get_or r.rows i no_row

-- flow f of row i, counted from 1
abbrev pub flow_of : Run → ℕ → ℕ → FlowRow
flow_of r i f = get_or (row_of r i).flows (f - 1) no_flow

-- how many flows stand on row i; a run has as many on each row as on row 0
abbrev pub flow_count : Run → ℕ → ℕ
flow_count r i = length (row_of r i).flows

-- the entries, by row and flow
abbrev pub waste : Run → ℕ → ℤ
waste r i = (row_of r i).w

abbrev pub arrived : Run → ℕ → ℕ → ℤ
arrived r i f = (flow_of r i f).a

abbrev pub served : Run → ℕ → ℕ → ℤ
served r i f = (flow_of r i f).s

abbrev pub lost : Run → ℕ → ℕ → ℤ
lost r i f = (flow_of r i f).l

abbrev pub state_of : Run → ℕ → ℕ → ℕ → ℤ
state_of r i f j = get_or (flow_of r i f).x j (pos 0)

-- the sum over flows 1 to n
unfoldable pub over_flows : (ℕ → ℤ) → ℕ → ℤ
over_flows entry zero = pos 0
over_flows entry (suc n) = over_flows entry n +ℤ entry (suc n)

-- the sizes that the code's numbers have, but for the one number whose size is past the others'
abbrev pub IsEntry : ℤ → Type 0
IsEntry z = unsigned_abs z < 2 ^ 127

-- how many states a flow has on row i
abbrev pub state_count : Shape → ℕ → ℕ
state_count shape i = if nat_lt i shape.h then 0 else shape.states

-- ---- a shape: how many rows, flows and states. The numbers have any size

pub record RowShaped (flows states : ℕ) (row : Row) : Type 0 where
  pub flow_count : length row.flows ≡ flows
  pub each_flow : All (λ (flow : FlowRow). length flow.x ≡ states) row.flows

pub record Shaped (shape : Shape) (r : Run) : Type 0 where
  pub over_from : pos 1 ≤ℤ r.over
  pub row_count : length r.rows ≡ shape.h + shape.t + 1
  pub each_row : (i : ℕ) → i < length r.rows → RowShaped shape.flows (state_count shape i) (row_of r i)

-- ---- entries within 128 bits, as those of the code are

pub record FlowBounded (flow : FlowRow) : Type 0 where
  pub a_in : IsEntry flow.a
  pub s_in : IsEntry flow.s
  pub l_in : IsEntry flow.l
  pub x_in : All IsEntry flow.x

pub record RowBounded (row : Row) : Type 0 where
  pub w_in : IsEntry row.w
  pub each_flow : All FlowBounded row.flows

pub record Bounded (r : Run) : Type 0 where
  pub over_in : IsEntry r.over
  pub credit_in : IsEntry r.credit
  pub each_row : (i : ℕ) → i < length r.rows → RowBounded (row_of r i)

-- ---- what the code asks of a flow, of a row and of a run: both

pub record FlowFits (states : ℕ) (flow : FlowRow) : Type 0 where
  pub shaped : length flow.x ≡ states
  pub bounded : FlowBounded flow

pub record RowFits (flows states : ℕ) (row : Row) : Type 0 where
  pub shaped : RowShaped flows states row
  pub bounded : RowBounded row

pub record Fits (shape : Shape) (r : Run) : Type 0 where
  pub shaped : Shaped shape r
  pub bounded : Bounded r

-- a run of some shape within the limits
pub record IsRun (r : Run) : Type 0 where
  pub shape : Shape
  pub within : IsWithin shape
  pub fits : Fits shape r
