-- In which row a column is, and in which flow a place of a row: by division.
use Rattle.std.proofs.Common.{◌≡◌, ℕ, suc, ◌+◌, ◌*◌, ◌-◌, ◌/◌, ◌%◌, ◌<◌, ◌≤◌, Some, length, ◌∙◌, ap, arith}
use Rattle.std.proofs.Math.Nat.{lt_of_mul-lt-mul_right}
use Rattle.std.specs.Prelude.{slice_get}
use Rattle.run_rows.specs.Columns.{entries_before, entries_of, flow_entries, row_entries, rows_of}
use Rattle.run_rows.specs.Runs.{state_count}
use Rattle.run_rows.specs.declared.columns.Entry.{Entry}
use Rattle.run_rows.specs.declared.shapes.Shape.{Shape}
use Rattle.run_rows.proofs.EntryPlaces.{flow_place, length-entries_before, length-entries_before-suc, length-row_entries}

-- the columns of a row: from its waste to where the next row begins
pub record HoldsColumn (s : Shape) (row c : ℕ) : Type 0 where
  pub row_in : row < rows_of s
  pub from : length (entries_before s row) ≤ c
  pub to : c < length (entries_before s (row + 1))

-- what division gives of the number of whole parts
quotient_below : (x w n : ℕ) → 0 < w → x < n * w → x / w < n
quotient_below x w n some less = lt_of_mul-lt-mul_right w (let e : x / w * w < n * w = omega arith in e)

-- a row of the preamble has the waste and three entries a flow
pub preamble_row : (s : Shape) (c : ℕ) → 1 ≤ c → c - 1 < s.h * (1 + 3 * s.flows) → HoldsColumn s ((c - 1) / (1 + 3 * s.flows)) c
preamble_row s c some less =
    let w : ℕ = 1 + 3 * s.flows in
    let q : ℕ = (c - 1) / w in
    let row : q < s.h = quotient_below (c - 1) w s.h (omega arith) less in
    let none : q - s.h ≡ 0 = omega arith in
    let none_more : q + 1 - s.h ≡ 0 = omega arith in
    let parts : w * q + (c - 1) % w ≡ c - 1 = omega arith in
    let rest : (c - 1) % w < w = omega arith in record {
      row_in = omega arith;
      from = omega (arith, length-entries_before s q, ap (λ n. n * (s.flows * s.states)) none);
      to = omega (arith, length-entries_before s (q + 1), ap (λ n. n * (s.flows * s.states)) none_more);
    }

-- a row from the opening row on has the states besides
pub later_row : (s : Shape) (c : ℕ) → 1 ≤ c → c < length (entries_of s) → s.h * (1 + 3 * s.flows) ≤ c - 1
    → HoldsColumn s (s.h + (c - 1 - s.h * (1 + 3 * s.flows)) / (1 + s.flows * (3 + s.states))) c
later_row s c some less late =
    let w : ℕ = 1 + s.flows * (3 + s.states) in
    let x : ℕ = c - 1 - s.h * (1 + 3 * s.flows) in
    let q : ℕ = x / w in
    let all : rows_of s - s.h ≡ s.t + 1 = omega arith in
    let below : x < (s.t + 1) * w = omega (arith, length-entries_before s (rows_of s), ap (λ n. n * (s.flows * s.states)) all) in
    let row : q < s.t + 1 = quotient_below x w (s.t + 1) (omega arith) below in
    let past : s.h + q - s.h ≡ q = omega arith in
    let past_more : s.h + q + 1 - s.h ≡ q + 1 = omega arith in
    let parts : w * q + x % w ≡ x = omega arith in
    let rest : x % w < w = omega arith in record {
      row_in = omega arith;
      from = omega (arith, length-entries_before s (s.h + q), ap (λ n. n * (s.flows * s.states)) past);
      to = omega (arith, length-entries_before s (s.h + q + 1), ap (λ n. n * (s.flows * s.states)) past_more);
    }

-- the entry at a place of a row is the one at the rest of the division, of the flow that the quotient gives
pub divided_place : (s : Shape) (row place w : ℕ) (e : Entry) → w ≡ 3 + state_count s row → 1 ≤ place → place < length (row_entries s row)
    → slice_get (flow_entries s row ((place - 1) / w + 1)) ((place - 1) % w) ≡ Some e → slice_get (row_entries s row) place ≡ Some e
divided_place s row place w e is some less there =
    let q : ℕ = (place - 1) / w in
    let all : s.flows * w ≡ s.flows * (3 + state_count s row) = ap (λ n. s.flows * n) is in
    let flow : q < s.flows = quotient_below (place - 1) w s.flows (omega arith) (omega (arith, length-row_entries s row)) in
    let parts : w * q + (place - 1) % w ≡ place - 1 = omega arith in
    let passed : (q + 1 - 1) * (3 + state_count s row) ≡ q * w = (ap (λ n. n * (3 + state_count s row)) (let e : q + 1 - 1 ≡ q = omega arith in e) ∙ omega (arith, ap (λ n. q * n) is)) in
    ap (slice_get (row_entries s row)) (omega (arith, passed)) ∙ flow_place s row (q + 1) ((place - 1) % w) e (omega arith) (omega arith) there

-- how far a column is into its row
pub place_in_row : (s : Shape) (row c start : ℕ) → start ≡ length (entries_before s row) → length (entries_before s row) ≤ c
    → c < length (entries_before s (row + 1)) → c - start < length (row_entries s row)
place_in_row s row c start is from to =
    let next : length (entries_before s (row + 1)) ≡ length (entries_before s (suc row)) = ap (λ n. length (entries_before s n)) (let e : row + 1 ≡ suc row = omega arith in e) in
    omega (arith, length-entries_before-suc s row)
