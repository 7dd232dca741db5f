use Rattle.std.proofs.Common.{◌≡◌, ℕ, ◌+◌, ◌-◌, ◌/◌, ◌%◌, ◌∙◌, ap, arith}
use Rattle.std.specs.Prelude.{slice_get}
use Rattle.run_rows.specs.Columns.{flow_entries}
use Rattle.run_rows.specs.declared.columns.Entry.TheVariants.{A, S, L, X}
use Rattle.run_rows.proofs.EntryPlaces.{state_found}
use Rattle.run_rows.proofs.RowPlaces.{divided_place}
use Rattle.run_rows.proofs.shapes.Shape.row_entry.Goals as goal

pub returns-in-0 : goal.returns-in-0
returns-in-0 c =
    let flow : ℕ = (c.args.place - 1) / (3 + c.states_on-width.result) + 1 in
    divided_place c.args.self.now c.args.row c.args.place (3 + c.states_on-width.result) (A c.args.row flow) (omega arith) (omega arith) c.requires.place_in
    (ap (slice_get (flow_entries c.args.self.now c.args.row flow)) c.in-0.is)

pub returns-in-1 : goal.returns-in-1
returns-in-1 c =
    let flow : ℕ = (c.args.place - 1) / (3 + c.states_on-width.result) + 1 in
    divided_place c.args.self.now c.args.row c.args.place (3 + c.states_on-width.result) (S c.args.row flow) (omega arith) (omega arith) c.requires.place_in
    (ap (slice_get (flow_entries c.args.self.now c.args.row flow)) c.in-1.is)

pub returns-in-2 : goal.returns-in-2
returns-in-2 c =
    let flow : ℕ = (c.args.place - 1) / (3 + c.states_on-width.result) + 1 in
    divided_place c.args.self.now c.args.row c.args.place (3 + c.states_on-width.result) (L c.args.row flow) (omega arith) (omega arith) c.requires.place_in
    (ap (slice_get (flow_entries c.args.self.now c.args.row flow)) c.in-2.is)

pub returns-in_default : goal.returns-in_default
returns-in_default c =
    let flow : ℕ = (c.args.place - 1) / (3 + c.states_on-width.result) + 1 in
    let item : ℕ = (c.args.place - 1) % (3 + c.states_on-width.result) in
    divided_place c.args.self.now c.args.row c.args.place (3 + c.states_on-width.result) (X c.args.row flow (item - 3)) (omega arith) (omega arith) c.requires.place_in
    (
    ap (slice_get (flow_entries c.args.self.now c.args.row flow)) (let e : item ≡ 3 + (item - 3) = omega arith in e)
    ∙ state_found c.args.self.now c.args.row flow (item - 3) (omega arith)
    )
