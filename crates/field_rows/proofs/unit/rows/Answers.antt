use Rattle.field_rows.proofs.UnitLaws.{minus_one_is_apart}
use Rattle.field_rows.proofs.unit.rows.Goals as goal

pub solve-requires-clause-solvable : goal.solve-requires-clause-solvable
solve-requires-clause-solvable g c =
    let second = c.in_ok-row.ensures.second in
    let same = c.as_slice-2.ensures.value in
    λ e. minus_one_is_apart cc
