use Rattle.std.proofs.Common.{FitsSigned, to_z-of_z, rules, ◌≡◌}
use Rattle.std.specs.Int.{w128}
use Rattle.linear_form.specs.Sums.{entry}
use Rattle.corner_guide.proofs.TruthLaws.{row_agrees}
use Rattle.corner_guide.proofs.model.truth.Goals as goal

pub returns-in-Row : goal.returns-in-Row
returns-in-Row g c =
    let num : FitsSigned w128 c.in-Row.num = search rules in
    let den : FitsSigned w128 c.in-Row.den = search rules in
    let over : FitsSigned w128 c.args.values.now.over = search rules in
    let same : c.as_slice-whole.result.now ≡ c.args.values.now.values = c.as_slice-whole.ensures in
    row_agrees c.args.clauses.now (entry c.args.values.now.values) c.args.values.now.over c.args.atom.now c.in-Row.form c.in-Row.num c.in-Row.den c.in-Row.strict
    c.row_holds.result c.requires.over_from c.in-Row.is (simp (to_z-of_z, same) at c.row_holds.ensures)
