use Rattle.std.proofs.Common.{rules, sym, ◌∙◌, ap}
use Rattle.std.specs.Int.{w128}
use Rattle.std.specs.Prelude.{FitsSigned}
use Rattle.std.proofs.lemmas.Int.{to_z-of_z}
use Rattle.run_rows.specs.Columns.{value_at}
use Rattle.run_rows.proofs.ColumnLaws.{value_at_is, value_at-column_of}
use Rattle.run_rows.proofs.rows.Run.at.Goals as goal

pub returns-clause-value : goal.returns-clause-value
returns-clause-value c =
    let fits : FitsSigned w128 c.entry.result = search rules in
    simp to_z-of_z (c.entry.ensures ∙ sym (value_at_is c.args.shape.now c.args.self.now c.args.column _ c.entry_at.ensures.listed))

pub returns-clause-entry : goal.returns-clause-entry
returns-clause-entry c =
    λ entry stands same.
    returns-clause-value c
    ∙ ap (value_at c.args.shape.now c.args.self.now) (sym same)
    ∙ value_at-column_of c.args.shape.now c.args.self.now entry stands
