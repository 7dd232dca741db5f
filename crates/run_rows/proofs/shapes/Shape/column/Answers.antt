use Rattle.std.proofs.Common.{sym, ◌∙◌}
use Rattle.std.proofs.lemmas.Option.{slice_get_within}
use Rattle.run_rows.specs.Columns.{entries_of}
use Rattle.run_rows.proofs.ColumnLaws.{column_of_is, one_column, same_from_column_of}
use Rattle.run_rows.proofs.shapes.Shape.column.Goals as goal

pub returns-clause-value : goal.returns-clause-value
returns-clause-value c = cc (column_of_is c.args.self.now _ c.args.entry c.place_of.ensures)

pub returns-clause-only : goal.returns-clause-only
returns-clause-only c = λ k there. one_column c.args.self.now k _ c.args.entry there c.place_of.ensures

pub returns-clause-in_range : goal.returns-clause-in_range
returns-clause-in_range c = slice_get_within (entries_of c.args.self.now) _ c.args.entry c.place_of.ensures

pub returns-clause-apart : goal.returns-clause-apart
returns-clause-apart c =
    λ other stands same.
    same_from_column_of c.args.self.now other c.args.entry stands c.requires.stands
    (same ∙ sym (column_of_is c.args.self.now _ c.args.entry c.place_of.ensures))
