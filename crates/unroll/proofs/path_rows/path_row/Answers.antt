use Rattle.std.proofs.Common.{pos, List, sym, subst, length}
use Rattle.std.specs.Prelude.{◌↔◌}
use Rattle.std.proofs.lemmas.Result.{IfOk-weaker}
use Rattle.condition_tree.specs.Trees.{Tree}
use Rattle.linear_form.specs.declared.relations.Comparison.{Comparison}
use Rattle.claims.specs.Columns.{run_of}
use Rattle.clause_form.specs.Formulas.{AreTrueAt, CanTake, EachComparison}
use Rattle.path_server.specs.Rules.{RowHolds}
use Rattle.path_server.specs.Servers.{server_of}
use Rattle.run_rows.specs.Columns.{entries_of, value_at}
use Rattle.unroll.proofs.RowLaws.{row_is_made, row_is_read, row_takes}
use Rattle.unroll.proofs.ShapeLaws.{shape_within}
use Rattle.unroll.proofs.path_rows.path_row.Goals as goal

pub returns-clause-made : goal.returns-clause-made
returns-clause-made c =
    IfOk-weaker c.row_formulas.result _ _ (λ fs is. λ value over.
    subst (λ (ts : List (Tree Comparison)). AreTrueAt value over ts ↔ RowHolds (server_of c.args.setting.now.path) (run_of c.args.shape.now value (pos over)) c.args.row)
    (sym is) (row_is_made c.args.shape.now value over (server_of c.args.setting.now.path) c.args.row c.requires.setting_in.path c.requires.row_in)) c.row_formulas.ensures

pub returns-clause-read : goal.returns-clause-read
returns-clause-read c =
    IfOk-weaker c.row_formulas.result _ _ (λ fs is. λ run over shaped units.
    subst (λ (ts : List (Tree Comparison)). AreTrueAt (value_at c.args.shape.now run) over ts ↔ RowHolds (server_of c.args.setting.now.path) run c.args.row)
    (sym is) (row_is_read c.args.shape.now run over (server_of c.args.setting.now.path) c.args.row c.requires.setting_in.path c.requires.row_in shaped units)) c.row_formulas.ensures

pub returns-clause-small : goal.returns-clause-small
returns-clause-small c =
    IfOk-weaker c.row_formulas.result _ _ (λ fs is.
    subst (EachComparison (CanTake (length (entries_of c.args.shape.now)))) (sym is)
    (row_takes c.args.shape.now (server_of c.args.setting.now.path) c.args.row
    (shape_within c.args.setting.now c.args.shape.now c.requires.setting_in c.requires.shape_in) c.requires.setting_in.path c.requires.row_in)) c.row_formulas.ensures
