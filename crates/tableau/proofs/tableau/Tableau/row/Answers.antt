use Rattle.std.proofs.Common.{◌≡◌, ◌<◌, [], length, sym, subst, ◌∙◌, ap, get_or}
use Rattle.field_rows.specs.Rows.{coefficient, IsRow}
use Rattle.tableau.specs.Tables.{variables, entry}
use Rattle.tableau.proofs.TableLaws.{variables-is, entry-is, listed_entries}
use Rattle.tableau.proofs.tableau.Tableau.row.Goals as goal

pub list_at-requires : goal.list_at-requires
list_at-requires g c =
    subst (λ n. c.args.basic < n) (ap variables (sym c.self.view_is) ∙ variables-is _ ∙ ap length (sym c.as_slice.ensures.value)) c.requires

row_is : (g : _) (c : goal.After-list_at g) → c.list_at.result.now ≡ get_or c.self.inside.rows.items c.args.basic []
row_is g c = c.list_at.ensures ∙ ap (λ l. get_or l c.args.basic []) c.as_slice.ensures.value

same_entries : (g : _) (c : goal.After-list_at g) (v : _) → coefficient g.F.OrderedField.value c.list_at.result.now v ≡ entry g.F.OrderedField.value c.args.self.now c.args.basic v
same_entries g c v =
    let value = g.F.OrderedField.value in
    ap (λ r. coefficient value r v) (row_is g c) ∙ sym (entry-is value _ c.args.basic v) ∙ ap (λ t. entry value t c.args.basic v) c.self.view_is

pub returns-clause-row : goal.returns-clause-row
returns-clause-row g c =
    subst (IsRow g.F.OrderedField.value) (sym (row_is g c)) (c.self.invariant.rows c.args.basic)

pub returns-clause-same : goal.returns-clause-same
returns-clause-same g c = same_entries g c

pub returns-clause-entries : goal.returns-clause-entries
returns-clause-entries g c = λ k d within.
    listed_entries g.F.OrderedField.value c.list_at.result.now (subst (IsRow g.F.OrderedField.value) (sym (row_is g c)) (c.self.invariant.rows c.args.basic)) k d within
    ∙ same_entries g c _
