use Rattle.std.proofs.Common.{◌≡◌, ◌<◌, [], length, sym, subst, ◌∙◌, ap, get_or}
use Rattle.field_rows.specs.Rows.{coefficient, IsRow}
use Rattle.tableau.specs.Tables.{variables, entry}
use Rattle.tableau.proofs.TableLaws.{variables-is, entry-is}
use Rattle.tableau.proofs.tableau.Tableau.entry.Goals as goal

pub list_at-requires : goal.list_at-requires
list_at-requires g c =
    subst (λ n. c.args.basic < n) (ap variables (sym c.self.view_is) ∙ variables-is _ ∙ ap length (sym c.as_slice.ensures.value)) c.requires

pub coefficient-requires : goal.coefficient-requires
coefficient-requires g c =
    subst (IsRow g.F.OrderedField.value) (sym (c.list_at.ensures ∙ ap (λ l. get_or l c.args.basic []) c.as_slice.ensures.value)) (c.self.invariant.rows c.args.basic)

pub returns : goal.returns
returns g c =
    let value = g.F.OrderedField.value in
    c.coefficient.ensures ∙ ap (λ r. coefficient value r c.args.other) (c.list_at.ensures ∙ ap (λ l. get_or l c.args.basic []) c.as_slice.ensures.value)
    ∙ sym (entry-is value _ c.args.basic c.args.other) ∙ ap (λ t. entry value t c.args.basic c.args.other) c.self.view_is
