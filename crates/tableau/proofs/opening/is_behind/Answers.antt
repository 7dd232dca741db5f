use Rattle.std.proofs.Common.{◌^◌, sym, subst}
use Rattle.std.proofs.lemmas.Bool.{ltb-true}
use Rattle.field_rows.specs.Rows.{IsRowWithin}
use Rattle.tableau.proofs.EndLaws.{within_last, within_of_row}
use Rattle.tableau.proofs.opening.is_behind.Goals as goal

pub returns-in-Some : goal.returns-in-Some
returns-in-Some g c less =
    let value = g.F.OrderedField.value in
    let parts = c.in-Some.ensures.cases.0 in
    subst (λ l. IsRowWithin value 0 c.args.variable l) (sym parts)
    (within_last value 0 (2 ^ 32) c.args.variable c.in-Some.field-0-1.now c.in-Some.last.now (subst (λ l. IsRowWithin value 0 (2 ^ 32) l) parts (within_of_row value c.args.row.now c.requires)) (ltb-true _ _ less))
