use Rattle.tableau.specs.Layout.{IsOpened}
use Rattle.tableau.proofs.opening.open_rows.Given as goal

abbrev pub invariant-loop-terms : goal.invariant-loop-terms
invariant-loop-terms g l =
    IsOpened g.F.OrderedField.LIMIT g.F.OrderedField.value l.fn.columns l.forms.items l.terms-index l.basic.items l.rows.items l.users.items
