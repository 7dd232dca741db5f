use Rattle.ordered_field.proofs.Fractions.{whole-product}
use Rattle.field_rows.proofs.UnitLaws.{on_ok, product_read, product_kept}
use Rattle.field_rows.proofs.unit.UnitOrderedField.mul.Goals as goal

pub returns-clause-exact : goal.returns-clause-exact
returns-clause-exact c =
    let a = c.args.self in
    let b = c.args.other in
    rw (← whole-product a.n b.n, ← product_read a.n b.n c.product_of.result a.small b.small c.product_of.ensures) c.from_whole.ensures.exact

pub returns-clause-kept : goal.returns-clause-kept
returns-clause-kept c =
    let a = c.args.self in
    let b = c.args.other in
    on_ok c.from_whole.result (λ h. product_kept a.n b.n (rw (product_read a.n b.n c.product_of.result a.small b.small c.product_of.ensures) at h)) c.from_whole.ensures.kept
