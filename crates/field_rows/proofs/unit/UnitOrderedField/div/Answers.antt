use Rattle.std.proofs.Common.{ap, ◌∙◌}
use Rattle.ordered_field.specs.Rational.{whole, ◌*ℚ◌}
use Rattle.field_rows.proofs.UnitLaws.{if_ok, on_ok, product_read, quotient_exact, quotient_kept}
use Rattle.field_rows.proofs.unit.UnitOrderedField.div.Goals as goal

pub returns-clause-exact : goal.returns-clause-exact
returns-clause-exact c =
    let a = c.args.self in
    let b = c.args.other in
    if_ok c.from_whole.result (λ x h. ap (λ v. v *ℚ whole b.n) (h ∙ ap whole (product_read a.n b.n c.product_of.result a.small b.small c.product_of.ensures)) ∙ quotient_exact a.n b.n b.small c.requires) c.from_whole.ensures.exact

pub returns-clause-kept : goal.returns-clause-kept
returns-clause-kept c =
    let a = c.args.self in
    let b = c.args.other in
    on_ok c.from_whole.result (λ h. quotient_kept a.n b.n b.small c.requires (rw (product_read a.n b.n c.product_of.result a.small b.small c.product_of.ensures) at h)) c.from_whole.ensures.kept
