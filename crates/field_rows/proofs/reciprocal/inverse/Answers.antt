use Rattle.std.proofs.Common.{subst}
use Rattle.ordered_field.specs.Wideness.{QuotientExceeds}
use Rattle.field_rows.proofs.InverseLaws.{inverse_fits}
use Rattle.field_rows.proofs.reciprocal.inverse.Goals as goal

pub unreachable-requires : goal.unreachable-requires
unreachable-requires g c =
    let field = g.F.OrderedField in
    inverse_fits field.LIMIT (field.pair c.args.number) (field.value c.args.number)
    (g.met.F.OrderedField.meaning c.args.number) (g.met.F.OrderedField.within c.args.number)
    (subst (λ v. QuotientExceeds field.LIMIT v (field.value c.args.number)) c.one.ensures c.in-Err.ensures.wide)
