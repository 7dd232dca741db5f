use Rattle.field_rows.proofs.ZeroLaws as zeros
use Rattle.field_rows.proofs.laws.zero_fits.Goals as goal

pub returns : goal.returns
returns g c =
    let met = g.met.F.OrderedField in
    zeros.zero_fits g.F.OrderedField.LIMIT (g.F.OrderedField.pair c.args.number) (g.F.OrderedField.value c.args.number) met.limits.0 (met.meaning c.args.number) (met.within c.args.number)
