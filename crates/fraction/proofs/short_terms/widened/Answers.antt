use Rattle.fraction.proofs.Widths.{widen_fitting}
use Rattle.fraction.proofs.short_terms.widened.Goals as goal

pub returns-clause-common : goal.returns-clause-common
returns-clause-common c = widen_fitting c.args.common c.from.result c.ranges.common c.from.ensures

pub returns-clause-num : goal.returns-clause-num
returns-clause-num c = widen_fitting c.args.num c.from-2.result c.ranges.num c.from-2.ensures

pub returns-clause-den : goal.returns-clause-den
returns-clause-den c = widen_fitting c.args.den c.from-3.result c.ranges.den c.from-3.ensures
