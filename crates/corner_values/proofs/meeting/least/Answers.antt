use Rattle.std.proofs.Common.{◌≡◌, true, refl}
use Rattle.corner_values.proofs.LeastLaws.{least_first, least_second}
use Rattle.corner_values.proofs.meeting.least.Goals as goal

pub returns-then-is_below : goal.returns-then-is_below
returns-then-is_below g c =
    let value = g.F.OrderedField.value in
    least_second (value c.args.a) (value c.args.b) (c.if-is_below.ensures.0 refl)

pub returns-else-is_below : goal.returns-else-is_below
returns-else-is_below g c =
    let value = g.F.OrderedField.value in
    least_first (value c.args.a) (value c.args.b) (λ less. let t : c.is_below.result ≡ true = c.is_below.ensures.1 less in absurd (cc))
