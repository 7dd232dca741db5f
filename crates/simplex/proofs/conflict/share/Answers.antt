use Rattle.std.proofs.Common.{refl}
use Rattle.simplex.specs.Limits.{limit_value}
use Rattle.simplex.specs.States.{limits_in}
use Rattle.simplex.proofs.CompareLaws.{in_force-some, in_force-none}
use Rattle.simplex.proofs.ShareLaws.{holder_missing, holder_by}
use Rattle.simplex.proofs.conflict.share.Goals as goal

pub unreachable-requires : goal.unreachable-requires
unreachable-requires g c =
    let value = g.F.OrderedField.value in
    holder_missing c.helps_by_rising-rising.result c.args.upper (limits_in value c.args.limits.now.limits) c.args.entry.variable (value c.args.entry.number) c.helps_by_rising-rising.ensures c.requires.holder (in_force-none value c.helps_by_rising-rising.result c.args.entry.variable c.args.limits.now.limits c.in-None.ensures)

pub returns : goal.returns
returns g c =
    let value = g.F.OrderedField.value in
    record {
      weight = record { limit = limit_value value c.in-Some.limit; factor = value c.size.result };
      holder = holder_by c.helps_by_rising-rising.result c.args.upper (limits_in value c.args.limits.now.limits) c.args.entry.variable (value c.args.entry.number) (value c.size.result) (limit_value value c.in-Some.limit) c.helps_by_rising-rising.ensures (in_force-some value c.helps_by_rising-rising.result c.args.entry.variable c.args.limits.now.limits c.in-Some.limit c.in-Some.ensures) c.size.ensures;
      tag = refl;
      mult = refl;
    }
