use Rattle.std.proofs.Common.{pos, refl}
use Rattle.std.specs.Int.{w128}
use Rattle.std.proofs.lemmas.Int.{to_z-of_z}
use Rattle.fraction.specs.Value.{rational}
use Rattle.fraction.proofs.Dividing.{rational-times_den}
use Rattle.simplex.proofs.BoundLaws.{over_one_stands, one_over_stands}
use Rattle.simplex.proofs.bound.stuck.Goals as goal

pub returns : goal.returns
returns c = record {
  inverse = rational (pos 1) c.args.den c.requires;
  inverts = rational-times_den (pos 1) c.args.den c.requires;
  operation = record {
    place = refl;
    at = refl;
    by = refl;
    op = refl;
    left = over_one_stands _ c.args.num (to_z-of_z w128 c.args.num c.ranges.num) refl;
    right = one_over_stands _ c.args.den c.requires refl (to_z-of_z w128 c.args.den c.ranges.den);
  };
}
