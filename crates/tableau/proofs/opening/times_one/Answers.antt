use Rattle.std.proofs.Common.{rules, ◌≡◌, pos, refl, FitsSigned}
use Rattle.std.specs.Int.{w128}
use Rattle.std.proofs.lemmas.Int.{to_z-of_z}
use Rattle.ordered_field.proofs.WholeNumbers.{over_one, whole-lowest}
use Rattle.tableau.proofs.opening.times_one.Goals as goal

pub returns : goal.returns
returns c = record {
  place = refl;
  at = refl;
  by = refl;
  op = refl;
  left = record { ratio = over_one c.args.term.coef; num = let fits : FitsSigned w128 c.args.term.coef = search rules in to_z-of_z w128 c.args.term.coef fits; den = refl; lowest = whole-lowest c.args.term.coef };
  right = record { ratio = over_one (pos 1); num = refl; den = refl; lowest = whole-lowest (pos 1) };
}
