use Rattle.std.proofs.Common.{◌≡◌, take, map, unsigned_abs}
use Rattle.std.specs.List.{All}
use Rattle.whole.specs.Numbers.{IsWithin}
use Rattle.corner_values.specs.Scale.{numerators}
use Rattle.corner_values.proofs.ScaleLaws.{NumeratorsFit}
use Rattle.corner_values.proofs.scale.numerators.Given as goal

abbrev pub invariant-loop-column : goal.invariant-loop-column
invariant-loop-column g l =
    let pair = g.F.OrderedField.pair in
    record {
      done : l.numerators.items ≡ numerators (unsigned_abs l.fn.scale) (take l.column (map pair l.numbers));
      within : All IsWithin l.numerators.items;
      kept : NumeratorsFit (map pair l.numbers) (unsigned_abs l.fn.scale) l.column;
    }
