use Rattle.std.proofs.Common.{pos, ◌≤ℤ◌, take, map, unsigned_abs}
use Rattle.corner_values.specs.Scale.{IsScale}
use Rattle.corner_values.proofs.ScaleLaws.{MultiplesFit}
use Rattle.corner_values.proofs.scale.scale.Given as goal

abbrev pub invariant-loop-column : goal.invariant-loop-column
invariant-loop-column g l =
    let pair = g.F.OrderedField.pair in
    record {
      is_scale : IsScale (take l.column (map pair l.numbers)) (unsigned_abs l.scale);
      positive : pos 1 ≤ℤ l.scale;
      kept : MultiplesFit (map pair l.numbers) l.column;
    }
