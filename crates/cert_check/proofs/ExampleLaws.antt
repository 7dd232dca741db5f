-- The definitions compute on the small certificates.
use Rattle.std.proofs.Common.{refl}
use Rattle.cert_check.specs.Causes.{of_leaf, of_rows}
use Rattle.cert_check.specs.Examples.{Examples}

pub examples : Examples
unfolding of_leaf of_rows
examples = record {
  none_strict = refl;
  closed = refl;
  negative = refl;
  later = refl;
  itself = refl;
  twice = refl;
  unused = refl;
  uncancelled = refl;
  undone = refl;
  not_there = refl;
  too_wide = refl;
}
