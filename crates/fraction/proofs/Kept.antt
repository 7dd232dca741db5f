-- A mixed fraction beside the same fraction in 128 bits
use Rattle.std.proofs.Common.{◌≡◌, ℤ, pos, ◌≤ℤ◌}
use Rattle.ordered_field.specs.Wideness.{Exceeds}
use Rattle.fraction.specs.Value.{ratio, rational, in_lowest_terms, same_value}
use Rattle.fraction.specs.Mixed.{limit, kept_num, kept_den, kept_positive, kept_lowest, kept_num_within, kept_den_within, kept_value}
use Rattle.fraction.specs.declared.mixed.Kept.{Kept}
use Rattle.fraction.proofs.Pairs.{exceeds_not}

pub from_kept : (k : Kept) (num den : ℤ) (some : pos 1 ≤ℤ den) → num ≡ kept_num k → den ≡ kept_den k → rational num den some ≡ kept_value k
from_kept k num den some e f = same_value num den (kept_num k) (kept_den k) some (kept_positive k) e f

pub to_kept : (k : Kept) (num den : ℤ) (some : pos 1 ≤ℤ den) → kept_num k ≡ num → kept_den k ≡ den → kept_value k ≡ rational num den some
to_kept k num den some e f = same_value (kept_num k) (kept_den k) num den (kept_positive k) some e f

-- what is kept is within the limit
pub kept_within : (k : Kept) → Exceeds limit (kept_value k) → ⊥
kept_within k =
    exceeds_not limit (ratio (kept_num k) (kept_den k)) (kept_value k)
    (in_lowest_terms (kept_num k) (kept_den k) (kept_positive k) (kept_lowest k))
    (kept_num_within k)
    (kept_den_within k)
