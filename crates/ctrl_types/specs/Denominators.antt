-- The least common multiple of denominators, which may not pass 1,000,000.
use Rattle.std.specs.Prelude.{ℕ, ◌≤◌, List, nat_le, if◌then◌else◌, Option, None, Some, All}
use Rattle.std.specs.List.{fold}
use Rattle.std.specs.Int.{◌∣◌}
use Rattle.weighing.specs.Scaled.{common, den_of}
use Rattle.weighing.specs.declared.scales.Num.{Num}

pub record IsScale (s : ℕ) : Type 0 where
  pub from : 1 ≤ s
  pub to : s ≤ 1000000

-- the least common multiple of the numbers' denominators, as they are written
unfoldable pub least_common : List Num → ℕ
least_common nums = fold common 1 nums

-- each denominator divides the number, and the number divides each such number
pub record IsLeastCommon (nums : List Num) (l : ℕ) : Type 0 where
  pub common : All (λ n. den_of n ∣ l) nums
  pub least : (m : ℕ) → All (λ n. den_of n ∣ m) nums → l ∣ m

-- the number s and each denominator divide the number, and the number divides each such number
pub record IsLeastOver (s : ℕ) (nums : List Num) (l : ℕ) : Type 0 where
  pub of_start : s ∣ l
  pub of_nums : All (λ n. den_of n ∣ l) nums
  pub least : (m : ℕ) → s ∣ m → All (λ n. den_of n ∣ m) nums → l ∣ m

-- the least common multiple with one number more, if it isn't past the limit
abbrev pub joined : ℕ → Num → Option ℕ
joined s n = if nat_le (common s n) 1000000 then Some (common s n) else None

unfoldable pub with_number : Option ℕ → Num → Option ℕ
with_number None n = None
with_number (Some s) n = joined s n

unfoldable pub with_numbers : Option ℕ → List Num → Option ℕ
with_numbers s nums = fold with_number s nums
