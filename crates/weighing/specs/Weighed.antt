-- The weighing of a comparison: its terms are added one after another, and the first product or sum that overflows ends it.
use Rattle.std.specs.Prelude.{ℕ, ℤ, pos, [], ◌∷◌, ◌+ℤ◌, ◌*ℤ◌, ◌≤ℤ◌, ◌<ℤ◌, ◌≡◌, Bool, Result, Ok, Err, List, fold, if◌then◌else◌, int_lt, int_le, ◌&&◌}
use Rattle.whole.specs.Numbers.{IsWithin, overflows}
use Rattle.whole.specs.declared.answers.Stuck.{Stuck}
use Rattle.whole.specs.declared.answers.Pair.{Pair}
use Rattle.whole.specs.declared.answers.Op.{Op}
use Rattle.whole.specs.declared.answers.Op.TheVariants.{Product, Sum}
use Rattle.whole.specs.declared.answers.Place.TheVariants.{Replay}
use Rattle.weighing.specs.Weight.{Weight}
use Rattle.weighing.specs.declared.weighings.Summand.{Summand}
use Rattle.weighing.specs.declared.weighings.Rel5.{Rel5}
use Rattle.weighing.specs.declared.weighings.Rel5.TheVariants.{AtMost, Below, AtLeast, Above, Equal}

-- a whole number as the fraction over 1
abbrev pub over_one : ℤ → Pair
over_one z = record { num = z; den = pos 1 }

-- the operation at which a weighing on this row stops, with its operands
abbrev pub stuck_at : ℕ → Op → ℤ → ℤ → Stuck
stuck_at row op left right = record { place = Replay; at = row; by = 0; op = op; left = over_one left; right = over_one right }

-- the sum with the term k * y: the product is formed first, then the sum
abbrev pub more : ℕ → ℤ → ℤ → ℤ → Result ℤ Stuck
more row sum k y =
    if overflows (k *ℤ y) then Err (stuck_at row Product k y)
    else if overflows (sum +ℤ k *ℤ y) then Err (stuck_at row Sum sum (k *ℤ y))
    else Ok (sum +ℤ k *ℤ y)

-- what is stuck stays as it is
abbrev pub sum_with : ℕ → Result ℤ Stuck → ℤ → ℤ → Result ℤ Stuck
sum_with row (Err stuck) k y = Err stuck
sum_with row (Ok sum) k y = more row sum k y

abbrev pub start : ℕ → Weight
start row = record { row = row; sum = Ok (pos 0) }

abbrev pub added : Weight → ℤ → ℤ → Weight
added w k y = record { row = w.row; sum = sum_with w.row w.sum k y }

abbrev pub EachWithin : List Summand → Type 0
EachWithin [] = Unit {0}
EachWithin (t ∷ terms) = IsWithin t.0 × IsWithin t.1 × EachWithin terms

abbrev pub times : ℤ → ℤ → Summand
times k y = record { 0 = k; 1 = y }

-- the terms in their written order, each with its product
abbrev pub weighed_from : Weight → List Summand → Weight
weighed_from w terms = fold (λ w t. added w t.0 t.1) w terms

abbrev pub weighed : ℕ → List Summand → Weight
weighed row terms = weighed_from (start row) terms

-- whether a sum stands so to zero, as a test
abbrev pub test_of : Rel5 → ℤ → Bool
test_of AtMost z = int_le z (pos 0)
test_of Below z = int_lt z (pos 0)
test_of AtLeast z = int_le (pos 0) z
test_of Above z = int_lt (pos 0) z
test_of Equal z = int_le z (pos 0) && int_le (pos 0) z

-- the same as a fact
abbrev pub Stands : Rel5 → ℤ → Type 0
Stands AtMost z = z ≤ℤ pos 0
Stands Below z = z <ℤ pos 0
Stands AtLeast z = pos 0 ≤ℤ z
Stands Above z = pos 0 <ℤ z
Stands Equal z = z ≡ pos 0

abbrev pub related : Rel5 → Result ℤ Stuck → Result Bool Stuck
related rel (Err stuck) = Err stuck
related rel (Ok sum) = Ok (test_of rel sum)
