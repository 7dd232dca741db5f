-- Values at a scale that makes them whole, and how two of them compare.
use Rattle.std.specs.Prelude.{◌≡◌, ℕ, ◌/◌, ℤ, pos, ◌*ℤ◌, ◌≤ℤ◌, ◌<ℤ◌}
use Rattle.weighing.specs.Scaled.{den_of}
use Rattle.weighing.specs.declared.scales.Num.{Num}
use Rattle.weighing.specs.declared.weighings.Rel5.{Rel5}
use Rattle.weighing.specs.declared.weighings.Rel5.TheVariants.{AtMost, Below, AtLeast, Above, Equal}

-- a written number times `den`
abbrev pub number : ℕ → Num → ℤ
number den n = n.num *ℤ pos (den / den_of n)

-- the comparison is true of these values
abbrev pub Compares : Rel5 → ℤ → ℤ → Type 0
Compares AtMost x y = x ≤ℤ y
Compares Below x y = x <ℤ y
Compares AtLeast x y = y ≤ℤ x
Compares Above x y = y <ℤ x
Compares Equal x y = x ≡ y
