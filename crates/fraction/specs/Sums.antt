-- What is formed when two fractions are added over their least common denominator.
use Rattle.std.specs.Prelude.{ℕ, ◌<◌, ℤ, ◌+ℤ◌, ◌*ℤ◌, unsigned_abs, ◌⊎◌}

-- m over x * g and n over y * g, brought to x * y * g: that denominator, one of the two numerators or their
-- sum exceeds the limit
abbrev pub SumOverflows : ℕ → ℤ → ℤ → ℤ → ℤ → ℤ → Type 0
SumOverflows limit m n x y d =
    (limit < unsigned_abs (x *ℤ d))
    ⊎ (limit < unsigned_abs (m *ℤ y))
    ⊎ (limit < unsigned_abs (n *ℤ x))
    ⊎ (limit < unsigned_abs (m *ℤ y +ℤ n *ℤ x))
