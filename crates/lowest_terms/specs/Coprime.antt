use Rattle.std.specs.Prelude.{ℕ}
use Rattle.std.specs.Int.{IsGcd}

-- no number but 1 divides both
abbrev pub IsCoprime : ℕ → ℕ → Type 0
IsCoprime a b = IsGcd a b 1
