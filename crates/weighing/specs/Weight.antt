-- What a weighing has come to on a row: its sum, or the operation that overflowed.
use Rattle.std.specs.Prelude.{ℕ, ℤ, Result}
use Rattle.whole.specs.declared.answers.Stuck.{Stuck}

pub record Weight : Type 0 where
  pub row : ℕ
  pub sum : Result ℤ Stuck
