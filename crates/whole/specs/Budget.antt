-- What a budget has counted, as a plain record.
use Rattle.std.specs.Prelude.{ℕ, ◌+◌}
use Rattle.whole.specs.declared.budget.Budget.{Budget}
use Rattle.whole.specs.declared.budget.Charge.{Charge}
use Rattle.whole.specs.declared.budget.Charge.TheVariants.{Decision, Propagation, Pivot}

pub record Counts : Type 0 where
  pub limit : ℕ
  pub decisions : ℕ
  pub propagations : ℕ
  pub pivots : ℕ
  pub conflicts : ℕ

abbrev pub counts : Budget → Counts
counts b = record { limit = b.limit; decisions = b.decisions; propagations = b.propagations; pivots = b.pivots; conflicts = b.conflicts }

-- what is spent: conflicts cost nothing
abbrev pub spent : Counts → ℕ
spent c = c.decisions + c.propagations + c.pivots

abbrev pub opening : ℕ → Counts
opening limit = record { limit = limit; decisions = 0; propagations = 0; pivots = 0; conflicts = 0 }

-- one more move of this kind, and no other change
abbrev pub charged : Charge → Counts → Counts
charged Decision c = record c { decisions = c.decisions + 1 }
charged Propagation c = record c { propagations = c.propagations + 1 }
charged Pivot c = record c { pivots = c.pivots + 1 }

abbrev pub conflict_noted : Counts → Counts
conflict_noted c = record c { conflicts = c.conflicts + 1 }
