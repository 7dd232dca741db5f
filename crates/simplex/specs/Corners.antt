-- A corner: a tableau, a value for each variable, and limits. Which variables are violated, which can help, and Bland's choice.
use Rattle.std.specs.Prelude.{◌≡◌, ℕ, ◌<◌, Bool, true, false, ◌⊎◌, List, [], ◌∷◌, Some, pos}
use Rattle.ordered_field.specs.Rational.{ℚ, whole}
use Rattle.ordered_field.specs.Order.{◌<ℚ◌}
use Rattle.ordered_field.specs.Delta.{DeltaValue}
use Rattle.tableau.specs.Tables.{Table, variables, is_basic, entry, Meets, IsTable}
use Rattle.tableau.specs.Exchange.{IsExchanged}
use Rattle.simplex.specs.declared.limits.Limit.{Limit}
use Rattle.simplex.specs.Limits.{in_force, IsTooLow, IsViolated, IsWithin, MayRise, MayFall}

-- the value of a variable that isn't basic is its stand
pub record Corner (F : Type 0) : Type 0 where
  pub table : Table F
  pub value : ℕ → DeltaValue
  pub limits : List (Limit DeltaValue)

-- an entry by which a rise brings a variable that is too low (or, where `upper`, too high) back to its limit
abbrev pub HelpsByRising : Bool → ℚ → Type 0
HelpsByRising false e = whole (pos 0) <ℚ e
HelpsByRising true e = e <ℚ whole (pos 0)

abbrev pub HelpsByFalling : Bool → ℚ → Type 0
HelpsByFalling false e = e <ℚ whole (pos 0)
HelpsByFalling true e = whole (pos 0) <ℚ e

-- with the entry e in the row of a variable that is violated on this side, o with the value x can help it
abbrev pub Helps : Bool → ℚ → List (Limit DeltaValue) → ℕ → DeltaValue → Type 0
Helps upper e limits o x = (HelpsByRising upper e × MayRise limits o x) ⊎ (HelpsByFalling upper e × MayFall limits o x)

module _ {F : Type 0} (value : F → ℚ) where
  -- the value of each basic variable is the sum of its entries times the stands, in both parts
  pub record IsCorner (c : Corner F) : Type 0 where
    pub table : IsTable value c.table
    pub real : Meets value c.table (λ v. (c.value v).real)
    pub inf : Meets value c.table (λ v. (c.value v).inf)

  -- each variable that isn't basic is within its limits
  abbrev pub IsRepaired : Corner F → Type 0
  IsRepaired c = (v : ℕ) → is_basic c.table v ≡ false → IsWithin c.limits v (c.value v)

  -- o isn't basic, and a change of it brings b, violated on this side, nearer to its limit
  pub record CanHelp (c : Corner F) (upper : Bool) (b o : ℕ) : Type 0 where
    pub non_basic : is_basic c.table o ≡ false
    pub helps : Helps upper (entry value c.table b o) c.limits o (c.value o)

  -- b is the least basic variable that is violated, and on this side, the lower one if on both
  pub record IsLeastViolated (c : Corner F) (upper : Bool) (b : ℕ) : Type 0 where
    pub basic : is_basic c.table b ≡ true
    pub violated : IsViolated upper c.limits b (c.value b)
    pub lower_first : upper ≡ true → ¬ IsTooLow c.limits b (c.value b)
    pub least : (v : ℕ) → v < b → is_basic c.table v ≡ true → IsWithin c.limits v (c.value v)

  -- Bland's rule: the least violated basic variable, and the least one that can help it
  pub record IsBlandsChoice (c : Corner F) (upper : Bool) (b o : ℕ) : Type 0 where
    pub leaving : IsLeastViolated c upper b
    pub entering : CanHelp c upper b o
    pub least : (v : ℕ) → v < o → ¬ CanHelp c upper b v

  -- b and o have changed places, b stands at its limit on this side, and the other stands are what they were
  pub record IsAfterPivot (c : Corner F) (upper : Bool) (b o : ℕ) (d : Corner F) : Type 0 where
    pub exchanged : IsExchanged value b o c.table d.table
    pub same : (x : ℕ → ℚ) → Meets value d.table x → Meets value c.table x
    pub limit : Limit DeltaValue
    pub in_force : in_force upper b c.limits ≡ Some limit
    pub leaves_at : d.value b ≡ limit.at
    pub stands : (v : ℕ) → is_basic d.table v ≡ false → (v ≡ b → ⊥) → d.value v ≡ c.value v
    pub limits : d.limits ≡ c.limits
    pub corner : IsCorner d

  -- pivots by Bland's rule lead from one corner to the other
  abbrev pub PivotsLead : Corner F → List (ℕ × ℕ) → Corner F → Type 0
  PivotsLead c [] d = c ≡ d
  PivotsLead c (p ∷ ps) d =
      (upper : Bool) × IsBlandsChoice c upper p.0 p.1 × ((e : Corner F) × IsAfterPivot c upper p.0 p.1 e × PivotsLead e ps d)
