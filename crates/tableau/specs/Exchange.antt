-- The exchange of a basic variable and one that isn't.
use Rattle.std.specs.Prelude.{◌≡◌, ℕ, true, false, ◌⊎◌, pos}
use Rattle.ordered_field.specs.Rational.{ℚ, whole, ◌*ℚ◌}
use Rattle.ordered_field.specs.Wideness.{Exceeds, SumIsWide}
use Rattle.field_rows.specs.Rows.{dividend, without, AreQuotients, IsSubstituted, SomeQuotientIsWide, SomeEntryIsWide}
use Rattle.whole.specs.declared.answers.Op.TheVariants.{Product, Sum}
use Rattle.whole.specs.declared.answers.Place.TheVariants.{Pivot}
use Rattle.whole.specs.declared.answers.Stuck.{Stuck}
use Rattle.tableau.specs.Tables.{Table, variables, is_basic, entry}
use Rattle.tableau.specs.Operations.{IsOperation}

-- b and o have changed places: b's row solved for o is o's row, and is put in o's place in each other row
pub record IsExchanged {F : Type 0} (value : F → ℚ) (b o : ℕ) (old new : Table F) : Type 0 where
  pub columns : new.columns ≡ old.columns
  pub count : variables new ≡ variables old
  pub leaving : is_basic new b ≡ false
  pub entering : is_basic new o ≡ true
  pub others : (v : ℕ) → (v ≡ b → ⊥) → (v ≡ o → ⊥) → is_basic new v ≡ is_basic old v
  pub left : (v : ℕ) → entry value new b v ≡ whole (pos 0)
  pub solved : AreQuotients b o (entry value old b) (entry value new o)
  pub followed :
      (r : ℕ) → (r ≡ b → ⊥) → (r ≡ o → ⊥) → IsSubstituted o (entry value new o) (entry value old r) (entry value new r)

-- no operation of the exchange is too wide: neither a quotient of b's row, nor a product or sum of a row that follows
pub record ExchangeFits {F : Type 0} (limit : ℕ) (value : F → ℚ) (b o : ℕ) (old new : Table F) : Type 0 where
  pub quotients : ¬ SomeQuotientIsWide limit b o (entry value old b)
  pub entries :
      (r : ℕ) → is_basic old r ≡ true → (r ≡ b → ⊥) → ¬ SomeEntryIsWide limit o (entry value new o) (entry value old r)

-- a quotient of b's row, solved for o, is too wide: the product of its dividend and 1 over the row's coefficient of o
pub record IsStuckQuotient (limit : ℕ) (b o : ℕ) (c : ℕ → ℚ) (stuck : Stuck) : Type 0 where
  pub variable : ℕ
  pub inverse : ℚ
  pub inverts : inverse *ℚ c o ≡ whole (pos 1)
  pub operation : IsOperation Pivot o variable Product (dividend b o c variable) inverse stuck
  pub overflows : Exceeds limit (dividend b o c variable *ℚ inverse)

-- the product of a row's coefficient of o and an entry of the solved row d is too wide
pub record IsStuckProduct (limit : ℕ) (r o : ℕ) (d c : ℕ → ℚ) (stuck : Stuck) : Type 0 where
  pub variable : ℕ
  pub operation : IsOperation Pivot r variable Product (c o) (d variable) stuck
  pub overflows : Exceeds limit (c o *ℚ d variable)

-- the sum of a row's entry and that product is too wide
pub record IsStuckSum (limit : ℕ) (r o : ℕ) (d c : ℕ → ℚ) (stuck : Stuck) : Type 0 where
  pub variable : ℕ
  pub operation : IsOperation Pivot r variable Sum (without o c variable) (c o *ℚ d variable) stuck
  pub overflows : SumIsWide limit (without o c variable) (c o *ℚ d variable)

-- the operation is one of the row c of variable r, with d in the place of o, and too wide
abbrev pub IsStuckStep : ℕ → ℕ → ℕ → (ℕ → ℚ) → (ℕ → ℚ) → Stuck → Type 0
IsStuckStep limit r o d c stuck = IsStuckProduct limit r o d c stuck ⊎ IsStuckSum limit r o d c stuck

-- an operation is too wide in the row of another basic variable, which follows b's row solved for o
pub record IsStuckFollowing {F : Type 0} (limit : ℕ) (value : F → ℚ) (b o : ℕ) (t : Table F) (stuck : Stuck) : Type 0 where
  pub row : ℕ
  pub basic : is_basic t row ≡ true
  pub other : row ≡ b → ⊥
  pub solved : ℕ → ℚ
  pub quotients : AreQuotients b o (entry value t b) solved
  pub operation : IsStuckStep limit row o solved (entry value t row) stuck

-- the operation is one of the exchange of b and o, and too wide
abbrev pub IsStuckExchange : {F : Type 0} → ℕ → (F → ℚ) → ℕ → ℕ → Table F → Stuck → Type 0
IsStuckExchange limit value b o t stuck =
    IsStuckQuotient limit b o (entry value t b) stuck ⊎ IsStuckFollowing limit value b o t stuck
