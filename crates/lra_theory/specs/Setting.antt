-- What a literal does to the corner.
use Rattle.std.specs.Prelude.{◌≡◌, ℕ, List, [], ◌∷◌, ◌++◌, length, not, false, ◌⊎◌, Some, slice_get, MatchOption, IsSomeAnd, nat_lt, filter}
use Rattle.ordered_field.specs.Rational.{ℚ}
use Rattle.ordered_field.specs.Delta.{DeltaValue}
use Rattle.whole.specs.declared.answers.Stuck.{Stuck}
use Rattle.tableau.specs.Tables.{is_basic}
use Rattle.farkas_cert.specs.declared.literals.Lit.{Lit}
use Rattle.simplex.specs.declared.limits.Limit.{Limit}
use Rattle.simplex.specs.Bounds.{IsLimitOf, IsStuckBound, AreMovedInto}
use Rattle.simplex.specs.Corners.{Corner}
use Rattle.simplex.specs.Limits.{in_force, IsMet, IsImplied, Contradicts, Excludes}
use Rattle.simplex.specs.Moves.{IsStuckMove}
use Rattle.lra_theory.specs.Literals.{bound_of, HasLimit}
use Rattle.lra_theory.specs.States.{State}

-- the limits that the first literals gave, this many of them
abbrev pub given_by_first : ℕ → List (Limit DeltaValue) → List (Limit DeltaValue)
given_by_first mark limits = filter (λ l. nat_lt l.tag mark) limits

-- the literal at this position gives a limit that contradicts the one in force on the other side
pub record Opposes {F : Type 0} (s : State F) (position : ℕ) (limit other : Limit DeltaValue) : Type 0 where
  pub lit : Lit
  pub told : slice_get s.told position ≡ Some lit
  pub gives : HasLimit s.rows position lit limit
  pub in_force : in_force (not limit.upper) limit.var s.corner.limits ≡ Some other
  pub excludes : Excludes limit.upper limit.at other.at

module _ {F : Type 0} (value : F → ℚ) where
  -- the limit is put in force: a variable that isn't basic and is outside moves to it
  pub record IsPutInForce (c : Corner F) (l : Limit DeltaValue) (d : Corner F) : Type 0 where
    pub table : d.table ≡ c.table
    pub limits : d.limits ≡ c.limits ++ l ∷ []
    pub values : AreMovedInto value c l d.value

  -- a limit that contradicts, or is no stronger than the one in force, changes nothing; another one is put in force
  abbrev pub SetsLimit : Corner F → Limit DeltaValue → Corner F → Type 0
  SetsLimit c l d =
      ((Contradicts c.limits l ⊎ IsImplied c.limits l) × (d ≡ c))
      ⊎ ((¬ Contradicts c.limits l) × (¬ IsImplied c.limits l) × IsPutInForce c l d)

  -- the literal's bound is set; a literal of no row changes nothing
  abbrev pub SetsBound : State F → Lit → Corner F → Type 0
  SetsBound s l d =
      MatchOption (bound_of s.rows l) (d ≡ s.corner)
      (λ b. (limit : Limit DeltaValue) × IsLimitOf b (length s.told) limit × SetsLimit s.corner limit d)

  -- an operation of the move of the limit's variable to it is too wide
  pub record IsStuckMoving (most : ℕ) (c : Corner F) (limit : Limit DeltaValue) (stuck : Stuck) : Type 0 where
    pub agrees : ¬ Contradicts c.limits limit
    pub new : ¬ IsImplied c.limits limit
    pub non_basic : is_basic c.table limit.var ≡ false
    pub outside : ¬ IsMet (c.value limit.var) limit
    pub move : IsStuckMove most value c.table c.value limit.var limit.at stuck

  -- the literal's bound, or an operation of the move to it, is too wide
  abbrev pub IsStuckSetting : ℕ → State F → Lit → Stuck → Type 0
  IsStuckSetting most s l stuck =
      IsSomeAnd (bound_of s.rows l)
      (λ b. IsStuckBound most b stuck ⊎ ((limit : Limit DeltaValue) × IsLimitOf b (length s.told) limit × IsStuckMoving most s.corner limit stuck))
