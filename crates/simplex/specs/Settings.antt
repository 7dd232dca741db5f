-- The steps by which a bound is set.
use Rattle.std.specs.Prelude.{◌≡◌, ℕ, Bool, true, false, not, ◌⊎◌, List, [], ◌∷◌, ◌++◌, None, Some, pos}
use Rattle.ordered_field.specs.Rational.{ℚ, whole}
use Rattle.ordered_field.specs.Delta.{DeltaValue}
use Rattle.ordered_field.specs.declared.delta.Delta.{Delta}
use Rattle.whole.specs.declared.answers.Stuck.{Stuck}
use Rattle.tableau.specs.Tables.{is_basic}
use Rattle.simplex.specs.declared.limits.Limit.{Limit}
use Rattle.simplex.specs.declared.outcome.Share.{Share}
use Rattle.simplex.specs.Limits.{Held, limit_value, in_force, Excludes, IsMet, Contradicts, IsImplied}
use Rattle.simplex.specs.Assignments.{Assigned, value_of, corner_of, IsBuilt}
use Rattle.simplex.specs.declared.outcome.Outcome.{Outcome}
use Rattle.simplex.specs.declared.outcome.Outcome.TheVariants as outcome
use Rattle.simplex.specs.Bounds.{AreMovedInto, both_limits}
use Rattle.simplex.specs.Shares.{AreShares}
use Rattle.simplex.specs.States.{limits_in}
use Rattle.simplex.specs.Moves.{IsStuckMove}

-- h is in force on the other side of l's variable, and no number is within both
pub record Opposes (limits : List (Limit DeltaValue)) (l h : Limit DeltaValue) : Type 0 where
  pub in_force : in_force (not l.upper) l.var limits ≡ Some h
  pub excludes : Excludes l.upper l.at h.at

-- two shares of 1
abbrev pub AreOnes : {F : Type 0} → (F → ℚ) → ℕ → ℕ → List (Share F) → Type 0
AreOnes value lower upper [] = ⊥
AreOnes value lower upper (s ∷ []) = ⊥
AreOnes value lower upper (s ∷ t ∷ []) =
    (s.tag ≡ lower) × (value s.mult ≡ whole (pos 1)) × (t.tag ≡ upper) × (value t.mult ≡ whole (pos 1))
AreOnes value lower upper (s ∷ t ∷ u ∷ us) = ⊥

-- the answer to whether the limit's variable isn't basic and is outside
abbrev pub MustMove : {F : Type 0} → (F → ℚ) → Assigned F → Limit DeltaValue → Bool → Type 0
MustMove value a l true = (is_basic a.table l.var ≡ false) × (¬ IsMet (value_of value a l.var) l)
MustMove value a l false = (is_basic a.table l.var ≡ true) ⊎ IsMet (value_of value a l.var) l

-- the limit is put in force
pub record IsPut {F : Type 0} (value : F → ℚ) (a : Assigned F) (h : Held F) (l : Limit (Delta F)) (b : Assigned F) (k : Held F) : Type 0 where
  pub table : b.table ≡ a.table
  pub limits : k.limits ≡ h.limits ++ l ∷ []
  pub values : AreMovedInto value (corner_of value a h) (limit_value value l) (value_of value b)
  pub built : IsBuilt value b k None

-- an operation of the move of the limit's variable to it is too wide
pub record IsStuckPut {F : Type 0} (limit : ℕ) (value : F → ℚ) (a : Assigned F) (l : Limit DeltaValue) (stuck : Stuck) : Type 0 where
  pub non_basic : is_basic a.table l.var ≡ false
  pub outside : ¬ IsMet (value_of value a l.var) l
  pub move : IsStuckMove limit value a.table (value_of value a) l.var l.at stuck

-- what setting a limit answers, and what it leaves
module _ {F : Type 0} (limit : ℕ) (value : F → ℚ) where
  pub record IsOpposed (h : Held F) (l : Limit (Delta F)) (answer : List (Share F)) : Type 0 where
    pub other : Limit DeltaValue
    pub opposes : Opposes (limits_in value h.limits) (limit_value value l) other
    pub shares : AreShares value (both_limits (limit_value value l) other) answer

  abbrev pub SetsLimit : Assigned F → Held F → Limit (Delta F) → Outcome F → Assigned F → Held F → Type 0
  SetsLimit a h l outcome.Fine b k =
      (¬ Contradicts (limits_in value h.limits) (limit_value value l))
      × ((IsImplied (limits_in value h.limits) (limit_value value l) × (b ≡ a) × (k ≡ h))
      ⊎ ((¬ IsImplied (limits_in value h.limits) (limit_value value l)) × IsPut value a h l b k))
  SetsLimit a h l (outcome.Conflict shares) b k = IsOpposed h l shares.items × (b ≡ a) × (k ≡ h)
  SetsLimit a h l outcome.Spent b k = ⊥
  SetsLimit a h l (outcome.Stuck stuck) b k =
      (¬ Contradicts (limits_in value h.limits) (limit_value value l)) × (¬ IsImplied (limits_in value h.limits) (limit_value value l))
      × IsStuckPut limit value a (limit_value value l) stuck × (b ≡ a) × (k ≡ h)
  SetsLimit a h l outcome.NoMemory b k = (b ≡ a) × (k ≡ h)
