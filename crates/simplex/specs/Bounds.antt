-- What setting a bound does, and when it is refused.
use Rattle.std.specs.Prelude.{◌≡◌, ℕ, ℤ, Bool, true, false, not, if◌then◌else◌, ◌⊎◌, List, [], ◌∷◌, ◌++◌, None, Some, pos}
use Rattle.ordered_field.specs.Rational.{ℚ, whole, ◌*ℚ◌, neg_ℚ}
use Rattle.ordered_field.specs.Delta.{DeltaValue}
use Rattle.ordered_field.specs.LowestTerms.{Ratio}
use Rattle.ordered_field.specs.Wideness.{QuotientExceeds}
use Rattle.whole.specs.declared.answers.Op.TheVariants.{Product}
use Rattle.whole.specs.declared.answers.Place.TheVariants.{Bound as AtBound}
use Rattle.whole.specs.declared.answers.Stuck.{Stuck}
use Rattle.tableau.specs.Tables.{is_basic}
use Rattle.tableau.specs.Operations.{IsOperation}
use Rattle.tableau.specs.declared.fault.PivotFault.{PivotFault}
use Rattle.tableau.specs.declared.fault.PivotFault.TheVariants as fault
use Rattle.simplex.specs.declared.limits.Limit.{Limit}
use Rattle.simplex.specs.declared.outcome.Bound.{Bound}
use Rattle.simplex.specs.declared.outcome.Share.{Share}
use Rattle.simplex.specs.declared.outcome.Outcome.{Outcome}
use Rattle.simplex.specs.declared.outcome.Outcome.TheVariants as outcome
use Rattle.simplex.specs.Corners.{Corner, IsCorner}
use Rattle.simplex.specs.Limits.{in_force, IsMet, IsImplied, Contradicts, Excludes}
use Rattle.simplex.specs.Moves.{moved_value, IsStuckMove}
use Rattle.simplex.specs.Shares.{Weight, AreShares}
use Rattle.simplex.specs.States.{State, corner, Repeats}

-- a strict bound is one that may be met, moved by an infinitesimal amount
abbrev pub infinitesimal_of : Bound → ℚ
infinitesimal_of b = if b.strict then (if b.upper then neg_ℚ (whole (pos 1)) else whole (pos 1)) else whole (pos 0)

-- the limit of a bound: num / den, and the infinitesimal of a strict one
pub record IsLimitOf (b : Bound) (name : ℕ) (l : Limit DeltaValue) : Type 0 where
  pub var : l.var ≡ b.var
  pub upper : l.upper ≡ b.upper
  pub tag : l.tag ≡ name
  pub number : l.at.real *ℚ whole b.den ≡ whole b.num
  pub strict : l.at.inf ≡ infinitesimal_of b

-- num / den exceeds the limit
abbrev pub Overflows : ℕ → Bound → Type 0
Overflows limit b = QuotientExceeds limit (whole b.num) (whole b.den)

-- the product of num / 1 and 1 / den
pub record IsBoundProduct (v : ℕ) (num den : ℤ) (stuck : Stuck) : Type 0 where
  pub inverse : ℚ
  pub inverts : inverse *ℚ whole den ≡ whole (pos 1)
  pub operation : IsOperation AtBound v 0 Product (whole num) inverse stuck

-- that product, which overflows
pub record IsStuckBound (limit : ℕ) (b : Bound) (stuck : Stuck) : Type 0 where
  pub operation : IsBoundProduct b.var b.num b.den stuck
  pub overflows : Overflows limit b

-- the values after the limit is put in force: a variable that isn't basic and is outside moves to it
abbrev pub AreMovedInto : {F : Type 0} → (F → ℚ) → Corner F → Limit DeltaValue → (ℕ → DeltaValue) → Type 0
AreMovedInto value c l new =
    (((is_basic c.table l.var ≡ true) ⊎ IsMet (c.value l.var) l) × ((v : ℕ) → new v ≡ c.value v))
    ⊎ ((is_basic c.table l.var ≡ false) × (¬ IsMet (c.value l.var) l)
    × ((v : ℕ) → new v ≡ moved_value value c.table c.value l.var l.at v))

-- the limit is put in force, and nothing else changes
pub record IsPutInForce {F : Type 0} (value : F → ℚ) (old : State F) (l : Limit DeltaValue) (new : State F) : Type 0 where
  pub table : new.table ≡ old.table
  pub limits : (corner value new).limits ≡ (corner value old).limits ++ l ∷ []
  pub values : AreMovedInto value (corner value old) l (corner value new).value
  pub pivots : new.pivots ≡ old.pivots
  pub rest : new.rest ≡ None

abbrev pub with_one : Limit DeltaValue → Weight
with_one l = record { limit = l; factor = whole (pos 1) }

-- the two limits that contradict, each with 1, the lower one first
abbrev pub both_limits : Limit DeltaValue → Limit DeltaValue → List Weight
both_limits l h =
    if l.upper then with_one h ∷ with_one l ∷ [] else with_one l ∷ with_one h ∷ []

module _ {F : Type 0} (most : ℕ) (value : F → ℚ) where
  -- the bound is set, or implied by the one in force already
  pub record IsSet (old : State F) (b : Bound) (tag : ℕ) (new : State F) : Type 0 where
    pub fits : ¬ Overflows most b
    pub limit : Limit DeltaValue
    pub is_limit : IsLimitOf b tag limit
    pub agrees : ¬ Contradicts (corner value old).limits limit
    pub does :
        (IsImplied (corner value old).limits limit × (new ≡ old))
        ⊎ ((¬ IsImplied (corner value old).limits limit) × IsPutInForce value old limit new)

  -- the bound contradicts the one in force on the other side
  pub record IsRefused (old : State F) (b : Bound) (tag : ℕ) (answer : List (Share F)) (new : State F) : Type 0 where
    pub fits : ¬ Overflows most b
    pub limit : Limit DeltaValue
    pub is_limit : IsLimitOf b tag limit
    pub other : Limit DeltaValue
    pub in_force : in_force (not limit.upper) limit.var (corner value old).limits ≡ Some other
    pub excludes : Excludes limit.upper limit.at other.at
    pub shares : AreShares value (both_limits limit other) answer
    pub same : new ≡ old

  -- the bound's number is too wide, or an operation of the move to it
  pub record IsStuckMoving (old : State F) (b : Bound) (tag : ℕ) (stuck : Stuck) : Type 0 where
    pub fits : ¬ Overflows most b
    pub limit : Limit DeltaValue
    pub is_limit : IsLimitOf b tag limit
    pub agrees : ¬ Contradicts (corner value old).limits limit
    pub new : ¬ IsImplied (corner value old).limits limit
    pub non_basic : is_basic old.table limit.var ≡ false
    pub outside : ¬ IsMet ((corner value old).value limit.var) limit
    pub move : IsStuckMove most value old.table (corner value old).value limit.var limit.at stuck

  abbrev pub IsStuckSetting : State F → Bound → ℕ → Stuck → Type 0
  IsStuckSetting old b tag stuck = IsStuckBound most b stuck ⊎ IsStuckMoving old b tag stuck

  abbrev pub AnswersBoundAtWork : State F → Bound → ℕ → Outcome F → State F → Type 0
  AnswersBoundAtWork old b tag outcome.Fine new = IsSet old b tag new
  AnswersBoundAtWork old b tag (outcome.Conflict shares) new = IsRefused old b tag shares.items new
  AnswersBoundAtWork old b tag outcome.Spent new = ⊥
  AnswersBoundAtWork old b tag (outcome.Stuck stuck) new = IsStuckSetting old b tag stuck × (new ≡ record old { rest = Some (fault.Stuck stuck) })
  AnswersBoundAtWork old b tag outcome.NoMemory new = new ≡ record old { rest = Some fault.NoMemory }

  -- `set_bound` answers so and leaves this state
  pub record AnswersBound (old : State F) (b : Bound) (tag : ℕ) (answer : Outcome F) (new : State F) : Type 0 where
    pub at_work : old.rest ≡ None → AnswersBoundAtWork old b tag answer new
    pub at_rest : (fault : PivotFault) → old.rest ≡ Some fault → Repeats fault answer × (new ≡ old)
