-- What `check` does and answers.
use Rattle.std.specs.Prelude.{◌≡◌, ℕ, ◌+◌, ◌<◌, Bool, ◌⊎◌, List, [], ◌∷◌, ◌++◌, length, None, Some}
use Rattle.ordered_field.specs.Rational.{ℚ}
use Rattle.whole.specs.Budget.{Counts, spent}
use Rattle.whole.specs.declared.answers.Stuck.{Stuck}
use Rattle.tableau.specs.Tables.{variables}
use Rattle.tableau.specs.declared.fault.PivotFault.{PivotFault}
use Rattle.tableau.specs.declared.fault.PivotFault.TheVariants as fault
use Rattle.simplex.specs.declared.outcome.Outcome.{Outcome}
use Rattle.simplex.specs.declared.outcome.Outcome.TheVariants as outcome
use Rattle.simplex.specs.declared.outcome.Share.{Share}
use Rattle.simplex.specs.Corners.{Corner, CanHelp, IsLeastViolated, IsBlandsChoice, PivotsLead}
use Rattle.simplex.specs.Limits.{IsWithin}
use Rattle.simplex.specs.Moves.{IsStuckPivot}
use Rattle.simplex.specs.Shares.{IsConflict}
use Rattle.simplex.specs.States.{State, corner, Repeats}

-- each pivot is charged, and nothing else
abbrev pub pivots_charged : ℕ → Counts → Counts
pivots_charged n c = record c { pivots = c.pivots + n }

module _ {F : Type 0} (limit : ℕ) (value : F → ℚ) where
  -- every value is within its limits
  abbrev pub AllWithin : Corner F → Type 0
  AllWithin c = (v : ℕ) → v < variables c.table → IsWithin c.limits v (c.value v)

  -- the least violated basic variable can't be helped
  abbrev pub CannotBeHelped : Corner F → List (Share F) → Type 0
  CannotBeHelped c shares =
      (upper : Bool) × ((b : ℕ) × (IsLeastViolated value c upper b × ((o : ℕ) → ¬ CanHelp value c upper b o) × IsConflict value c upper b shares))

  -- some pivot may be made
  abbrev pub MayPivot : Corner F → Type 0
  MayPivot c = (upper : Bool) × ((b : ℕ) × ((o : ℕ) × IsBlandsChoice value c upper b o))

  -- the last pivot is Bland's choice at the corner that those before it lead to
  pub record EndsIn (c : Corner F) (ps : List (ℕ × ℕ)) (Last : Corner F → Bool → ℕ → ℕ → Type 0) : Type 0 where
    pub front : List (ℕ × ℕ)
    pub basic : ℕ
    pub other : ℕ
    pub upper : Bool
    pub at : Corner F
    pub all : ps ≡ front ++ (basic, other) ∷ []
    pub leads : PivotsLead value c front at
    pub choice : IsBlandsChoice value at upper basic other
    pub last : Last at upper basic other

  -- pivots were made, and it works on
  pub record Made (old : State F) (new : State F) : Type 0 where
    pub leads : PivotsLead value (corner value old) new.pivots (corner value new)
    pub rest : new.rest ≡ None

  abbrev pub AnswersCheckAtWork : State F → Outcome F → State F → Counts → Type 0
  AnswersCheckAtWork old outcome.Fine new after = Made old new × AllWithin (corner value new)
  AnswersCheckAtWork old (outcome.Conflict shares) new after = Made old new × CannotBeHelped (corner value new) shares.items
  AnswersCheckAtWork old outcome.Spent new after = Made old new × (spent after ≡ after.limit) × MayPivot (corner value new)
  AnswersCheckAtWork old (outcome.Stuck stuck) new after =
      EndsIn (corner value old) new.pivots (λ c upper b o. IsStuckPivot limit value c upper b o stuck)
      × (new.rest ≡ Some (fault.Stuck stuck))
  AnswersCheckAtWork old outcome.NoMemory new after =
      (PivotsLead value (corner value old) new.pivots (corner value new) ⊎ EndsIn (corner value old) new.pivots (λ c upper b o. Unit {0}))
      × (new.rest ≡ Some fault.NoMemory)

  -- `check` answers so, leaves this state, and charges its pivots
  pub record AnswersCheck (old : State F) (answer : Outcome F) (new : State F) (before after : Counts) : Type 0 where
    pub charged : after ≡ pivots_charged (length new.pivots) before
    pub limits : new.limits ≡ old.limits
    pub at_work : old.rest ≡ None → AnswersCheckAtWork old answer new after
    pub at_rest : (fault : PivotFault) → old.rest ≡ Some fault → Repeats fault answer × (new ≡ record old { pivots = [] })
