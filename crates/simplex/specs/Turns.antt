-- One turn of `check`: a pivot, or what ends it.
use Rattle.std.specs.Prelude.{◌≡◌, ℕ, ◌<◌, Bool, true, ◌⊎◌, ◌↔◌, List, [], ◌∷◌, ◌++◌, Option, None, Some}
use Rattle.ordered_field.specs.Rational.{ℚ}
use Rattle.whole.specs.Budget.{Counts, spent}
use Rattle.tableau.specs.Tables.{variables, is_basic, Meets}
use Rattle.simplex.specs.declared.outcome.Outcome.{Outcome}
use Rattle.simplex.specs.declared.outcome.Outcome.TheVariants as outcome
use Rattle.simplex.specs.Assignments.{Assigned, IsAssignment, corner_of}
use Rattle.simplex.specs.Checks.{CannotBeHelped, MayPivot, pivots_charged}
use Rattle.simplex.specs.Corners.{Corner, IsRepaired, IsBlandsChoice, IsAfterPivot}
use Rattle.simplex.specs.Limits.{Held, IsWithin}
use Rattle.simplex.specs.Moves.{IsStuckPivot}
use Rattle.ordered_field.specs.Delta.{DeltaValue}

-- the pivots that are listed, and what the budget counted
pub record Tally : Type 0 where
  pub pivots : List (ℕ × ℕ)
  pub counts : Counts

abbrev pub tally : List (ℕ × ℕ) → Counts → Tally
tally ps c = record { pivots = ps; counts = c }

-- one more pivot is listed and charged
abbrev pub one_more : ℕ → ℕ → Tally → Tally
one_more b o t = record { pivots = t.pivots ++ (b, o) ∷ []; counts = pivots_charged 1 t.counts }

module _ {F : Type 0} (limit : ℕ) (value : F → ℚ) where
  -- a pivot by Bland's rule is listed and charged, and P holds of it
  pub record Pivots (c : Corner F) (old : Tally) (P : Bool → ℕ → ℕ → Type 0) (new : Tally) : Type 0 where
    pub upper : Bool
    pub basic : ℕ
    pub other : ℕ
    pub choice : IsBlandsChoice value c upper basic other
    pub tally : new ≡ one_more basic other old
    pub after : P upper basic other

  abbrev pub AnswersTurn : Corner F → Tally → Option (Outcome F) → Corner F → Tally → Type 0
  AnswersTurn c old None d new = Pivots c old (λ upper b o. IsAfterPivot value c upper b o d) new × IsRepaired value d
  AnswersTurn c old (Some outcome.Fine) d new =
      (d ≡ c) × (new ≡ old) × ((v : ℕ) → is_basic c.table v ≡ true → IsWithin c.limits v (c.value v))
  AnswersTurn c old (Some (outcome.Conflict shares)) d new = (d ≡ c) × (new ≡ old) × CannotBeHelped limit value c shares.items
  AnswersTurn c old (Some outcome.Spent) d new = (d ≡ c) × (new ≡ old) × (spent old.counts ≡ old.counts.limit) × MayPivot limit value c
  AnswersTurn c old (Some (outcome.Stuck stuck)) d new = Pivots c old (λ upper b o. IsStuckPivot limit value c upper b o stuck) new
  AnswersTurn c old (Some outcome.NoMemory) d new = ((d ≡ c) × (new ≡ old)) ⊎ Pivots c old (λ upper b o. Unit {0}) new

  -- a conflict, or want of memory
  abbrev pub EndsHelpless : Corner F → Outcome F → Type 0
  EndsHelpless c outcome.Fine = ⊥
  EndsHelpless c (outcome.Conflict shares) = CannotBeHelped limit value c shares.items
  EndsHelpless c outcome.Spent = ⊥
  EndsHelpless c (outcome.Stuck stuck) = ⊥
  EndsHelpless c outcome.NoMemory = Unit {0}

  -- the pivot was carried out, or an operation of it was too wide, or memory ran out
  abbrev pub EndsPivot : Corner F → Bool → ℕ → ℕ → Option (Outcome F) → Corner F → Type 0
  EndsPivot c upper b o None d = IsAfterPivot value c upper b o d × IsRepaired value d
  EndsPivot c upper b o (Some outcome.Fine) d = ⊥
  EndsPivot c upper b o (Some (outcome.Conflict shares)) d = ⊥
  EndsPivot c upper b o (Some outcome.Spent) d = ⊥
  EndsPivot c upper b o (Some (outcome.Stuck stuck)) d = IsStuckPivot limit value c upper b o stuck
  EndsPivot c upper b o (Some outcome.NoMemory) d = Unit {0}

-- the new assignment is sound, and the same vectors meet its rows
pub record IsKeptSound {F : Type 0} (value : F → ℚ) (a b : Assigned F) : Type 0 where
  pub sound : IsAssignment value b
  pub count : variables b.table ≡ variables a.table
  pub same : (x : ℕ → ℚ) → Meets value b.table x ↔ Meets value a.table x
