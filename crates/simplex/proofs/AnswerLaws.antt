-- What ends a turn, from what ended its parts.
use Rattle.std.proofs.Common.{◌≡◌, ℕ, Bool, List, Option, None, Some, ◌⊎◌, inl, inr, refl, sym, subst}
use Rattle.ordered_field.specs.Rational.{ℚ}
use Rattle.simplex.specs.declared.outcome.Outcome.{Outcome}
use Rattle.simplex.specs.declared.outcome.Outcome.TheVariants as outcome
use Rattle.simplex.specs.Corners.{Corner, IsBlandsChoice}
use Rattle.simplex.specs.Turns.{Tally, one_more, AnswersTurn, EndsHelpless, EndsPivot}

module _ {F : Type 0} (limit : ℕ) (value : F → ℚ) (c : Corner F) (old : Tally) where
  pub helpless_answers : (answer : Outcome F) → EndsHelpless limit value c answer → AnswersTurn limit value c old (Some answer) c old
  helpless_answers outcome.Fine h = absurd h
  helpless_answers (outcome.Conflict shares) h = (refl, refl, h)
  helpless_answers outcome.Spent h = absurd h
  helpless_answers (outcome.Stuck stuck) h = absurd h
  helpless_answers outcome.NoMemory h = inl (refl, refl)

  pub pivot_answers : (upper : Bool) (b o : ℕ) → IsBlandsChoice value c upper b o → (d : Corner F) (new : Tally) → new ≡ one_more b o old → (answer : Option (Outcome F)) → EndsPivot limit value c upper b o answer d → AnswersTurn limit value c old answer d new
  pivot_answers upper b o choice d new listed None h =
      (record { upper = upper; basic = b; other = o; choice = choice; tally = listed; after = h.0 }, h.1)
  pivot_answers upper b o choice d new listed (Some outcome.Fine) h = absurd h
  pivot_answers upper b o choice d new listed (Some (outcome.Conflict shares)) h = absurd h
  pivot_answers upper b o choice d new listed (Some outcome.Spent) h = absurd h
  pivot_answers upper b o choice d new listed (Some (outcome.Stuck stuck)) h =
      record { upper = upper; basic = b; other = o; choice = choice; tally = listed; after = h }
  pivot_answers upper b o choice d new listed (Some outcome.NoMemory) h =
      inr (record { upper = upper; basic = b; other = o; choice = choice; tally = listed; after = tt })
