-- What a simplex's answers give the tests: after Fine it works on, and after the Fine of a check all values are within
-- their bounds.
use Rattle.std.proofs.Common.{◌≡◌, ℕ, None, inl, inr, ap, ◌∙◌}
use Rattle.ordered_field.specs.Rational.{ℚ}
use Rattle.whole.specs.Budget.{Counts}
use Rattle.simplex.specs.declared.outcome.Bound.{Bound}
use Rattle.simplex.specs.declared.outcome.Outcome.TheVariants as outcome
use Rattle.simplex.specs.Bounds.{AnswersBound}
use Rattle.simplex.specs.Checks.{AllWithin, AnswersCheck}
use Rattle.simplex.specs.States.{State, corner}

module _ {F : Type 0} (limit : ℕ) (value : F → ℚ) where
  pub set_works : (old new : State F) (b : Bound) (tag : ℕ) → old.rest ≡ None → AnswersBound limit value old b tag outcome.Fine new → new.rest ≡ None
  set_works old new b tag works answers =
      elim (answers.at_work works).does [ inl h ↦ ap (λ s. s.rest) h.1 ∙ works | inr h ↦ h.1.rest ]

  pub fine_within : (old new : State F) (before after : Counts) → old.rest ≡ None → AnswersCheck limit value old outcome.Fine new before after
      → AllWithin limit value (corner value new)
  fine_within old new before after works answers = (answers.at_work works).1
