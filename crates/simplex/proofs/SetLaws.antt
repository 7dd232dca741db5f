-- Setting a limit answers what setting its bound does.
use Rattle.std.proofs.Common.{◌≡◌, ℕ, List, ◌++◌, ◌∷◌, [], None, ◌⊎◌, inl, inr, refl, sym, ap, subst, ◌∙◌}
use Rattle.ordered_field.specs.Rational.{ℚ}
use Rattle.ordered_field.specs.Delta.{DeltaValue}
use Rattle.ordered_field.specs.declared.delta.Delta.{Delta}
use Rattle.simplex.specs.declared.limits.Limit.{Limit}
use Rattle.simplex.specs.declared.outcome.Bound.{Bound}
use Rattle.simplex.specs.declared.outcome.Outcome.{Outcome}
use Rattle.simplex.specs.declared.outcome.Outcome.TheVariants as outcome
use Rattle.simplex.specs.Limits.{Held, limit_value}
use Rattle.simplex.specs.Bounds.{IsLimitOf, Overflows, AnswersBoundAtWork}
use Rattle.simplex.specs.States.{State, limits_in, rest_of}
use Rattle.simplex.specs.Assignments.{Assigned, state_of}
use Rattle.simplex.specs.Settings.{SetsLimit}
use Rattle.simplex.proofs.SettingLaws.{limits_in-append}

module _ {F : Type 0} (most : ℕ) (value : F → ℚ) (a b : Assigned F) (h k : Held F) (l : Limit (Delta F)) (bound : Bound) (tag : ℕ) (ps : List (ℕ × ℕ)) (fits : Overflows most bound → ⊥) (is_limit : IsLimitOf bound tag (limit_value value l)) where
  -- nothing changes but whether it rests
  same : (answer : Outcome F) → b ≡ a → k ≡ h → state_of b k ps (rest_of answer) ≡ state_of a h ps (rest_of answer)
  same answer e f = ap (λ x. state_of x k ps (rest_of answer)) e ∙ ap (λ x. state_of a x ps (rest_of answer)) f

  pub sets_bound : (answer : Outcome F) → SetsLimit most value a h l answer b k → AnswersBoundAtWork most value (state_of a h ps None) bound tag answer (state_of b k ps (rest_of answer))
  sets_bound outcome.Fine (agrees, inl implied) = record {
    fits = fits;
    limit = limit_value value l;
    is_limit = is_limit;
    agrees = agrees;
    does = inl (implied.0, same outcome.Fine implied.1 implied.2);
  }
  sets_bound outcome.Fine (agrees, inr put) = record {
    fits = fits;
    limit = limit_value value l;
    is_limit = is_limit;
    agrees = agrees;
    does = inr (
      put.0,
      record {
        table = put.1.table;
        limits = ap (limits_in value) put.1.limits ∙ limits_in-append value h.limits l;
        values = put.1.values;
        pivots = refl;
        rest = refl;
      },
    );
  }
  sets_bound (outcome.Conflict shares) (opposed, e, f) = record {
    fits = fits;
    limit = limit_value value l;
    is_limit = is_limit;
    other = opposed.other;
    in_force = opposed.opposes.in_force;
    excludes = opposed.opposes.excludes;
    shares = opposed.shares;
    same = same (outcome.Conflict shares) e f;
  }
  sets_bound outcome.Spent none = absurd none
  sets_bound (outcome.Stuck stuck) (agrees, stronger, put, e, f) = (
    inr (record {
      fits = fits;
      limit = limit_value value l;
      is_limit = is_limit;
      agrees = agrees;
      new = stronger;
      non_basic = put.non_basic;
      outside = put.outside;
      move = put.move;
    }),
    same (outcome.Stuck stuck) e f,
  )
  sets_bound outcome.NoMemory (e, f) = same outcome.NoMemory e f
