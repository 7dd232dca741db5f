-- The terms of expressions, brought to a scale that all denominators divide, for any way `term` of making a term.
use Rattle.std.specs.Prelude.{ℕ, ◌-◌, ℤ, neg_ℤ, List, [], ◌∷◌, ◌++◌, fold, flat_map, All}
use Rattle.claims.specs.Subjects.{Subject, constant, of_service, of_state}
use Rattle.weighing.specs.Claim.{Compared}
use Rattle.weighing.specs.Scaled.{IsNum, common, scaled}
use Rattle.weighing.specs.declared.scales.Side.{Side}
use Rattle.weighing.specs.declared.scales.Side.TheVariants.{Left, Right}
use Rattle.weighing.specs.declared.weighings.Rel5.{Rel5}
use Rattle.run_rows.specs.declared.rows.Run.{Run}
use Rattle.ctrl_types.specs.Limits.{IsSource}
use Rattle.ctrl_types.specs.declared.expressions.Lin.{Lin}
use Rattle.ctrl_types.specs.declared.expressions.LinTerm.{LinTerm}
use Rattle.ctrl_types.specs.declared.expressions.Source.{Source}
use Rattle.ctrl_types.specs.declared.expressions.Source.TheVariants.{One, State, Acked, Lost}
use Rattle.ctrl_meaning.specs.Readings.{losses_heard, losses_heard_before, states_at}
use Rattle.ctrl_meaning.specs.declared.readings.ReadPoint.{ReadPoint}

-- a multiple of what a term is taken of; a signal is the growth of an entry in the step that the sender hears of
abbrev pub source_terms : {T : Type 0} → (ℤ → Subject → T) → ReadPoint → ℤ → Source → List T
source_terms term at k One = term k constant ∷ []
source_terms term at k (State j) = term k (of_state at.states at.flow j) ∷ []
source_terms term at k Acked = term k (of_service at.heard at.flow) ∷ term (neg_ℤ k) (of_service (at.heard - 1) at.flow) ∷ []
source_terms term at k Lost = term k (losses_heard at) ∷ term (neg_ℤ k) (losses_heard_before at) ∷ []

abbrev pub term_terms : {T : Type 0} → (ℤ → Subject → T) → ReadPoint → Side → ℕ → LinTerm → List T
term_terms term at side scale t = source_terms term at (scaled side scale t.coef) t.of

-- the terms of an expression on a side of a comparison
abbrev pub lin_terms : {T : Type 0} → (ℤ → Subject → T) → ReadPoint → Side → ℕ → List LinTerm → List T
lin_terms term at side scale terms = flat_map (term_terms term at side scale) terms

-- the least common multiple of a scale and the denominators of an expression
abbrev pub scale_with : ℕ → List LinTerm → ℕ
scale_with scale terms = fold (λ m t. common m t.coef) scale terms

abbrev pub scale_of_two : Lin → Lin → ℕ
scale_of_two left right = scale_with (scale_with 1 left.terms) right.terms

-- a written comparison: the terms of its left side, then those of its right side with their signs turned
abbrev pub comparison_claim : {T : Type 0} → (ℤ → Subject → T) → ReadPoint → Lin → Rel5 → Lin → Compared T
comparison_claim term at left rel right =
    let scale = scale_of_two left right in
    record { terms = lin_terms term at Left scale left.terms ++ lin_terms term at Right scale right.terms; rel = rel }

-- what the code needs of an expression's terms
pub record IsTerm (states : ℕ) (t : LinTerm) : Type 0 where
  pub coef_in : IsNum t.coef
  pub source_in : IsSource states t.of

abbrev pub AreTerms : Run → ReadPoint → List LinTerm → Type 0
AreTerms r at terms = All (IsTerm (states_at r at)) terms
