-- What a question claims of the runs that violate it, in the order in which the formulas of an unrolled problem stand: each
-- assumption, and last that the requirement is false.
use Rattle.std.specs.Prelude.{ℕ, ◌+◌, ◌≤◌, ℤ, List, [], ◌∷◌, ◌++◌, All, map, length}
use Rattle.condition_tree.specs.Trees as trees
use Rattle.claims.specs.Subjects.{Subject}
use Rattle.weighing.specs.Claim.{Claims}
use Rattle.weighing.specs.Scaled.{IsNum}
use Rattle.run_rows.specs.declared.shapes.Shape.{Shape}
use Rattle.path_server.specs.Limits.{IsSetting}
use Rattle.path_server.specs.declared.settings.Setting.{Setting}
use Rattle.question_text.specs.Conditions.{Condition, EachComparison, condition_of}
use Rattle.question_text.specs.Expressions.{condition_claim, scale_of_two}
use Rattle.question_text.specs.Limits.{IsTerm}
use Rattle.question_text.specs.declared.names.Rows.{Rows}
use Rattle.question_text.specs.declared.conditions.Of.{Of}
use Rattle.question_text.specs.declared.conditions.Of.TheVariants.{One, Credit, W, A, S, L, X}
use Rattle.question_text.specs.declared.conditions.QCond.{QCond}
use Rattle.question_text.specs.declared.conditions.QLin.{QLin}
use Rattle.question_text.specs.declared.conditions.QTerm.{QTerm}
use Rattle.question_text.specs.declared.questions.Question.{Question}

abbrev pub assumed_claim : {T : Type 0} → (ℤ → Subject → T) → ℕ → Rows → QCond → Claims T
assumed_claim term n at c = condition_claim term n at (condition_of c)

abbrev pub question_claims : {T : Type 0} → (ℤ → Subject → T) → ℕ → Rows → Question → List (Claims T)
question_claims term n at q = map (assumed_claim term n at) q.assumes ++ trees.opposite (assumed_claim term n at q.require) ∷ []

-- the rows on which the steps of the shape's runs stand
abbrev pub rows_for : Shape → Rows
rows_for s = record { opening = s.h; last = s.h + s.t }

-- ---- what unrolling needs of a question: less than its text is held to

-- how many terms are of an entry, and no constants
abbrev pub is_named : Of → ℕ
is_named One = 0
is_named Credit = 1
is_named (W t) = 1
is_named (A f t) = 1
is_named (S f t) = 1
is_named (L f t) = 1
is_named (X j f t) = 1

abbrev pub named_terms : List QTerm → ℕ
named_terms [] = 0
named_terms (t ∷ ts) = is_named t.of + named_terms ts

-- 16 terms, and one more where one is a constant
pub record IsSide (states : ℕ) (s : Setting) (lin : QLin) : Type 0 where
  pub terms_to : length lin.terms ≤ 17
  pub named_to : named_terms lin.terms ≤ 16
  pub terms_in : All (IsTerm states s) lin.terms

pub record CanCompare (states : ℕ) (s : Setting) (left right : QLin) : Type 0 where
  pub left_in : IsSide states s left
  pub right_in : IsSide states s right
  pub scale_to : scale_of_two left right ≤ 1000000

abbrev pub CanTake : ℕ → Setting → Condition → Type 0
CanTake states s c = EachComparison (CanCompare states s) c

-- any number of assumptions, of any nesting, with any number of comparisons
pub record CanUnroll (states : ℕ) (q : Question) : Type 0 where
  pub setting_in : IsSetting q.setting
  pub assumes_in : All (λ c. CanTake states q.setting (condition_of c)) q.assumes
  pub require_in : CanTake states q.setting (condition_of q.require)
