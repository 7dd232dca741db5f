-- The limits of a question, which callers owe, and the runs that it can be asked of.
use Rattle.std.specs.Prelude.{ℕ, ◌<◌, ◌≤◌, length, All}
use Rattle.weighing.specs.Scaled.{IsNum}
use Rattle.run_rows.specs.Runs.{Fits}
use Rattle.run_rows.specs.declared.rows.Run.{Run}
use Rattle.path_server.specs.Limits.{IsSetting}
use Rattle.path_server.specs.Shapes.{shape_of}
use Rattle.path_server.specs.declared.settings.Setting.{Setting}
use Rattle.question_text.specs.Conditions.{Condition, EachComparison, condition_of}
use Rattle.question_text.specs.Expressions.{scale_of_two}
use Rattle.question_text.specs.Violation.{assumptions}
use Rattle.question_text.specs.declared.conditions.Of.{Of}
use Rattle.question_text.specs.declared.conditions.Of.TheVariants.{One, Credit, W, A, S, L, X}
use Rattle.question_text.specs.declared.conditions.QLin.{QLin}
use Rattle.question_text.specs.declared.conditions.QTerm.{QTerm}
use Rattle.question_text.specs.declared.questions.Question.{Question}

pub record IsFlowName (s : Setting) (f t : ℕ) : Type 0 where
  pub flow_to : f ≤ s.flows
  pub step_to : t ≤ s.steps

pub record IsStateName (states : ℕ) (s : Setting) (j f t : ℕ) : Type 0 where
  pub state_in : j < states
  pub flow_from : 1 ≤ f
  pub flow_to : f ≤ s.flows
  pub step_to : t ≤ s.steps

-- flows and steps are those of the setting, and states are among so many
abbrev pub IsName : ℕ → Setting → Of → Type 0
IsName states s One = Unit {0}
IsName states s Credit = Unit {0}
IsName states s (W t) = t ≤ s.steps
IsName states s (A f t) = IsFlowName s f t
IsName states s (S f t) = IsFlowName s f t
IsName states s (L f t) = IsFlowName s f t
IsName states s (X j f t) = IsStateName states s j f t

pub record IsTerm (states : ℕ) (s : Setting) (t : QTerm) : Type 0 where
  pub coef_in : IsNum t.coef
  pub name_in : IsName states s t.of

pub record IsComparison (states : ℕ) (s : Setting) (left right : QLin) : Type 0 where
  pub left_to : length left.terms ≤ 16
  pub right_to : length right.terms ≤ 16
  pub left_in : All (IsTerm states s) left.terms
  pub right_in : All (IsTerm states s) right.terms
  pub scale_to : scale_of_two left right ≤ 1000000

abbrev pub IsCondition : ℕ → Setting → Condition → Type 0
IsCondition states s c = EachComparison (IsComparison states s) c

-- a question about controllers with so many states
pub record IsQuestion (states : ℕ) (q : Question) : Type 0 where
  pub setting_in : IsSetting q.setting
  pub assumes_to : length q.assumes ≤ 16
  pub assumes_in : IsCondition states q.setting (assumptions q)
  pub require_in : IsCondition states q.setting (condition_of q.require)

-- the run fits a shape that the setting gives, with every state that the question names
pub record CanAsk (q : Question) (r : Run) : Type 0 where
  pub states : ℕ
  pub delay_max : ℕ
  pub states_to : states ≤ 8
  pub delay_to : delay_max ≤ 8
  pub question_in : IsQuestion states q
  pub run_in : Fits (shape_of q.setting states delay_max) r
