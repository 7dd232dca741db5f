-- Resolving a question's syntax from the top: its question, or the refusal of the first line that breaks a rule.
use Rattle.std.specs.Prelude.{ℕ, List, [], ◌∷◌, All, Bool, false, ◌||◌, ◌&&◌, unsigned_abs, Option, None, Some, Result, Ok, Err}
use Rattle.std.specs.List.{list_any}
use Rattle.text_lines.specs.Steps.{◌>>=◌}
use Rattle.whole.specs.declared.answers.Refusal.{Refusal}
use Rattle.weighing.specs.declared.scales.Num.{Num}
use Rattle.path_server.specs.declared.settings.Setting.{Setting}
use Rattle.condition_syntax.specs.Trees as written
use Rattle.condition_syntax.specs.Trees.{EachExpr, EachDelay}
use Rattle.question_syntax.specs.Limits.{IsPlacedExpr, NoDelay}
use Rattle.ctrl_types.specs.Denominators.{with_numbers}
use Rattle.ctrl_types.specs.Names.{is_kind}
use Rattle.ctrl_types.specs.Statements.{condition_numbers}
use Rattle.ctrl_types.specs.declared.controllers.Controller.{Controller}
use Rattle.ctrl_types.specs.declared.controllers.Kind.{Kind}
use Rattle.ctrl_types.specs.declared.controllers.Kind.TheVariants.{Amount, Count}
use Rattle.ctrl_types.specs.declared.controllers.State.{State}
use Rattle.question_syntax.specs.Sections.{Sections, Wanted}
use Rattle.question_syntax.specs.Reading.{refusal}
use Rattle.question_syntax.specs.declared.syntax.ConditionLine.{ConditionLine}
use Rattle.question_syntax.specs.declared.syntax.QuestionSyntax.{QuestionSyntax}
use Rattle.condition_tree.specs.Trees.{folded, gathering}
use Rattle.question_text.specs.Conditions.{Condition, Comparison, compares}
use Rattle.question_text.specs.StatementRules.{SeenQuestion, against, buffer_numbers, kind_of, meant, number_of}
use Rattle.question_text.specs.declared.conditions.QLin.{QLin}
use Rattle.question_text.specs.declared.conditions.QTerm.{QTerm}

-- ---- what a question's text can say

-- the expressions are within their limits, and no test of delay stands in the condition
abbrev pub IsAsked : written.Condition → Type 0
IsAsked c = EachExpr IsPlacedExpr c × EachDelay NoDelay c

abbrev pub EachAsked : List written.Condition → Type 0
EachAsked [] = Unit {0}
EachAsked (c ∷ cs) = IsAsked c × EachAsked cs

-- ---- kinds of what is meant

-- whether what has this kind stands in the expression
unfoldable pub lin_has : List State → Kind → QLin → Bool
lin_has states kind lin = list_any (λ (t : QTerm). is_kind kind (kind_of states t.of)) lin.terms

unfoldable pub lins_mix : List State → QLin → QLin → Bool
lins_mix states left right = (lin_has states Amount left || lin_has states Amount right) && (lin_has states Count left || lin_has states Count right)

abbrev pub sides_mix : List State → Comparison → Bool
sides_mix states (compares left rel right) = lins_mix states left right

-- whether both kinds stand in one comparison of the condition
unfoldable pub mixes : List State → Condition → Bool
mixes states c = folded (gathering false (λ (a b : Bool). a || b)) (sides_mix states) c

-- ---- lines

-- what is found, or the refusal where it isn't
abbrev pub wanted : {X : Type 0} → Option X → ℕ → ℕ → Result X Refusal
wanted None n line = Err (refusal n line)
wanted (Some x) n line = Ok x

-- the least common multiple with the numbers of this line, which may not pass the limit
unfoldable pub numbers_by : ℕ → List Num → ℕ → Result ℕ Refusal
numbers_by line ns scale = wanted (with_numbers (Some scale) ns) 14 line

unfoldable pub wanted_by : List State → Setting → Wanted → ℕ → Result (Condition × ℕ) Refusal
wanted_by states s w scale = do
  c ← wanted (meant states s w.cond) 12 w.line
  kinds ← against (mixes states c) 13 w.line
  next ← numbers_by w.line (condition_numbers w.cond) scale
  Ok (c, next)

unfoldable pub wanteds_by : List State → Setting → List Wanted → ℕ → Result (List Condition × ℕ) Refusal
wanteds_by states s [] scale = Ok ([], scale)
wanteds_by states s (w ∷ ws) scale = do
  c ← wanted_by states s w scale
  cs ← wanteds_by states s ws c.1
  Ok (c.0 ∷ cs.0, cs.1)

unfoldable pub resolved_by : Controller → Sections → Result SeenQuestion Refusal
resolved_by c s = do
  rate ← numbers_by s.rate_line (number_of s.setting.path.rate ∷ []) (unsigned_abs c.den)
  buffer ← numbers_by s.buffer_line (buffer_numbers s.setting.path.buffer) rate
  assumes ← wanteds_by c.states s.setting s.assumes buffer
  require ← wanted_by c.states s.setting s.require assumes.1
  Ok (record { setting = s.setting; assumes = assumes.0; require = require.0 })

-- the conditions of the text are such
pub record IsAskedText (syntax : QuestionSyntax) : Type 0 where
  pub assumes : All (λ (line : ConditionLine). IsAsked (written.condition_of line.cond)) syntax.assumes
  pub require : IsAsked (written.condition_of syntax.require.cond)
