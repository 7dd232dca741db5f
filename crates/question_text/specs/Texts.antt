-- The text of a question for a controller.
use Rattle.std.specs.Prelude.{ℕ, List, ◌⊎◌, map}
use Rattle.whole.specs.declared.answers.Refusal.{Refusal}
use Rattle.path_server.specs.declared.settings.Setting.{Setting}
use Rattle.condition_tree.specs.Trees.{with_leaves}
use Rattle.weighing.specs.declared.scales.Num.{Num}
use Rattle.condition_syntax.specs.declared.expressions.Expr.{Expr}
use Rattle.condition_syntax.specs.Trees as written
use Rattle.ctrl_types.specs.declared.controllers.Controller.{Controller}
use Rattle.ctrl_types.specs.declared.controllers.State.{State}
use Rattle.question_syntax.specs.Grammar.{IsText}
use Rattle.question_syntax.specs.Refused as syntax
use Rattle.question_syntax.specs.Sections.{Sections, Wanted}
use Rattle.question_text.specs.Conditions.{Condition, Comparison, compares}
use Rattle.question_text.specs.NamedValues.{lin_written}
use Rattle.question_text.specs.StatementRules.{IsFirstBroken, IsUnbroken, Resolves, SeenQuestion}

-- the bytes are a text that breaks no rule, and this is its question for the controller
pub record IsTextOf (c : Controller) (bytes : List ℕ) (q : SeenQuestion) : Type 0 where
  pub sections : Sections
  pub spelled : IsText bytes sections
  pub unbroken : IsUnbroken c sections
  pub resolved : Resolves c sections q

-- the question has a text
abbrev pub HasText : Controller → SeenQuestion → Type 0
HasText c q = (bytes : List ℕ) × IsTextOf c bytes q

-- the bytes are a text whose first broken rule is this
pub record BreaksFirst (c : Controller) (bytes : List ℕ) (r : Refusal) : Type 0 where
  pub sections : Sections
  pub spelled : IsText bytes sections
  pub broken : IsFirstBroken c sections r

-- the rules of the text come first, and then those of its names and numbers
abbrev pub IsRefused : Controller → List ℕ → Refusal → Type 0
IsRefused c bytes r = syntax.IsRefused bytes r ⊎ BreaksFirst c bytes r

-- ---- what is printed

abbrev pub comparison_written : List State → Setting → Comparison → written.Leaf Expr Num
comparison_written states s (compares left rel right) = written.compares (lin_written states s left) rel (lin_written states s right)

-- the condition with the canonical names
unfoldable pub condition_written : List State → Setting → Condition → written.Condition
condition_written states s c = with_leaves (comparison_written states s) c

abbrev pub wanted_written : List State → Setting → Condition → Wanted
wanted_written states s c = record { cond = condition_written states s c; line = 0 }

-- the sections of the question, which are on no lines yet
unfoldable pub sections_written : List State → SeenQuestion → Sections
sections_written states q = record {
  setting = q.setting;
  rate_line = 0;
  buffer_line = 0;
  assumes = map (wanted_written states q.setting) q.assumes;
  require = wanted_written states q.setting q.require;
}
