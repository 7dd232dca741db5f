-- A question's text in sections, with each condition as a tree of the logic.
use Rattle.std.specs.Prelude.{◌≡◌, ℕ, List, map}
use Rattle.condition_syntax.specs.Trees.{Condition, condition_of}
use Rattle.path_server.specs.declared.settings.Setting.{Setting}
use Rattle.question_syntax.specs.declared.syntax.ConditionLine.{ConditionLine}
use Rattle.question_syntax.specs.declared.syntax.QuestionSyntax.{QuestionSyntax}

-- the condition of an assumption or of the requirement, with the number of its line
pub record Wanted : Type 0 where
  pub cond : Condition
  pub line : ℕ

pub record Sections : Type 0 where
  pub setting : Setting
  pub rate_line : ℕ
  pub buffer_line : ℕ
  pub assumes : List Wanted
  pub require : Wanted

abbrev pub wanted_of : ConditionLine → Wanted
wanted_of c = record { cond = condition_of c.cond; line = c.line }

abbrev pub all_wanted_of : List ConditionLine → List Wanted
all_wanted_of cs = map wanted_of cs

abbrev pub sections_of : QuestionSyntax → Sections
sections_of q = record { setting = q.setting; rate_line = q.rate_line; buffer_line = q.buffer_line; assumes = all_wanted_of q.assumes; require = wanted_of q.require }

-- ---- the same but for line numbers

abbrev pub wanted_at : ℕ → Wanted → Wanted
wanted_at n w = record { cond = w.cond; line = n }

-- with no line numbers
abbrev pub without_lines : Sections → Sections
without_lines s = record { setting = s.setting; rate_line = 0; buffer_line = 0; assumes = map (wanted_at 0) s.assumes; require = wanted_at 0 s.require }

abbrev pub SameButLines : Sections → Sections → Type 0
SameButLines s t = without_lines s ≡ without_lines t
