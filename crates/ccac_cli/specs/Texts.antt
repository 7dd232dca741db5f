-- The settings of the questions that the bytes of files are the texts of.
use Rattle.std.specs.Prelude.{◌≡◌, ℕ, List}
use Rattle.path_server.specs.Limits.{IsSetting}
use Rattle.path_server.specs.declared.settings.Setting.{Setting}
use Rattle.question_syntax.specs.Grammar as question_grammar
use Rattle.question_syntax.specs.Sections.{Sections}

-- the bytes spell a question's syntax that has this setting
pub record IsSettingText (bytes : List ℕ) (s : Setting) : Type 0 where
  pub sections : Sections
  pub spelled : question_grammar.IsText bytes sections
  pub setting_is : sections.setting ≡ s
  pub limits : IsSetting s
