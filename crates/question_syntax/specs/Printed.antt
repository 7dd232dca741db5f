-- The canonical text of a question, line by line.
use Rattle.std.specs.Prelude.{ℕ, List, ◌++◌, flat_map, codes, Option, None, Some}
use Rattle.std.specs.Fmt.{decimal}
use Rattle.whole.specs.declared.answers.Pair.{Pair}
use Rattle.path_server.specs.declared.settings.Setting.{Setting}
use Rattle.weighing.specs.declared.scales.Num.{Num}
use Rattle.condition_syntax.specs.CanonicalText.{number_text, condition_text}
use Rattle.ctrl_syntax.specs.Printed.{line_text}
use Rattle.question_syntax.specs.Sections.{Wanted, Sections, SameButLines}
use Rattle.question_syntax.specs.Grammar.{IsText}

abbrev pub count_text : List ℕ → ℕ → List ℕ
count_text title n = title ++ decimal n

-- a fraction of the path as a number
abbrev pub num_of : Pair → Num
num_of p = record { num = p.num; den = p.den }

abbrev pub rate_text : Pair → List ℕ
rate_text p = codes "rate " ++ number_text (num_of p)

abbrev pub buffer_text : Option Pair → List ℕ
buffer_text None = codes "buffer none"
buffer_text (Some p) = codes "buffer " ++ number_text (num_of p)

unfoldable pub setting_text : Setting → List ℕ
setting_text s =
    line_text (count_text (codes "flows ")) s.flows ++ (line_text (count_text (codes "steps ")) s.steps
    ++ (line_text rate_text s.path.rate ++ (line_text (count_text (codes "jitter ")) s.path.jitter
    ++ (line_text (count_text (codes "rtt ")) s.rtt ++ (line_text buffer_text s.path.buffer
    ++ line_text (count_text (codes "budget ")) s.budget)))))

-- `assume COND` or `require COND`
abbrev pub wanted_text : List ℕ → Wanted → List ℕ
wanted_text title w = title ++ condition_text w.cond

unfoldable pub printed : Sections → List ℕ
printed s =
    codes "ccac-question 1\n" ++ (setting_text s.setting ++ (flat_map (line_text (wanted_text (codes "assume "))) s.assumes
    ++ (line_text (wanted_text (codes "require ")) s.require ++ codes "end\n")))

-- the bytes spell the same but for line numbers
pub record SpellsAgain (bytes : List ℕ) (s : Sections) : Type 0 where
  pub read : Sections
  pub spelled : IsText bytes read
  pub same : SameButLines s read
