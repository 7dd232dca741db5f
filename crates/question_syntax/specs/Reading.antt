-- Reading a question's text from its front, line by line and in a line token by token: what it says, or the first rule
-- that is broken, by the line.
use Rattle.std.specs.Prelude.{ℕ, List, [], ◌∷◌, Bool, false, ◌&&◌, nat_le, if◌then◌else◌, codes, Option, None, Some, Result, Ok, Err}
use Rattle.std.specs.Str.{bytes_eq}
use Rattle.text_lines.specs.Steps.{◌>>=◌}
use Rattle.whole.specs.declared.answers.Pair.{Pair}
use Rattle.whole.specs.declared.answers.Refusal.{Refusal}
use Rattle.source_text.specs.Tokens.{Token, word, number, sign, wrong}
use Rattle.source_text.specs.Shown.{Ahead}
use Rattle.source_text.specs.Lines.{Line, source_lines, end_number}
use Rattle.source_text.specs.Header.{texts}
use Rattle.weighing.specs.declared.scales.Num.{Num}
use Rattle.condition_syntax.specs.declared.conditions.Style.TheVariants.{Question}
use Rattle.condition_syntax.specs.Fronts.{says}
use Rattle.condition_syntax.specs.RefusalRules.{refused}
use Rattle.condition_syntax.specs.Expressions.{number_of}
use Rattle.condition_syntax.specs.Conditions.{condition_by}
use Rattle.condition_syntax.specs.Trees.{Condition}
use Rattle.ctrl_syntax.specs.Rest.{Rest, fronts, behind, number_of_next}
use Rattle.ctrl_syntax.specs.Reading.{Part, Lines, rule_at, many_within}
use Rattle.question_syntax.specs.declared.syntax.SettingLines.{SettingLines}
use Rattle.question_syntax.specs.Sections.{Wanted, Sections}
use Rattle.question_syntax.specs.Grammar.{pair_of}

-- the refusal by the rule Q of this number
abbrev pub refusal : ℕ → ℕ → Refusal
refusal n line = record { letter = 81; number = n; line = line }

-- the refusal where what the rule `own` asks for doesn't stand
unfoldable pub lacks : ℕ → Ahead → Refusal
lacks own a = refusal (rule_at own a.tokens) a.line

-- ---- the values of lines

-- digits alone, within a range
abbrev pub count_or : ℕ → ℕ → Ahead → List Token → Part ℕ
count_or low high a [] = Err (lacks 4 a)
count_or low high a (word w ∷ tokens) = Err (lacks 4 a)
count_or low high a (number n None ∷ tokens) = if nat_le low n && nat_le n high then Ok (n, behind a) else Err (refusal 6 a.line)
count_or low high a (number n (Some d) ∷ tokens) = Err (lacks 4 a)
count_or low high a (sign s ∷ tokens) = Err (lacks 4 a)
count_or low high a (wrong ∷ tokens) = Err (lacks 4 a)

unfoldable pub count_at : ℕ → ℕ → Ahead → Part ℕ
count_at low high a = count_or low high a a.tokens

-- a number above 0, which is written with this numerator
abbrev pub positive : ℕ → Num → Ahead → Part Pair
positive n q a = if nat_le 1 n then Ok (pair_of q, behind a) else Err (refusal 6 a.line)

abbrev pub rate_or : Ahead → List Token → Part Pair
rate_or a [] = Err (lacks 4 a)
rate_or a (word w ∷ tokens) = Err (lacks 4 a)
rate_or a (number n d ∷ tokens) = refused Question a.line (number_of n d) >>= λ q. positive n q a
rate_or a (sign s ∷ tokens) = Err (lacks 4 a)
rate_or a (wrong ∷ tokens) = Err (lacks 4 a)

unfoldable pub rate_at : Ahead → Part Pair
rate_at a = rate_or a a.tokens

-- `none` or a number
abbrev pub buffer_or : Ahead → List Token → Part (Option Pair)
buffer_or a [] = Err (lacks 4 a)
buffer_or a (word w ∷ tokens) = if bytes_eq w (codes "none") then Ok (None, behind a) else Err (lacks 4 a)
buffer_or a (number n d ∷ tokens) = refused Question a.line (number_of n d) >>= λ q. Ok (Some (pair_of q), behind a)
buffer_or a (sign s ∷ tokens) = Err (lacks 4 a)
buffer_or a (wrong ∷ tokens) = Err (lacks 4 a)

unfoldable pub buffer_at : Ahead → Part (Option Pair)
buffer_at a = buffer_or a a.tokens

unfoldable pub condition_at : Ahead → Part Condition
condition_at a = refused Question a.line (condition_by Question a.tokens) >>= λ c. Ok (c.0, record { line = a.line; tokens = c.1 })

-- `end` has no value
unfoldable pub nothing_at : Ahead → Part (Unit {0})
nothing_at a = Ok (tt, a)

-- the line's end
abbrev pub done_or : Ahead → List Token → Result (Unit {0}) Refusal
done_or a [] = Ok tt
done_or a (t ∷ tokens) = Err (lacks 10 a)

unfoldable pub done_at : Ahead → Result (Unit {0}) Refusal
done_at a = done_or a a.tokens

-- ---- the text, line by line

abbrev pub behind_title_or : List ℕ → List Ahead → ℕ → Lines Ahead
behind_title_or title [] end = Err (refusal 11 end)
behind_title_or title (a ∷ lines) end = if says title a.tokens then Ok (behind a, record { lines = lines; end = end }) else Err (lacks 3 a)

-- the place behind the word that the next line has to begin with
unfoldable pub behind_title : List ℕ → Rest → Lines Ahead
behind_title title s = behind_title_or title s.lines s.end

-- the value behind that word, which ends the line
unfoldable pub titled_by : {X : Type 0} → List ℕ → (Ahead → Part X) → Rest → Lines X
titled_by title read s = do
  a ← behind_title title s
  x ← read a.0
  done ← done_at x.1
  Ok (x.0, a.1)

-- a condition behind this word, with the number of its line
unfoldable pub wanted_by : List ℕ → Rest → Lines Wanted
wanted_by title s = titled_by title condition_at s >>= λ c. Ok (record { cond = c.0; line = number_of_next s.lines s.end }, c.1)

unfoldable pub setting_by : Rest → Lines SettingLines
setting_by s = do
  flows ← titled_by (codes "flows") (count_at 1 4) s
  steps ← titled_by (codes "steps") (count_at 1 32) flows.1
  rate ← titled_by (codes "rate") rate_at steps.1
  jitter ← titled_by (codes "jitter") (count_at 0 8) rate.1
  rtt ← titled_by (codes "rtt") (count_at 1 8) jitter.1
  buffer ← titled_by (codes "buffer") buffer_at rtt.1
  budget ← titled_by (codes "budget") (count_at 1 16777216) buffer.1
  Ok (
    record {
      setting = record { flows = flows.0; steps = steps.0; rtt = rtt.0; path = record { rate = rate.0; jitter = jitter.0; buffer = buffer.0 }; budget = budget.0 };
      rate_line = number_of_next steps.1.lines steps.1.end;
      buffer_line = number_of_next rtt.1.lines rtt.1.end;
    },
    budget.1,
  )

-- 16 assumptions at most
abbrev pub assumes_by : Rest → Lines (List Wanted)
assumes_by s = many_within (refusal 9) (codes "assume") (wanted_by (codes "assume")) 16 s

-- nothing but skipped lines is left
abbrev pub nothing_or : List Ahead → Result (Unit {0}) Refusal
nothing_or [] = Ok tt
nothing_or (a ∷ lines) = Err (refusal 10 a.line)

unfoldable pub nothing_left : Rest → Result (Unit {0}) Refusal
nothing_left s = nothing_or s.lines

unfoldable pub sections_by : Rest → Result Sections Refusal
sections_by s = do
  setting ← setting_by s
  assumes ← assumes_by setting.1
  require ← wanted_by (codes "require") assumes.1
  last ← titled_by (codes "end") nothing_at require.1
  done ← nothing_left last.1
  Ok (record { setting = setting.0.setting; rate_line = setting.0.rate_line; buffer_line = setting.0.buffer_line; assumes = assumes.0; require = require.0 })

-- whether the texts of line 1 are those of a question's
abbrev pub names_question : List (List ℕ) → Bool
names_question (name ∷ version ∷ []) = bytes_eq name (codes "ccac-question") && bytes_eq version (codes "1")
names_question texts = false

abbrev pub text_by : List Line → ℕ → Result Sections Refusal
text_by [] end = Err (refusal 1 1)
text_by (line ∷ lines) end = if names_question (texts line.bytes) then sections_by (record { lines = fronts lines; end = end }) else Err (refusal 1 1)

-- what the text says, or the first rule that it breaks
unfoldable pub text_of : List ℕ → Result Sections Refusal
text_of bytes = text_by (source_lines bytes) (end_number bytes)
