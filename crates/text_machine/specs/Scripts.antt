-- A format whose lines are listed, where a line may decide which ones follow.
use Rattle.std.specs.Prelude.{Bool, length, ◌≡◌, ℕ, zero, suc, ◌+◌, ℤ, List, [], ◌∷◌, ◌++◌, Option, None, Some, Result, Ok, Err}
use Rattle.text_lines.specs.Lines.{Unread, next, is_over, is_finished}
use Rattle.text_lines.specs.Pieces.{pieces}
use Rattle.text_lines.specs.Steps.{◌>>=◌, AllNumbered}
use Rattle.text_machine.specs.declared.faults.Fault.{Fault}
use Rattle.text_machine.specs.Lines.{LineForm, read_line}
use Rattle.text_machine.specs.Texts.{Table, Format, named}

-- a line, the refusal of line k that has a fault, and that of a text that ends in line k, with a byte there or
-- with none
pub record Line (R : Type 0) : Type 0 where
  pub form : LineForm
  pub blame : ℕ → Fault → R
  pub ended : ℕ → Bool → R

pub data Script (R : Type 0) : Type 0 where
  finished : Script R
  wants : Line R → (List ℤ → Script R) → Script R

-- these lines, and no more
unfoldable pub listed : {R : Type 0} → List (Line R) → Script R
listed [] = finished
listed (one ∷ lines) = wants one (λ _. listed lines)

-- the lines of `count` things, which are numbered from `first` on
unfoldable pub lines_from : {R : Type 0} → (ℕ → List (Line R)) → ℕ → ℕ → List (Line R)
lines_from lines zero first = []
lines_from lines (suc count) first = lines first ++ lines_from lines count (first + 1)

abbrev pub script_form : {R : Type 0} → Script R → Option LineForm
script_form finished = None
script_form (wants one then) = Some one.form

abbrev pub script_next : {R : Type 0} → Script R → List ℤ → Script R
script_next finished zs = finished
script_next (wants one then) zs = then zs

abbrev pub script_blame : {R : Type 0} → (ℕ → R) → Script R → ℕ → Fault → R
script_blame behind finished k fault = behind k
script_blame behind (wants one then) k fault = one.blame k fault

abbrev pub script_ended : {R : Type 0} → (ℕ → R) → Script R → ℕ → List ℕ → R
script_ended behind finished k rest = behind k
script_ended behind (wants one then) k rest = one.ended k (is_over (rest ∷ []))

-- the format of scripts; `behind` refuses bytes behind the last line
abbrev pub scripted : {R : Type 0} → (ℕ → R) → Format (Script R) R
scripted behind = record { form = script_form; next = script_next; blame = script_blame behind; ended = script_ended behind; behind = behind }

-- ---- reading listed lines

abbrev pub line_in : {R : Type 0} → Line R → Unread → Option (List ℕ × Unread) → Result (List ℤ × Unread) R
line_in one rest None = Err (one.ended rest.line (is_finished rest))
line_in one rest (Some taken) = do
  zs ← named (one.blame rest.line) (read_line one.form (pieces 32 taken.0))
  Ok (zs, taken.1)

-- the next line
unfoldable pub line_by : {R : Type 0} → Line R → Unread → Result (List ℤ × Unread) R
line_by one rest = line_in one rest (next rest)

-- the next lines
unfoldable pub lines_by : {R : Type 0} → List (Line R) → Unread → Result (Table × Unread) R
lines_by [] rest = Ok ([], rest)
lines_by (one ∷ lines) rest = do
  x ← line_by one rest
  y ← lines_by lines x.1
  Ok (x.0 ∷ y.0, y.1)

-- a call that leaves `rest` gives the numbers that are read
abbrev pub GivesAs : {X Y R E : Type 0} → (X → Y) → Result X E → R → Result (Y × R) E → Type 0
GivesAs numbers (Ok x) rest read = read ≡ Ok (numbers x, rest)
GivesAs numbers (Err fault) rest read = read ≡ Err fault

-- so many things, numbered from `first` on, of which this holds
pub record EachOf {X : Type 0} (P : ℕ → X → Type 0) (count first : ℕ) (xs : List X) : Type 0 where
  pub counted : length xs ≡ count
  pub all : AllNumbered P first xs
