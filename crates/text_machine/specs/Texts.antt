-- A format by its states: which form the next line has, and where a line leads. What a text is, and its first refusal.
use Rattle.std.specs.Prelude.{◌≡◌, ◌≢◌, ℕ, ◌+◌, ℤ, List, [], ◌∷◌, Option, None, Some, Result, Ok, Err, ◌⊎◌}
use Rattle.text_lines.specs.Pieces.{pieces, text}
use Rattle.whole.specs.declared.answers.ReadFault.{ReadFault}
use Rattle.whole.specs.declared.answers.Refusal.{Refusal}
use Rattle.text_lines.specs.Steps.{Fails, ◌>>=◌}
use Rattle.text_machine.specs.declared.faults.Fault.{Fault}
use Rattle.text_machine.specs.Lines.{LineForm, IsLineOf, LineFails, Suits, spell_line, read_line}

-- the numbers of each line
abbrev pub Table : Type 0
Table = List (List ℤ)

pub record Format (S R : Type 0) : Type 0 where
  -- the form of the next line; None where no line may follow
  pub form : S → Option LineForm
  -- the state behind a line with these numbers
  pub next : S → List ℤ → S
  -- the refusal of line k, which has this fault
  pub blame : S → ℕ → Fault → R
  -- the refusal of a text that ends in line k, which has these bytes and no LF
  pub ended : S → ℕ → List ℕ → R
  -- the refusal of bytes behind the last line, on line k
  pub behind : ℕ → R

-- ---- the text of a table

abbrev pub spell_by : Option LineForm → List ℤ → List (List ℕ)
spell_by None zs = []
spell_by (Some form) zs = spell_line form zs

abbrev pub HasItems : List (List ℕ) → Type 0
HasItems [] = ⊥
HasItems (item ∷ items) = Unit {0}

abbrev pub SuitsBy : Option LineForm → List ℤ → Type 0
SuitsBy None zs = ⊥
SuitsBy (Some form) zs = Suits form zs × HasItems (spell_line form zs)

-- the lines with these numbers, from the state on
unfoldable pub spell_lines : {S R : Type 0} → Format S R → S → Table → List (List (List ℕ))
spell_lines format s [] = []
spell_lines format s (zs ∷ table) = spell_by (format.form s) zs ∷ spell_lines format (format.next s zs) table

-- these are the numbers of all lines from the state on
unfoldable pub IsWhole : {S R : Type 0} → Format S R → S → Table → Type 0
IsWhole format s [] = format.form s ≡ None
IsWhole format s (zs ∷ table) = SuitsBy (format.form s) zs × IsWhole format (format.next s zs) table

-- the bytes are the text of the table
pub record IsTextOf {S R : Type 0} (format : Format S R) (s : S) (bytes : List ℕ) (table : Table) : Type 0 where
  pub text_is : bytes ≡ text (spell_lines format s table)
  pub is_whole : IsWhole format s table

-- ---- the first refusal

abbrev pub IsLineBy : Option LineForm → List (List ℕ) → List ℤ → Type 0
IsLineBy None items zs = ⊥
IsLineBy (Some form) items zs = IsLineOf form items zs

abbrev pub LineRefused : {S R : Type 0} → Format S R → Option LineForm → S → ℕ → List (List ℕ) → R → Type 0
LineRefused format None s k items r = r ≡ format.behind k
LineRefused format (Some form) s k items r = (fault : Fault) × (LineFails form items fault × (r ≡ format.blame s k fault))

abbrev pub RestRefused : {S R : Type 0} → Format S R → Option LineForm → S → ℕ → List ℕ → R → Type 0
RestRefused format None s k rest r = (rest ≢ []) × (r ≡ format.behind k)
RestRefused format (Some form) s k rest r = r ≡ format.ended s k rest

-- from line k on, the first line that isn't what is wanted decides; the piece behind the last LF is no line
unfoldable pub FirstRefused : {S R : Type 0} → Format S R → S → ℕ → List (List ℕ) → R → Type 0
FirstRefused format s k [] r = ⊥
FirstRefused format s k (rest ∷ []) r = RestRefused format (format.form s) s k rest r
FirstRefused format s k (line ∷ piece ∷ left) r =
    LineRefused format (format.form s) s k (pieces 32 line) r
    ⊎ ((zs : List ℤ) × (IsLineBy (format.form s) (pieces 32 line) zs × FirstRefused format (format.next s zs) (k + 1) (piece ∷ left) r))

-- ---- reading

abbrev pub named : {X R : Type 0} → (Fault → R) → Result X Fault → Result X R
named name (Ok x) = Ok x
named name (Err fault) = Err (name fault)

abbrev pub read_by : {S R : Type 0} → Format S R → Option LineForm → S → ℕ → List (List ℕ) → Result (List ℤ) R
read_by format None s k items = Err (format.behind k)
read_by format (Some form) s k items = named (format.blame s k) (read_line form items)

-- line k in a state, and the state behind it
unfoldable pub step : {S R : Type 0} → Format S R → S → ℕ → List ℕ → Result (List ℤ × S) R
step format s k line = read_by format (format.form s) s k (pieces 32 line) >>= λ zs. Ok (zs, format.next s zs)

abbrev pub finish_by : {S R : Type 0} → Format S R → Option LineForm → S → ℕ → List ℕ → Result Table R
finish_by format None s k [] = Ok []
finish_by format None s k (b ∷ bytes) = Err (format.behind k)
finish_by format (Some form) s k rest = Err (format.ended s k rest)

-- the bytes behind the last LF
unfoldable pub finish : {S R : Type 0} → Format S R → S → ℕ → List ℕ → Result Table R
finish format s k rest = finish_by format (format.form s) s k rest

-- a text is what stands between its LFs: lines, and then a rest
unfoldable pub read_pieces : {S R : Type 0} → Format S R → S → ℕ → List (List ℕ) → Result Table R
read_pieces format s k [] = Ok []
read_pieces format s k (rest ∷ []) = finish format s k rest
read_pieces format s k (line ∷ piece ∷ left) = do
  x ← step format s k line
  table ← read_pieces format x.1 (k + 1) (piece ∷ left)
  Ok (x.0 ∷ table)

abbrev pub read_text : {S R : Type 0} → Format S R → S → List ℕ → Result Table R
read_text format s bytes = read_pieces format s 1 (pieces 10 bytes)

-- the lines, fed one after another: their numbers, and the state behind them
unfoldable pub feed : {S R : Type 0} → Format S R → S → ℕ → List (List ℕ) → Result (Table × S) R
feed format s k [] = Ok ([], s)
feed format s k (line ∷ lines) = do
  x ← step format s k line
  y ← feed format x.1 (k + 1) lines
  Ok (x.0 ∷ y.0, y.1)

-- a call gives the value whose table is read, unless memory ran out
abbrev pub GivesText : {X : Type 0} → (X → Table) → Result X ReadFault → Result Table Refusal → Type 0
GivesText table (Ok x) read = read ≡ Ok (table x)
GivesText table (Err fault) read = Fails fault read
