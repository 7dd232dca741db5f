-- What a line is made of, from the left, and what is wrong with another line: the first item from the left decides.
use Rattle.std.specs.Prelude.{◌≡◌, ◌≢◌, ℕ, zero, suc, ℤ, true, if◌then◌else◌, List, [], ◌∷◌, ◌⊎◌, Result, Ok, Err}
use Rattle.std.specs.Str.{bytes_eq}
use Rattle.text_lines.specs.Steps.{◌>>=◌}
use Rattle.text_machine.specs.declared.faults.Fault.{Fault}
use Rattle.text_machine.specs.declared.faults.Fault.TheVariants.{Form}
use Rattle.text_machine.specs.Items.{Want, is_item, IsItemOf, ItemFails, spell_item, IsWithin, read_item}

-- what is wanted from here to the line's end; a number that was read may decide what is wanted behind it
pub data LineForm : Type 0 where
  stop : LineForm
  word : (text : List ℕ) → is_item text ≡ true → LineForm → LineForm
  number : Want → (ℤ → LineForm) → LineForm
  -- any number of items
  many : Want → LineForm
  -- nothing that may stand here; where the line ends here, it is for this reason
  ends : Fault → LineForm
  -- nothing that may stand here, for this reason
  fails : Fault → LineForm

-- so many numbers, and then what is wanted behind them
abbrev pub times : ℕ → Want → LineForm → LineForm
times zero want form = form
times (suc count) want form = number want (λ _. times count want form)

-- ---- the line of numbers

abbrev pub spell_many : Want → List ℤ → List (List ℕ)
spell_many want [] = []
spell_many want (z ∷ zs) = spell_item want z ∷ spell_many want zs

abbrev pub AllWithin : Want → List ℤ → Type 0
AllWithin want [] = Unit {0}
AllWithin want (z ∷ zs) = IsWithin want z × AllWithin want zs

-- the items of the line with these numbers
unfoldable pub spell_line : LineForm → List ℤ → List (List ℕ)
spell_line stop zs = []
spell_line (word text ok form) zs = text ∷ spell_line form zs
spell_line (number want form) [] = []
spell_line (number want form) (z ∷ zs) = spell_item want z ∷ spell_line (form z) zs
spell_line (many want) zs = spell_many want zs
spell_line (ends fault) zs = []
spell_line (fails fault) zs = []

-- these are the numbers of such a line
unfoldable pub Suits : LineForm → List ℤ → Type 0
Suits stop [] = Unit {0}
Suits stop (z ∷ zs) = ⊥
Suits (word text ok form) zs = Suits form zs
Suits (number want form) [] = ⊥
Suits (number want form) (z ∷ zs) = IsWithin want z × Suits (form z) zs
Suits (many want) zs = AllWithin want zs
Suits (ends fault) zs = ⊥
Suits (fails fault) zs = ⊥

-- the items are the line of these numbers
pub record IsLineOf (form : LineForm) (items : List (List ℕ)) (zs : List ℤ) : Type 0 where
  pub spelled : items ≡ spell_line form zs
  pub suits : Suits form zs

-- ---- what is wrong with a line

abbrev pub ManyFail : Want → List (List ℕ) → Fault → Type 0
ManyFail want [] fault = ⊥
ManyFail want (item ∷ items) fault = ItemFails want item fault ⊎ ((z : ℤ) × (IsItemOf want item z × ManyFail want items fault))

-- the first item from the left that isn't what is wanted decides; one too many or too few is a fault of form
unfoldable pub LineFails : LineForm → List (List ℕ) → Fault → Type 0
LineFails stop [] fault = ⊥
LineFails stop (item ∷ items) fault = fault ≡ Form
LineFails (word text ok form) [] fault = fault ≡ Form
LineFails (word text ok form) (item ∷ items) fault = ((item ≢ text) × (fault ≡ Form)) ⊎ ((item ≡ text) × LineFails form items fault)
LineFails (number want form) [] fault = fault ≡ Form
LineFails (number want form) (item ∷ items) fault = ItemFails want item fault ⊎ ((z : ℤ) × (IsItemOf want item z × LineFails (form z) items fault))
LineFails (many want) items fault = ManyFail want items fault
LineFails (ends reason) [] fault = fault ≡ reason
LineFails (ends reason) (item ∷ items) fault = fault ≡ Form
LineFails (fails reason) items fault = fault ≡ reason

-- ---- reading a line

-- this very word
unfoldable pub take_word : List ℕ → List (List ℕ) → Result (List (List ℕ)) Fault
take_word text [] = Err Form
take_word text (item ∷ items) = if bytes_eq item text then Ok items else Err Form

-- what is wanted, and the items behind it
unfoldable pub take : Want → List (List ℕ) → Result (ℤ × List (List ℕ)) Fault
take want [] = Err Form
take want (item ∷ items) = do
  z ← read_item want item
  Ok (z, items)

unfoldable pub take_all : Want → List (List ℕ) → Result (List ℤ) Fault
take_all want [] = Ok []
take_all want (item ∷ items) = do
  z ← read_item want item
  zs ← take_all want items
  Ok (z ∷ zs)

unfoldable pub take_end : List (List ℕ) → Result (List ℤ) Fault
take_end [] = Ok []
take_end (item ∷ items) = Err Form

abbrev pub end_for : Fault → List (List ℕ) → Result (List ℤ) Fault
end_for reason [] = Err reason
end_for reason (item ∷ items) = Err Form

-- the numbers of the line
unfoldable pub read_line : LineForm → List (List ℕ) → Result (List ℤ) Fault
read_line stop items = take_end items
read_line (word text ok form) items = take_word text items >>= λ rest. read_line form rest
read_line (number want form) items = take want items >>= λ x. read_line (form x.0) x.1 >>= λ zs. Ok (x.0 ∷ zs)
read_line (many want) items = take_all want items
read_line (ends reason) items = end_for reason items
read_line (fails reason) items = Err reason
