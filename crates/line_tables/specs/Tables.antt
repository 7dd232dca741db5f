-- A format as a table of lines: the word of each, what stands behind it, where it may stand and where it leads.
use Rattle.std.specs.Prelude.{◌≡◌, ◌⊎◌, ℕ, ◌+◌, ◌-◌, nat_eq, nat_le, nat_lt, ℤ, pos, unsigned_abs, Bool, true, false, ◌&&◌, if◌then◌else◌, List, [], ◌∷◌, ◌++◌, map, length, Option, None, Some, Result, Ok}
use Rattle.std.proofs.Common.{get_or, refl}
use Rattle.std.specs.List.{list_all}
use Rattle.std.specs.Fmt.{signed_decimal}
use Rattle.whole.specs.declared.answers.Refusal.{Refusal}
use Rattle.text_lines.specs.Pieces.{pieces, text}
use Rattle.text_lines.specs.Steps.{◌>>=◌}
use Rattle.text_machine.specs.declared.faults.Fault.{Fault}
use Rattle.text_machine.specs.declared.faults.Fault.TheVariants.{Large, Misplaced}
use Rattle.text_machine.specs.Items.{is_item, natural, whole, one_of}
use Rattle.text_machine.specs.Lines.{LineForm, stop, number, fails, times}
use Rattle.text_machine.specs.Texts.{Table, Format, IsTextOf, IsWhole, FirstRefused, spell_lines, read_text, feed, finish}
use Rattle.line_tables.specs.declared.tables.Item.{Item}
use Rattle.line_tables.specs.declared.tables.Item.TheVariants.{Natural, Whole, Wholes}
use Rattle.line_tables.specs.declared.tables.Place.{Place}
use Rattle.line_tables.specs.declared.tables.Place.TheVariants.{Header, Within, Opens, Closes, Ends}
use Rattle.line_tables.specs.declared.tables.Line.{Line}
use Rattle.line_tables.specs.declared.tables.LineTable.{LineTable}
use Rattle.line_tables.specs.declared.tables.Row.{Row}
use Rattle.line_tables.specs.declared.spots.Spot.{Spot}
use Rattle.line_tables.specs.declared.spots.Spot.TheVariants.{Start, Body, Done}

-- ---- a table

-- a line of the table: its word, the kinds of the items behind it, and its place
pub record Rule : Type 0 where
  pub word : List ℕ
  pub items : List Item
  pub place : Place

abbrev pub rule : List ℕ → List Item → Place → Rule
rule word items place = record { word = word; items = items; place = place }

abbrev pub rule_of : Line → Rule
rule_of line = rule line.word.now line.items.now line.place

abbrev pub rule_at : List Rule → ℕ → Rule
rule_at rules i = get_or rules i (rule [] [] Ends)

-- the rules of a table
abbrev pub rules_of : List Line → List Rule
rules_of lines = map rule_of lines

abbrev pub words : List Rule → List (List ℕ)
words rules = map (λ (r : Rule). r.word) rules

-- the words hold no space and no LF
abbrev pub AreWords : List Rule → Type 0
AreWords rules = list_all is_item (words rules) ≡ true

-- ---- what a line is made of

-- the items of these kinds, and nothing behind them
unfoldable pub form_of : List Item → LineForm
form_of [] = stop
form_of (Natural low high ∷ items) = number (natural low high) (λ _. form_of items)
form_of (Whole ∷ items) = number whole (λ _. form_of items)
form_of (Wholes most ∷ items) = number (natural 0 most) (λ count. times (unsigned_abs count) whole (form_of items))

-- ---- where a line may stand, and where it leads

abbrev pub may_stand : Place → Spot → Bool
may_stand Header Start = true
may_stand (Within since) (Body version depth) = nat_le since version
may_stand (Opens since deepest) (Body version depth) = nat_le since version && nat_lt depth deepest
may_stand Closes (Body version depth) = nat_lt 0 depth
may_stand Ends (Body version depth) = nat_eq depth 0
may_stand _ _ = false

-- the first number behind the header's word
abbrev pub version_of : List ℤ → ℕ
version_of [] = 0
version_of (z ∷ zs) = unsigned_abs z

-- behind a line with these numbers
abbrev pub leads_by : Place → List ℤ → Spot → Spot
leads_by Header zs s = Body (version_of zs) 0
leads_by (Opens since deepest) zs (Body version depth) = Body version (depth + 1)
leads_by Closes zs (Body version depth) = Body version (depth - 1)
leads_by Ends zs s = Done
leads_by _ zs s = s

-- ---- the format of a table

-- what is wanted behind the word of a rule
abbrev pub form_at : Rule → Spot → LineForm
form_at r s = if may_stand r.place s then form_of r.items else fails Misplaced

-- the word of a rule, which counts as its place in the table, and what is wanted behind it
abbrev pub line_with : (rules : List Rule) → AreWords rules → Spot → LineForm
line_with rules ok s = number (one_of (words rules) ok) (λ word. form_at (rule_at rules (unsigned_abs word)) s)

-- where a word of the table is no item, no line may stand
abbrev pub line_by : (rules : List Rule) (t : Bool) → list_all is_item (words rules) ≡ t → Spot → LineForm
line_by rules true ok s = line_with rules ok s
line_by rules false bad s = fails Misplaced

abbrev pub line_form : List Rule → Spot → LineForm
line_form rules s = line_by rules (list_all is_item (words rules)) refl s

abbrev pub form_in : List Rule → Spot → Option LineForm
form_in rules Start = Some (line_form rules Start)
form_in rules (Body version depth) = Some (line_form rules (Body version depth))
form_in rules Done = None

abbrev pub leads : List Rule → Spot → List ℤ → Spot
leads rules s [] = s
leads rules s (word ∷ zs) = leads_by (rule_at rules (unsigned_abs word)).place zs s

abbrev pub refusal : ℕ → ℕ → ℕ → Refusal
refusal letter n k = record { letter = letter; number = n; line = k }

-- rule 1 on a line of another form, 2 on a number that is too large, 3 on what may not stand there
abbrev pub number_of : Fault → ℕ
number_of Large = 2
number_of Misplaced = 3
number_of _ = 1

-- 4 on a text that ends too early
abbrev pub format : ℕ → List Rule → Format Spot Refusal
format letter rules = record {
  form = form_in rules;
  next = leads rules;
  blame = λ s k fault. refusal letter (number_of fault) k;
  ended = λ s k rest. refusal letter 4 k;
  behind = refusal letter 3;
}

-- the format of a table of the code
abbrev pub format_of : LineTable → Format Spot Refusal
format_of table = format table.letter (rules_of table.lines.now)

-- ---- whole texts

-- the bytes are the text of these numbers, line by line; or they are no text, by this rule first
abbrev pub IsText : Format Spot Refusal → List ℕ → Table → Type 0
IsText f bytes table = IsTextOf f Start bytes table

abbrev pub IsRefused : Format Spot Refusal → List ℕ → Refusal → Type 0
IsRefused f bytes r = FirstRefused f Start 1 (pieces 10 bytes) r

-- one of the two
unfoldable pub IsTextOrRefused : Format Spot Refusal → List ℕ → Type 0
IsTextOrRefused f bytes = ((table : Table) × IsText f bytes table) ⊎ ((r : Refusal) × IsRefused f bytes r)

abbrev pub text_read : Format Spot Refusal → List ℕ → Result Table Refusal
text_read f bytes = read_text f Start bytes

-- the bytes are cut into these lines and a rest
abbrev pub AreLines : List ℕ → List (List ℕ) → List ℕ → Type 0
AreLines bytes lines rest = pieces 10 bytes ≡ lines ++ rest ∷ []

-- these lines, fed one after another, and then the rest
abbrev pub text_fed : Format Spot Refusal → List (List ℕ) → List ℕ → Result Table Refusal
text_fed f lines rest = feed f Start 1 lines >>= λ y. finish f y.1 (1 + length lines) rest >>= λ more. Ok (y.0 ++ more)

-- these are the numbers of all lines of a text
abbrev pub AreRows : Format Spot Refusal → Table → Type 0
AreRows f table = IsWhole f Start table

-- the text of these numbers
abbrev pub text_of : Format Spot Refusal → Table → List ℕ
text_of f table = text (spell_lines f Start table)

-- ---- rows

-- its line counts as its place in the table
abbrev pub numbers : Row → List ℤ
numbers row = pos row.line ∷ row.numbers

-- the items of its line
abbrev pub row_items : List Rule → Row → List (List ℕ)
row_items rules row = (rule_at rules row.line).word ∷ map signed_decimal row.numbers

-- row i of a text
abbrev pub row_texts : List Rule → ℕ → Row → List (List (List ℕ))
row_texts rules i row = row_items rules row ∷ []
