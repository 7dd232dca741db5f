-- What is wanted in an item's place, the number that it stands for, and what is wrong with another item.
use Rattle.std.specs.Prelude.{◌≡◌, ℕ, suc, ◌^◌, ◌<◌, ◌≤◌, ℤ, pos, negsuc, ◌≤ℤ◌, unsigned_abs, Bool, true, false, not, ◌&&◌, ◌==◌, nat_eq, nat_le, nat_lt, if◌then◌else◌, List, [], ◌∷◌, ◌⊎◌, Result, Ok, Err}
use Rattle.std.proofs.Common.{get_or}
use Rattle.std.specs.Fmt.{decimal, signed_decimal}
use Rattle.std.specs.Str.{bytes_eq}
use Rattle.text_lines.specs.Steps.{◌>>=◌}
use Rattle.text_lines.specs.Numbers.{is_positive, IsNumber, HasSize, read_natural, read_whole}
use Rattle.std.specs.List.{list_all}
use Rattle.text_lines.specs.Pieces.{is_free}
use Rattle.text_lines.specs.declared.items.ItemFault.{ItemFault}
use Rattle.text_lines.specs.declared.items.ItemFault.TheVariants.{Form as IsForm, Large as IsLarge}
use Rattle.text_machine.specs.declared.faults.Fault.{Fault}
use Rattle.text_machine.specs.declared.faults.Fault.TheVariants.{Form, Large, Negative, Twice}

-- no space and no LF
abbrev pub is_item : List ℕ → Bool
is_item bytes = is_free 32 bytes && is_free 10 bytes

-- an item is a number here: of a word its place among those that may stand there, of a literal its atom or, below 0,
-- the atom and 1 more
pub data Want : Type 0 where
  -- from the first to the second
  natural : ℕ → ℕ → Want
  -- above 0, and at most 2^127 - 1
  positive : Want
  -- at most 2^127 - 1 in size
  whole : Want
  -- a number below this limit and 2^127
  index : ℕ → Want
  -- the same, where a number below 0 is a fault of its own
  below : ℕ → Want
  -- `+` or `-`, and a number below this limit and 2^127
  literal : ℕ → Want
  -- one of these words
  one_of : (words : List (List ℕ)) → list_all is_item words ≡ true → Want
  -- a number that isn't among these
  fresh : List ℤ → Want → Want

-- ---- what an item is

-- the place of this word among the words
abbrev pub place_among : List (List ℕ) → List ℕ → Result ℕ Fault
place_among [] item = Err Form
place_among (word ∷ words) item = if bytes_eq item word then Ok 0 else (place_among words item >>= λ i. Ok (suc i))

-- the number of an atom, or of its negation
abbrev pub literal_number : ℕ → Bool → ℤ
literal_number n true = pos n
literal_number n false = negsuc n

abbrev pub same_sign : Bool → Bool → Bool
same_sign true other = other
same_sign false other = not other

abbrev pub spell_literal : ℤ → List ℕ
spell_literal (pos n) = 43 ∷ decimal n
spell_literal (negsuc n) = 45 ∷ decimal n

abbrev pub word_at : List (List ℕ) → ℤ → List ℕ
word_at words (pos i) = get_or words i []
word_at words (negsuc i) = []

-- the item of this number
abbrev pub spell_item : Want → ℤ → List ℕ
spell_item (natural low high) z = signed_decimal z
spell_item positive z = signed_decimal z
spell_item whole z = signed_decimal z
spell_item (index limit) z = signed_decimal z
spell_item (below limit) z = signed_decimal z
spell_item (literal limit) z = spell_literal z
spell_item (one_of words ok) z = word_at words z
spell_item (fresh seen want) z = spell_item want z

-- the number of a literal's atom
abbrev pub atom_of : ℤ → ℕ
atom_of (pos n) = n
atom_of (negsuc n) = n

abbrev pub IsAmong : List ℤ → ℤ → Type 0
IsAmong [] z = ⊥
IsAmong (x ∷ xs) z = (x ≡ z) ⊎ IsAmong xs z

-- the number may stand there
abbrev pub IsWithin : Want → ℤ → Type 0
IsWithin (natural low high) z = (n : ℕ) × ((z ≡ pos n) × (low ≤ n) × (n ≤ high) × (n < 2 ^ 127))
IsWithin positive z = (pos 1 ≤ℤ z) × (unsigned_abs z < 2 ^ 127)
IsWithin whole z = unsigned_abs z < 2 ^ 127
IsWithin (index limit) z = (n : ℕ) × ((z ≡ pos n) × (n < limit) × (n < 2 ^ 127))
IsWithin (below limit) z = (n : ℕ) × ((z ≡ pos n) × (n < limit) × (n < 2 ^ 127))
IsWithin (literal limit) z = (atom_of z < limit) × (atom_of z < 2 ^ 127)
IsWithin (one_of words ok) z = (i : ℕ) × ((z ≡ pos i) × (place_among words (get_or words i []) ≡ Ok i))
IsWithin (fresh seen want) z = (IsAmong seen z → ⊥) × IsWithin want z

-- the item is what is wanted, and stands for this number
pub record IsItemOf (want : Want) (item : List ℕ) (z : ℤ) : Type 0 where
  pub spelled : item ≡ spell_item want z
  pub within : IsWithin want z

-- ---- what is wrong with an item

-- the item is a literal of this atom
abbrev pub IsLiteral : List ℕ → ℕ → Type 0
IsLiteral item n = (sign : ℕ) × ((digits : List ℕ) × ((item ≡ sign ∷ digits) × ((sign ≡ 43) ⊎ (sign ≡ 45)) × IsNumber digits n))

-- it could stand there, but for this
abbrev pub IsFault : Want → List ℕ → Fault → Type 0
IsFault (natural low high) item fault = ⊥
IsFault positive item fault = (fault ≡ Large) × ((n : ℕ) × (IsNumber item n × (2 ^ 127 ≤ n)))
IsFault whole item fault = (fault ≡ Large) × ((n : ℕ) × (HasSize item n × (2 ^ 127 ≤ n)))
IsFault (index limit) item fault = (fault ≡ Large) × ((n : ℕ) × (IsNumber item n × ((limit ≤ n) ⊎ (2 ^ 127 ≤ n))))
IsFault (below limit) item fault =
    ((fault ≡ Large) × ((n : ℕ) × (IsNumber item n × ((limit ≤ n) ⊎ (2 ^ 127 ≤ n)))))
    ⊎ ((fault ≡ Negative) × ((digits : List ℕ) × ((item ≡ 45 ∷ digits) × (is_positive digits ≡ true))))
IsFault (literal limit) item fault = (fault ≡ Large) × ((n : ℕ) × (IsLiteral item n × ((limit ≤ n) ⊎ (2 ^ 127 ≤ n))))
IsFault (one_of words ok) item fault = ⊥
IsFault (fresh seen want) item fault = ((fault ≡ Twice) × ((z : ℤ) × (IsItemOf want item z × IsAmong seen z))) ⊎ IsFault want item fault

-- what is wrong with an item that isn't what is wanted: that, or else its form
abbrev pub ItemFails : Want → List ℕ → Fault → Type 0
ItemFails want item fault = IsFault want item fault ⊎ ((fault ≡ Form) × ((z : ℤ) → IsItemOf want item z → ⊥) × ((f : Fault) → IsFault want item f → ⊥))

-- ---- reading an item

abbrev pub fault_of : ItemFault → Fault
fault_of IsForm = Form
fault_of IsLarge = Large

-- the number that was read, or what is wrong
abbrev pub number_by : {X : Type 0} → (X → Result ℤ Fault) → Result X ItemFault → Result ℤ Fault
number_by judge (Ok x) = judge x
number_by judge (Err fault) = Err (fault_of fault)

-- the number, where there was no fault of any kind
abbrev pub ranged_by : ℕ → ℕ → Result ℕ ItemFault → Result ℤ Fault
ranged_by low high (Ok n) = if nat_le low n && nat_le n high then Ok (pos n) else Err Form
ranged_by low high (Err fault) = Err Form

-- a number below 0, where it is rightly spelled
abbrev pub refuse_negative : List ℕ → Result ℤ Fault
refuse_negative [] = Err Form
refuse_negative (c ∷ digits) = if (c == 45) && is_positive digits then Err Negative else Err Form

abbrev pub bounded : List ℕ → ℕ → Result ℕ ItemFault → Result ℤ Fault
bounded item limit (Ok n) = if nat_lt n limit then Ok (pos n) else Err Large
bounded item limit (Err IsLarge) = Err Large
bounded item limit (Err IsForm) = refuse_negative item

abbrev pub literal_by : (ℕ → ℤ) → ℕ → Result ℕ ItemFault → Result ℤ Fault
literal_by sign limit (Ok n) = if nat_lt n limit then Ok (sign n) else Err Large
literal_by sign limit (Err fault) = Err (fault_of fault)

abbrev pub read_literal : ℕ → List ℕ → Result ℤ Fault
read_literal limit [] = Err Form
read_literal limit (c ∷ digits) =
    if c == 43 then literal_by (λ n. pos n) limit (read_natural digits)
    else (if c == 45 then literal_by (λ n. negsuc n) limit (read_natural digits) else Err Form)

abbrev pub is_equal : ℤ → ℤ → Bool
is_equal (pos m) (pos n) = nat_eq m n
is_equal (negsuc m) (negsuc n) = nat_eq m n
is_equal (pos m) (negsuc n) = false
is_equal (negsuc m) (pos n) = false

abbrev pub is_among : List ℤ → ℤ → Bool
is_among [] z = false
is_among (x ∷ xs) z = if is_equal x z then true else is_among xs z

unfoldable pub read_item : Want → List ℕ → Result ℤ Fault
read_item (natural low high) item = ranged_by low high (read_natural item)
read_item positive item = number_by (λ n. if nat_eq n 0 then Err Form else Ok (pos n)) (read_natural item)
read_item whole item = number_by (λ z. Ok z) (read_whole item)
read_item (index limit) item = number_by (λ n. if nat_lt n limit then Ok (pos n) else Err Large) (read_natural item)
read_item (below limit) item = bounded item limit (read_natural item)
read_item (literal limit) item = read_literal limit item
read_item (one_of words ok) item = place_among words item >>= λ i. Ok (pos i)
read_item (fresh seen want) item = do
  z ← read_item want item
  if is_among seen z then Err Twice else Ok z
