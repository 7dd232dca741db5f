-- Decimal numbers with one spelling: digits with no leading zero, and `-` before a negative number.
use Rattle.std.specs.Prelude.{◌≡◌, ℕ, ◌+◌, ◌-◌, ◌*◌, ◌^◌, ℤ, pos, List, [], ◌∷◌, Bool, true, false, ◌&&◌, ◌==◌, nat_le, nat_lt, if◌then◌else◌, ◌⊎◌, Result, Ok, Err}
use Rattle.std.specs.Char.{is_ascii_digit}
use Rattle.std.specs.List.{list_all}
use Rattle.std.proofs.Common.{neg_ℤ}
use Rattle.text_lines.specs.declared.items.ItemFault.{ItemFault}
use Rattle.text_lines.specs.declared.items.ItemFault.TheVariants.{Form, Large}

-- each byte is a decimal digit
abbrev pub all_digits : List ℕ → Bool
all_digits bytes = list_all is_ascii_digit bytes

-- the digits of a number above 0
unfoldable pub is_positive : List ℕ → Bool
is_positive [] = false
is_positive (c ∷ cs) = nat_lt 48 c && (nat_le c 57 && all_digits cs)

-- the digits of a number: `0`, or those of a number above it
unfoldable pub is_spelled : List ℕ → Bool
is_spelled [] = false
is_spelled (c ∷ []) = is_ascii_digit c
is_spelled (c ∷ d ∷ ds) = is_positive (c ∷ d ∷ ds)

-- the number that is read so far, followed by more digits
unfoldable pub value_after : ℕ → List ℕ → ℕ
value_after n [] = n
value_after n (c ∷ cs) = value_after (n * 10 + (c - 48)) cs

abbrev pub value : List ℕ → ℕ
value digits = value_after 0 digits

-- the item is the one spelling of this number
abbrev pub IsNumber : List ℕ → ℕ → Type 0
IsNumber item n = (is_spelled item ≡ true) × (value item ≡ n)

-- the item is the one spelling of a whole number of this size: a number, or `-` and a number above 0
abbrev pub HasSize : List ℕ → ℕ → Type 0
HasSize item n = IsNumber item n ⊎ ((digits : List ℕ) × ((item ≡ 45 ∷ digits) × (is_positive digits ≡ true) × (value digits ≡ n)))

-- ---- reading a number

-- the number, if its size is at most 2^127 - 1
abbrev pub limited : ℕ → Result ℕ ItemFault
limited n = if nat_lt n (2 ^ 127) then Ok n else Err Large

unfoldable pub read_natural : List ℕ → Result ℕ ItemFault
read_natural item = if is_spelled item then limited (value item) else Err Form

abbrev pub signed_by : (ℕ → ℤ) → Result ℕ ItemFault → Result ℤ ItemFault
signed_by sign (Ok n) = Ok (sign n)
signed_by sign (Err fault) = Err fault

abbrev pub read_negative : List ℕ → Result ℤ ItemFault
read_negative digits = if is_positive digits then signed_by (λ n. neg_ℤ (pos n)) (limited (value digits)) else Err Form

unfoldable pub read_whole : List ℕ → Result ℤ ItemFault
read_whole [] = signed_by pos (read_natural [])
read_whole (c ∷ cs) = if c == 45 then read_negative cs else signed_by pos (read_natural (c ∷ cs))
