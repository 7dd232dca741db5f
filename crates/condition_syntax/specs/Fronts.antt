-- What stands first among the tokens that are left.
use Rattle.std.specs.Prelude.{ℕ, List, [], ◌∷◌, Bool, true, false}
use Rattle.std.specs.Str.{bytes_eq}
use Rattle.source_text.specs.declared.lexemes.Sign.{Sign}
use Rattle.source_text.specs.declared.lexemes.Sign.TheVariants.{AtMost, Below, AtLeast, Above, Equal, Assign, Plus, Minus, Times, Open, Close, Dot, At}
use Rattle.source_text.specs.Tokens.{Token, word, number, sign, wrong}
use Rattle.condition_syntax.specs.declared.faults.Fault.{Fault}
use Rattle.condition_syntax.specs.declared.faults.Fault.TheVariants.{WrongByte}

abbrev pub same_sign : Sign → Sign → Bool
same_sign AtMost AtMost = true
same_sign Below Below = true
same_sign AtLeast AtLeast = true
same_sign Above Above = true
same_sign Equal Equal = true
same_sign Assign Assign = true
same_sign Plus Plus = true
same_sign Minus Minus = true
same_sign Times Times = true
same_sign Open Open = true
same_sign Close Close = true
same_sign Dot Dot = true
same_sign At At = true
same_sign _ _ = false

-- whether this sign stands first
unfoldable pub stands : Sign → List Token → Bool
stands s [] = false
stands s (word w ∷ tokens) = false
stands s (number n d ∷ tokens) = false
stands s (sign t ∷ tokens) = same_sign s t
stands s (wrong ∷ tokens) = false

-- whether this word stands first
unfoldable pub says : List ℕ → List Token → Bool
says w [] = false
says w (word v ∷ tokens) = bytes_eq v w
says w (number n d ∷ tokens) = false
says w (sign t ∷ tokens) = false
says w (wrong ∷ tokens) = false

-- what is wrong where something else is wanted: the byte that begins no token, or that the wanted doesn't stand
unfoldable pub blame : Fault → List Token → Fault
blame fault [] = fault
blame fault (word w ∷ tokens) = fault
blame fault (number n d ∷ tokens) = fault
blame fault (sign t ∷ tokens) = fault
blame fault (wrong ∷ tokens) = WrongByte
