-- The tokens of a line, one after the other.
use Rattle.std.proofs.Common.{◌≡◌, ℕ, zero, suc, ◌≤◌, Bool, true, false, cond, eqb, List, [], ◌∷◌, length, drop, Option, Some, None, refl, sym, ap, subst, ◌∙◌, arith}
use Rattle.std.specs.List.{prefix_len}
use Rattle.std.specs.Char.{is_ascii_digit, is_ascii_alphabetic}
use Rattle.std.specs.Prelude.{◌&&◌}
use Rattle.std.proofs.lemmas.List.{length-drop}
use Rattle.std.proofs.lemmas.Grind.{common_steps}
use Rattle.source_text.specs.declared.lexemes.Sign.{Sign}
use Rattle.source_text.specs.declared.lexemes.Lexeme.{Lexeme}
use Rattle.source_text.specs.declared.lexemes.Lexeme.TheVariants.{End, Wrong, Word, Number, Sign as OfSign}
use Rattle.source_text.specs.Tokens.{Token, number, sign, wrong}
use Rattle.source_text.specs.Signs.{sign_of, with_equals}
use Rattle.source_text.specs.Cutting.{Cut, part_of, number_with, number_at, word_at, sign_with, sign_at, first_cut, tokens_by, tokens_within, tokens}
use Rattle.source_text.specs.Bytes.{is_blank, is_word_byte, behind_blanks, behind_digits, behind_word, begins_with_digit}
use Rattle.source_text.proofs.ByteLaws.{behind_yes}
use Rattle.source_text.specs.Shown.{shown, IsCut}

-- ---- what is behind a token is shorter than what it stands in

behind_le : (p : ℕ → Bool) (bytes : List ℕ) → length (drop (prefix_len p bytes) bytes) ≤ length bytes
behind_le p bytes = omega (arith, length-drop (prefix_len p bytes) bytes)

behind_lt : (p : ℕ → Bool) (b : ℕ) (bytes : List ℕ) → p b ≡ true → length (drop (prefix_len p (b ∷ bytes)) (b ∷ bytes)) ≤ length bytes
behind_lt p b bytes is = subst (λ (rest : List ℕ). length rest ≤ length bytes) (sym (behind_yes p b bytes is)) (behind_le p bytes)

pub blanks_le : (bytes : List ℕ) → length (behind_blanks bytes) ≤ length bytes
unfolding behind_blanks
blanks_le bytes = behind_le is_blank bytes

digits_le : (bytes : List ℕ) → length (behind_digits bytes) ≤ length bytes
unfolding behind_digits
digits_le bytes = behind_le is_ascii_digit bytes

word_lt : (b : ℕ) (bytes : List ℕ) → is_ascii_alphabetic b ≡ true → length (word_at (b ∷ bytes)).1 ≤ length bytes
unfolding word_at behind_word
word_lt b bytes letter = behind_lt is_word_byte b bytes (grind (arith, common_steps))

-- what a cut leaves is no longer than this
abbrev Leaves : ℕ → Cut → Type 0
Leaves most cut = length cut.1 ≤ most

number_with_le : (n : ℕ) (bytes : List ℕ) → Leaves (length bytes) (number_with n bytes)
unfolding number_with
number_with_le n [] = omega arith
number_with_le n (b ∷ bytes) = by_test (eqb b 47 && begins_with_digit bytes)
  where
    by_test : (t : Bool) → Leaves (length (b ∷ bytes)) (cond t (number n (Some (part_of bytes)), behind_digits bytes) (number n None, b ∷ bytes))
    by_test true = omega (arith, digits_le bytes)
    by_test false = omega arith

number_lt : (b : ℕ) (bytes : List ℕ) → is_ascii_digit b ≡ true → Leaves (length bytes) (number_at (b ∷ bytes))
unfolding number_at behind_digits
number_lt b bytes digit = omega (arith, number_with_le (part_of (b ∷ bytes)) (behind_digits (b ∷ bytes)), behind_lt is_ascii_digit b bytes digit)

sign_with_le : (longer : Option Sign) (one : Sign) (bytes : List ℕ) → Leaves (length bytes) (sign_with longer one bytes)
sign_with_le None one bytes = omega arith
sign_with_le (Some both) one [] = omega arith
sign_with_le (Some both) one (b ∷ bytes) = by_test (eqb b 61)
  where
    by_test : (t : Bool) → Leaves (length (b ∷ bytes)) (cond t (sign both, bytes) (sign one, b ∷ bytes))
    by_test true = omega arith
    by_test false = omega arith

sign_le : (begun : Option Sign) (bytes : List ℕ) → Leaves (length bytes) (sign_at begun bytes)
sign_le None bytes = omega arith
sign_le (Some one) bytes = sign_with_le (with_equals one) one bytes

abbrev IfCut : Option Cut → (Cut → Type 0) → Type 0
IfCut None P = Unit {0}
IfCut (Some cut) P = P cut

first_lt : (b : ℕ) (bytes : List ℕ) → IfCut (first_cut (b ∷ bytes)) (Leaves (length bytes))
unfolding first_cut
first_lt b bytes = by_letter (is_ascii_alphabetic b) refl
  where
    by_digit : (t : Bool) → is_ascii_digit b ≡ t → IfCut (cond t (Some (number_at (b ∷ bytes))) (Some (sign_at (sign_of b) bytes))) (Leaves (length bytes))
    by_digit true e = number_lt b bytes e
    by_digit false e = sign_le (sign_of b) bytes

    by_letter : (t : Bool) → is_ascii_alphabetic b ≡ t
        → IfCut (cond t (Some (word_at (b ∷ bytes))) (cond (is_ascii_digit b) (Some (number_at (b ∷ bytes))) (Some (sign_at (sign_of b) bytes)))) (Leaves (length bytes))
    by_letter true e = word_lt b bytes e
    by_letter false e = by_digit (is_ascii_digit b) refl

-- ---- how many bytes are allowed for doesn't matter

by_alike : (f g : List ℕ → List Token) (cut : Option Cut) → IfCut cut (λ c. f c.1 ≡ g c.1) → tokens_by f cut ≡ tokens_by g cut
by_alike f g None alike = refl
by_alike f g (Some cut) alike = ap (λ (ts : List Token). cut.0 ∷ ts) alike

if_cut : (cut : Option Cut) (P Q : Cut → Type 0) → ((c : Cut) → P c → Q c) → IfCut cut P → IfCut cut Q
if_cut None P Q f p = tt
if_cut (Some cut) P Q f p = f cut p

-- the same cuts, where what is left allows it
step_alike : (f g : List ℕ → List Token) (most : ℕ) (bytes : List ℕ) → length bytes ≤ suc most → ((bs : List ℕ) → length bs ≤ most → f bs ≡ g bs)
    → tokens_by f (first_cut bytes) ≡ tokens_by g (first_cut bytes)
unfolding first_cut
step_alike f g most [] fits alike = refl
step_alike f g most (b ∷ bytes) fits alike =
    by_alike f g (first_cut (b ∷ bytes)) (if_cut (first_cut (b ∷ bytes)) (Leaves (length bytes)) (λ c. f c.1 ≡ g c.1) (λ c le. alike c.1 (omega arith)) (first_lt b bytes))

nothing_within : (most : ℕ) (bytes : List ℕ) → length bytes ≤ 0 → tokens_within most bytes ≡ []
unfolding tokens_within behind_blanks first_cut
nothing_within zero bytes none = refl
nothing_within (suc most) [] none = refl
nothing_within (suc most) (b ∷ bytes) none = absurd (omega arith)

within_more : (most more : ℕ) (bytes : List ℕ) → length bytes ≤ most → most ≤ more → tokens_within most bytes ≡ tokens_within more bytes
unfolding tokens_within
within_more zero more bytes fits le = sym (nothing_within more bytes fits)
within_more (suc most) zero bytes fits le = absurd (omega arith)
within_more (suc most) (suc more) bytes fits le =
    step_alike (tokens_within most) (tokens_within more) most (behind_blanks bytes) (omega (arith, blanks_le bytes)) (λ bs short. within_more most more bs short (omega arith))

pub tokens_of_nothing : tokens [] ≡ []
unfolding tokens tokens_within
tokens_of_nothing = refl

one_more : (bytes : List ℕ) → tokens_within (suc (length bytes)) bytes ≡ tokens_by tokens (first_cut (behind_blanks bytes))
unfolding tokens_within tokens
one_more bytes =
    step_alike (tokens_within (length bytes)) tokens (length bytes) (behind_blanks bytes) (omega (arith, blanks_le bytes)) (λ bs short. sym (within_more (length bs) (length bytes) bs (omega arith) short))

-- the first token, and those behind it
pub tokens_is : (bytes : List ℕ) → tokens bytes ≡ tokens_by tokens (first_cut (behind_blanks bytes))
unfolding tokens
tokens_is bytes = within_more (length bytes) (suc (length bytes)) bytes (omega arith) (omega arith) ∙ one_more bytes

pub first_is_shown : (lexeme : Lexeme) (behind bytes : List ℕ) → IsCut lexeme behind (first_cut (behind_blanks bytes)) → tokens bytes ≡ shown lexeme (tokens behind)
first_is_shown End behind bytes is = tokens_is bytes ∙ ap (tokens_by tokens) is
first_is_shown Wrong behind bytes is = tokens_is bytes ∙ ap (tokens_by tokens) is ∙ ap (λ (ts : List Token). wrong ∷ ts) tokens_of_nothing
first_is_shown (Word w) behind bytes is = tokens_is bytes ∙ ap (tokens_by tokens) is
first_is_shown (Number num den) behind bytes is = tokens_is bytes ∙ ap (tokens_by tokens) is
first_is_shown (OfSign s) behind bytes is = tokens_is bytes ∙ ap (tokens_by tokens) is
