-- Which tokens a text shows that is made of others.
use Rattle.std.proofs.Common.{◌≡◌, ℕ, true, false, Option, None, Some, List, [], ◌∷◌, ◌++◌, refl, sym, ap, ◌∙◌, append_assoc, arith}
use Rattle.std.specs.Prelude.{codes, ◌||◌, ◌==◌}
use Rattle.std.specs.Char.{is_ascii_digit}
use Rattle.std.proofs.lemmas.Bool.{or_parts}
use Rattle.std.proofs.lemmas.Grind.{common_steps}
use Rattle.source_text.specs.declared.lexemes.Sign.{Sign}
use Rattle.source_text.specs.declared.lexemes.Sign.TheVariants.{Close}
use Rattle.source_text.specs.Tokens.{Token, word, number, sign}
use Rattle.source_text.specs.Signs.{sign_text, with_equals}
use Rattle.source_text.specs.Bytes.{is_word_byte, begins_with}
use Rattle.source_text.specs.Cutting.{tokens}
use Rattle.source_text.specs.Spelling.{is_word}
use Rattle.source_text.specs.Printed.{printed, IsPrintable, AreFromLine, IsApart}
use Rattle.source_text.proofs.PrintLaws.{tokens_printed, tokens_space, tokens_printed_space}
use Rattle.condition_syntax.specs.CanonicalTokens.{EndsToken, Shows}

-- ---- one token

no_word : (rest : List ℕ) → EndsToken rest → begins_with is_word_byte rest ≡ false
no_word [] ends = refl
no_word (b ∷ rest) ends = (or_parts (is_word_byte b) (b == 47) ends).0

digit_is_word : (b : ℕ) → is_word_byte b ≡ false → is_ascii_digit b ≡ false
digit_is_word b is = grind (arith, common_steps)

no_number : (rest : List ℕ) → EndsToken rest → begins_with (λ b. is_ascii_digit b || (b == 47)) rest ≡ false
no_number [] ends = refl
no_number (b ∷ rest) ends =
    let parts = or_parts (is_word_byte b) (b == 47) ends in
    ap (λ t. t || (b == 47)) (digit_is_word b parts.0) ∙ parts.1

no_digits : (rest : List ℕ) → EndsToken rest → begins_with is_ascii_digit rest ≡ false
no_digits [] ends = refl
no_digits (b ∷ rest) ends = digit_is_word b (or_parts (is_word_byte b) (b == 47) ends).0

pub shows_word : (w : List ℕ) → is_word w ≡ true → Shows w (word w ∷ [])
shows_word w is rest ends = tokens_printed (word w) rest is (no_word rest ends)

pub shows_number : (n : ℕ) (d : Option ℕ) → IsPrintable (number n d) → Shows (printed (number n d)) (number n d ∷ [])
shows_number n None is rest ends = tokens_printed (number n None) rest is (no_number rest ends)
shows_number n (Some d) is rest ends = tokens_printed (number n (Some d)) rest is (no_digits rest ends)

-- ---- texts one after another

pub shows_space : (text : List ℕ) (front : List Token) → Shows text front → Shows (32 ∷ text) front
shows_space text front shows rest ends = tokens_space (text ++ rest) ∙ shows rest ends

pub shows_then : (a b : List ℕ) (f g : List Token) → Shows a f → Shows b g → ((rest : List ℕ) → EndsToken (b ++ rest)) → Shows (a ++ b) (f ++ g)
shows_then a b f g first second apart rest ends =
    ap tokens (append_assoc a b rest) ∙ first (b ++ rest) (apart rest) ∙ ap (λ (ts : List Token). f ++ ts) (second rest ends) ∙ sym (append_assoc f g (tokens rest))

-- behind a space
pub shows_spaced : (a b : List ℕ) (f g : List Token) → Shows a f → Shows b g → Shows (a ++ 32 ∷ b) (f ++ g)
shows_spaced a b f g first second = shows_then a (32 ∷ b) f g first (shows_space b g second) (λ rest. refl)

pub shows_word_then : (w b : List ℕ) (g : List Token) → is_word w ≡ true → Shows b g → Shows (w ++ 32 ∷ b) (word w ∷ g)
shows_word_then w b g is second = shows_spaced w b (word w ∷ []) g (shows_word w is) second

pub shows_sign_then : (s : Sign) (b : List ℕ) (g : List Token) → Shows b g → Shows (sign_text s ++ 32 ∷ b) (sign s ∷ g)
shows_sign_then s b g second rest ends =
    ap tokens (append_assoc (sign_text s) (32 ∷ b) rest) ∙ tokens_printed_space (sign s) (b ++ rest) tt ∙ ap (λ (ts : List Token). sign s ∷ ts) (second rest ends)

apart_alone : (s : Sign) (rest : List ℕ) → with_equals s ≡ None → IsApart (sign s) rest
apart_alone s [] none = refl
apart_alone s (b ∷ rest) none = rw none refl

-- a sign that a `=` makes no other
pub shows_sign_tight : (s : Sign) (b : List ℕ) (g : List Token) → with_equals s ≡ None → Shows b g → Shows (sign_text s ++ b) (sign s ∷ g)
shows_sign_tight s b g none second rest ends =
    ap tokens (append_assoc (sign_text s) b rest) ∙ tokens_printed (sign s) (b ++ rest) tt (apart_alone s (b ++ rest) none) ∙ ap (λ (ts : List Token). sign s ∷ ts) (second rest ends)

pub shows_nothing : Shows [] []
shows_nothing rest ends = refl

close_shows : Shows (codes ")") (sign Close ∷ [])
close_shows rest ends = tokens_printed (sign Close) rest tt (apart_alone Close rest refl)

pub shows_closed : (a : List ℕ) (f : List Token) → Shows a f → Shows (a ++ codes ")") (f ++ sign Close ∷ [])
shows_closed a f first = shows_then a (codes ")") f (sign Close ∷ []) first close_shows (λ rest. refl)

-- ---- tokens of a line

pub from_line_parts : (f g : List Token) → AreFromLine (f ++ g) → AreFromLine f × AreFromLine g
from_line_parts [] g all = (tt, all)
from_line_parts (t ∷ f) g all =
    let parts = from_line_parts f g all.1 in
    ((all.0, parts.0), parts.1)
