-- What is printed for a token is read as the token, and the tokens of a line can be printed.
use Rattle.std.proofs.Common.{◌≡◌, ℕ, ◌^◌, ◌<◌, Bool, true, false, cond, eqb, List, [], ◌∷◌, ◌++◌, Option, Some, None, refl, sym, ap, ◌∙◌, arith, append_assoc}
use Rattle.std.specs.Prelude.{◌&&◌, ◌||◌, is_some, not, nat_le}
use Rattle.std.specs.Char.{is_ascii_digit, is_ascii_alphabetic}
use Rattle.std.specs.Fmt.{decimal}
use Rattle.std.specs.List.{list_all}
use Rattle.std.proofs.lemmas.List.{append-nil}
use Rattle.std.proofs.lemmas.Bool.{eqb-true}
use Rattle.std.proofs.lemmas.Grind.{common_steps}
use Rattle.text_lines.specs.Numbers.{all_digits, value, is_spelled}
use Rattle.text_lines.specs.Pieces.{is_free}
use Rattle.text_lines.proofs.NumberLaws.{spelled_digits}
use Rattle.text_lines.proofs.SpellingLaws.{decimal_spells}
use Rattle.source_text.specs.declared.lexemes.Sign.{Sign}
use Rattle.source_text.specs.declared.lexemes.Sign.TheVariants.{AtMost, Below, AtLeast, Above, Equal, Assign, Plus, Minus, Times, Open, Close, Dot, At}
use Rattle.source_text.specs.Tokens.{Token, word, number, sign, wrong}
use Rattle.source_text.specs.Signs.{sign_text, sign_of, with_equals}
use Rattle.source_text.specs.Cutting.{Cut, saturated, part_of, number_with, number_at, word_at, sign_with, sign_at, first_cut, tokens_by, tokens}
use Rattle.source_text.specs.Bytes.{is_blank, is_word_byte, begins_with, begins_with_digit, behind_blanks, digits_of, behind_digits, word_of, behind_word}
use Rattle.source_text.specs.Spelling.{is_word, is_number, Spells, IsCutInto, ends, stops, goes_on}
use Rattle.source_text.specs.Lines.{is_void, is_skipped}
use Rattle.source_text.specs.Printed.{printed, IsPrintable, IsFromLine, AreFromLine, IsApart}
use Rattle.source_text.proofs.ByteLaws.{both_true, front_is, behind_is, word_bytes, behind_yes}
use Rattle.source_text.proofs.NumberLaws.{saturated_small}
use Rattle.source_text.proofs.SpellLaws.{Begins, letter, digit, mark, spelled_front, none_is}
use Rattle.source_text.proofs.TokenLaws.{tokens_is, tokens_of_nothing}
use Rattle.source_text.proofs.CutLaws.{tokens_cut, behind_these_blanks, no_blank}

same_cut : (s t : Token) (rest more : List ℕ) → s ≡ t → rest ≡ more → ◌≡◌ {A = Option Cut} (Some (s, rest)) (Some (t, more))
same_cut s t rest more p q = cc

digit_no_letter : (b : ℕ) → is_ascii_digit b ≡ true → is_ascii_alphabetic b ≡ false
digit_no_letter b is = grind (arith, common_steps)

-- ---- the first cut, by the first byte

first_of_letter : (b : ℕ) (bytes : List ℕ) → is_ascii_alphabetic b ≡ true → first_cut (b ∷ bytes) ≡ Some (word_at (b ∷ bytes))
unfolding first_cut
first_of_letter b bytes is =
    ap (λ t. cond t (Some (word_at (b ∷ bytes))) (cond (is_ascii_digit b) (Some (number_at (b ∷ bytes))) (Some (sign_at (sign_of b) bytes)))) is

first_of_digit : (b : ℕ) (bytes : List ℕ) → is_ascii_digit b ≡ true → first_cut (b ∷ bytes) ≡ Some (number_at (b ∷ bytes))
unfolding first_cut
first_of_digit b bytes is =
    ap (λ t. cond t (Some (word_at (b ∷ bytes))) (cond (is_ascii_digit b) (Some (number_at (b ∷ bytes))) (Some (sign_at (sign_of b) bytes)))) (digit_no_letter b is)
    ∙ ap (λ t. cond t (Some (number_at (b ∷ bytes))) (Some (sign_at (sign_of b) bytes))) is

-- ---- words

word_again : (w rest : List ℕ) → is_word w ≡ true → begins_with is_word_byte rest ≡ false → first_cut (w ++ rest) ≡ Some (word w, rest)
unfolding word_at word_of behind_word
word_again [] rest is apart = absurd (cc)
word_again (b ∷ w) rest is apart =
    let all = word_bytes (b ∷ w) is in
    first_of_letter b (w ++ rest) (both_true (is_ascii_alphabetic b) (list_all is_word_byte w) is).0
    ∙ same_cut _ _ _ _ (ap word (front_is is_word_byte (b ∷ w) rest all apart)) (behind_is is_word_byte (b ∷ w) rest all apart)

-- ---- numbers

-- the digits of a number that counts as itself
record Digits (n : ℕ) (digits : List ℕ) : Type 0 where
  are : is_number digits ≡ true
  all : all_digits digits ≡ true
  value_is : saturated (value digits) ≡ n

spelled_number : (digits : List ℕ) → is_spelled digits ≡ true → all_digits digits ≡ true → is_number digits ≡ true
unfolding is_spelled
spelled_number [] spelled all = spelled
spelled_number (b ∷ digits) spelled all = all

decimal_digits : (n : ℕ) → n < 2 ^ 32 → Digits n (decimal n)
decimal_digits n small =
    let s = decimal_spells n (omega arith) in
    let all = spelled_digits (decimal n) s.spelled in
    record {
      are = spelled_number (decimal n) s.spelled all;
      all = all;
      value_is = ap saturated s.value_is ∙ saturated_small n small;
    }

part_again : (n : ℕ) (digits rest : List ℕ) → Digits n digits → begins_with_digit rest ≡ false → (part_of (digits ++ rest) ≡ n) × (behind_digits (digits ++ rest) ≡ rest)
unfolding part_of digits_of behind_digits
part_again n digits rest are apart =
    (ap (λ (ds : List ℕ). saturated (value ds)) (front_is is_ascii_digit digits rest are.all apart) ∙ are.value_is, behind_is is_ascii_digit digits rest are.all apart)

number_first : (digits rest : List ℕ) → is_number digits ≡ true → first_cut (digits ++ rest) ≡ Some (number_at (digits ++ rest))
number_first [] rest is = absurd (cc)
number_first (b ∷ digits) rest is = first_of_digit b (digits ++ rest) (both_true (is_ascii_digit b) (all_digits digits) is).0

begins_again : (digits rest : List ℕ) → is_number digits ≡ true → begins_with_digit (digits ++ rest) ≡ true
begins_again [] rest is = absurd (cc)
begins_again (b ∷ digits) rest is = (both_true (is_ascii_digit b) (all_digits digits) is).0

neither : (a b : Bool) → (a || b) ≡ false → (a ≡ false) × (b ≡ false)
neither true b e = absurd (cc)
neither false b e = (refl, e)

no_digit : (rest : List ℕ) → begins_with (λ b. is_ascii_digit b || eqb b 47) rest ≡ false → begins_with_digit rest ≡ false
no_digit [] apart = refl
no_digit (b ∷ rest) apart = (neither (is_ascii_digit b) (eqb b 47) apart).0

no_slash : (n : ℕ) (rest : List ℕ) → begins_with (λ b. is_ascii_digit b || eqb b 47) rest ≡ false → number_with n rest ≡ (number n None, rest)
unfolding number_with
no_slash n [] apart = refl
no_slash n (b ∷ rest) apart =
    ap (λ t. cond (t && begins_with_digit rest) (number n (Some (part_of rest)), behind_digits rest) (number n None, b ∷ rest)) (neither (is_ascii_digit b) (eqb b 47) apart).1

number_at_is : (bytes rest : List ℕ) (n : ℕ) → part_of bytes ≡ n → behind_digits bytes ≡ rest → number_at bytes ≡ number_with n rest
unfolding number_at
number_at_is bytes rest n p q = ap (λ k. number_with k (behind_digits bytes)) p ∙ ap (number_with n) q

number_again : (n : ℕ) (digits rest : List ℕ) → Digits n digits → begins_with (λ b. is_ascii_digit b || eqb b 47) rest ≡ false → first_cut (digits ++ rest) ≡ Some (number n None, rest)
number_again n digits rest are apart =
    let part = part_again n digits rest are (no_digit rest apart) in
    number_first digits rest are.are ∙ ap (λ (c : Cut). Some c) (number_at_is (digits ++ rest) rest n part.0 part.1 ∙ no_slash n rest apart)

slash_again : (n d : ℕ) (den rest : List ℕ) → Digits d den → begins_with_digit rest ≡ false → number_with n (47 ∷ (den ++ rest)) ≡ (number n (Some d), rest)
unfolding number_with
slash_again n d den rest are apart =
    let part = part_again d den rest are apart in
    ap (λ t. cond t (number n (Some (part_of (den ++ rest))), behind_digits (den ++ rest)) (number n None, 47 ∷ (den ++ rest))) (begins_again den rest are.are)
    ∙ ap (λ k. (number n (Some k), behind_digits (den ++ rest))) part.0 ∙ ap (λ (bs : List ℕ). (number n (Some d), bs)) part.1

fraction_again : (n d : ℕ) (num den rest : List ℕ) → Digits n num → Digits d den → begins_with_digit rest ≡ false → first_cut ((num ++ (47 ∷ den)) ++ rest) ≡ Some (number n (Some d), rest)
fraction_again n d num den rest are others apart =
    let part = part_again n num (47 ∷ (den ++ rest)) are refl in
    ap first_cut (append_assoc num (47 ∷ den) rest) ∙ number_first num (47 ∷ (den ++ rest)) are.are
    ∙ ap (λ (c : Cut). Some c) (number_at_is (num ++ (47 ∷ (den ++ rest))) (47 ∷ (den ++ rest)) n part.0 part.1 ∙ slash_again n d den rest others apart)

-- ---- signs

short_sign : (one both : Sign) (rest : List ℕ) → begins_with (λ b. eqb b 61) rest ≡ false → sign_with (Some both) one rest ≡ (sign one, rest)
short_sign one both [] apart = refl
short_sign one both (b ∷ rest) apart = ap (λ t. cond t (sign both, rest) (sign one, b ∷ rest)) apart

sign_again : (s : Sign) (rest : List ℕ) → IsApart (sign s) rest → first_cut (sign_text s ++ rest) ≡ Some (sign s, rest)
unfolding first_cut sign_of
sign_again AtMost rest apart = refl
sign_again Below rest apart = ap (λ (c : Cut). Some c) (short_sign Below AtMost rest apart)
sign_again AtLeast rest apart = refl
sign_again Above rest apart = ap (λ (c : Cut). Some c) (short_sign Above AtLeast rest apart)
sign_again Equal rest apart = refl
sign_again Assign rest apart = ap (λ (c : Cut). Some c) (short_sign Assign Equal rest apart)
sign_again Plus rest apart = refl
sign_again Minus rest apart = refl
sign_again Times rest apart = refl
sign_again Open rest apart = refl
sign_again Close rest apart = refl
sign_again Dot rest apart = refl
sign_again At rest apart = refl

-- ---- tokens

first_printed : (t : Token) (rest : List ℕ) → IsPrintable t → IsApart t rest → first_cut (printed t ++ rest) ≡ Some (t, rest)
first_printed (word w) rest is apart = word_again w rest is apart
first_printed (number n None) rest is apart = number_again n (decimal n) rest (decimal_digits n is) apart
first_printed (number n (Some d)) rest is apart = fraction_again n d (decimal n) (decimal d) rest (decimal_digits n is.0) (decimal_digits d is.1) apart
first_printed (sign s) rest is apart = sign_again s rest apart
first_printed wrong rest is apart = absurd is

spelled_by : (t : Token) → IsPrintable t → Spells (printed t) t
spelled_by (word w) is = (refl, is)
spelled_by (number n None) is =
    let digits = decimal_digits n is in
    (digits.are, digits.value_is)
spelled_by (number n (Some d)) is =
    let num = decimal_digits n is.0 in
    let den = decimal_digits d is.1 in
    (decimal n, (decimal d, (refl, (num.are, num.value_is), (den.are, den.value_is))))
spelled_by (sign s) is = refl
spelled_by wrong is = is

-- a token has no blank in front
begins_token : (t : Token) (rest : List ℕ) → IsPrintable t → begins_with is_blank (printed t ++ rest) ≡ false
begins_token t rest is =
    let front = spelled_front (printed t) t (spelled_by t is) in
    ap (λ (bs : List ℕ). begins_with is_blank (bs ++ rest)) front.bytes_are ∙ no_blank front.first t front.kind

-- what is printed is read as the token, and what is behind it is read after it
pub tokens_printed : (t : Token) (rest : List ℕ) → IsPrintable t → IsApart t rest → tokens (printed t ++ rest) ≡ t ∷ tokens rest
tokens_printed t rest is apart =
    tokens_is (printed t ++ rest)
    ∙ ap (λ (bs : List ℕ). tokens_by tokens (first_cut bs)) (behind_these_blanks [] (printed t ++ rest) refl (begins_token t rest is))
    ∙ ap (tokens_by tokens) (first_printed t rest is apart)

-- a space between tokens isn't read
pub tokens_space : (rest : List ℕ) → tokens (32 ∷ rest) ≡ tokens rest
unfolding behind_blanks
tokens_space rest =
    tokens_is (32 ∷ rest) ∙ ap (λ (bs : List ℕ). tokens_by tokens (first_cut bs)) (behind_yes is_blank 32 rest refl) ∙ sym (tokens_is rest)

-- a space doesn't belong to the token before it
space_is_apart : (t : Token) (rest : List ℕ) → IsPrintable t → IsApart t (32 ∷ rest)
space_is_apart (word w) rest is = refl
space_is_apart (number n None) rest is = refl
space_is_apart (number n (Some d)) rest is = refl
space_is_apart (sign s) rest is = and_false (is_some (with_equals s))
  where
    and_false : (b : Bool) → (b && false) ≡ false
    and_false true = refl
    and_false false = refl
space_is_apart wrong rest is = absurd is

pub tokens_printed_space : (t : Token) (rest : List ℕ) → IsPrintable t → tokens (printed t ++ (32 ∷ rest)) ≡ t ∷ tokens rest
tokens_printed_space t rest is = tokens_printed t (32 ∷ rest) is (space_is_apart t rest is) ∙ ap (λ (ts : List Token). t ∷ ts) (tokens_space rest)

-- the last token of a line
pub tokens_printed_last : (t : Token) → IsPrintable t → tokens (printed t) ≡ t ∷ []
tokens_printed_last t is =
    ap tokens (sym (append-nil (printed t))) ∙ tokens_printed t [] is refl ∙ ap (λ (ts : List Token). t ∷ ts) tokens_of_nothing

-- ---- lines of tokens

abbrev pub visible : List ℕ → Bool
visible bytes = list_all (λ b. nat_le 33 b) bytes

pub visible_by : (p : ℕ → Bool) → ((b : ℕ) → p b ≡ true → nat_le 33 b ≡ true) → (bytes : List ℕ) → list_all p bytes ≡ true → visible bytes ≡ true
visible_by p is [] all = refl
visible_by p is (b ∷ bytes) all =
    let parts = both_true (p b) (list_all p bytes) all in
    ap (λ t. t && visible bytes) (is b parts.0) ∙ visible_by p is bytes parts.1

pub visible-append : (front back : List ℕ) → visible front ≡ true → visible back ≡ true → visible (front ++ back) ≡ true
visible-append [] back p q = q
visible-append (b ∷ front) back p q =
    let parts = both_true (nat_le 33 b) (visible front) p in
    ap (λ t. t && visible (front ++ back)) parts.0 ∙ visible-append front back parts.1 q

pub word_byte_visible : (b : ℕ) → is_word_byte b ≡ true → nat_le 33 b ≡ true
word_byte_visible b is = grind (arith, common_steps)

pub digit_visible : (b : ℕ) → is_ascii_digit b ≡ true → nat_le 33 b ≡ true
digit_visible b is = grind (arith, common_steps)

pub sign_visible : (s : Sign) → visible (sign_text s) ≡ true
sign_visible AtMost = refl
sign_visible Below = refl
sign_visible AtLeast = refl
sign_visible Above = refl
sign_visible Equal = refl
sign_visible Assign = refl
sign_visible Plus = refl
sign_visible Minus = refl
sign_visible Times = refl
sign_visible Open = refl
sign_visible Close = refl
sign_visible Dot = refl
sign_visible At = refl

digits_visible : (n : ℕ) → n < 2 ^ 32 → visible (decimal n) ≡ true
digits_visible n small = visible_by is_ascii_digit digit_visible (decimal n) (decimal_digits n small).all

printed_visible : (t : Token) → IsPrintable t → visible (printed t) ≡ true
printed_visible (word w) is = visible_by is_word_byte word_byte_visible w (word_bytes w is)
printed_visible (number n None) is = digits_visible n is
printed_visible (number n (Some d)) is = visible-append (decimal n) (47 ∷ decimal d) (digits_visible n is.0) (digits_visible d is.1)
printed_visible (sign s) is = sign_visible s
printed_visible wrong is = absurd is

differs : (b c : ℕ) → c < 33 → nat_le 33 b ≡ true → not (eqb b c) ≡ true
differs b c low high = grind (arith, common_steps)

pub visible_free : (c : ℕ) (bytes : List ℕ) → c < 33 → visible bytes ≡ true → is_free c bytes ≡ true
visible_free c [] low all = refl
visible_free c (b ∷ bytes) low all =
    let parts = both_true (nat_le 33 b) (visible bytes) all in
    ap (λ t. t && is_free c bytes) (differs b c low parts.0) ∙ visible_free c bytes low parts.1

-- no LF, no CR and no blank is in a token
pub printed_free : (c : ℕ) (t : Token) → c < 33 → IsPrintable t → is_free c (printed t) ≡ true
printed_free c t low is = visible_free c (printed t) low (printed_visible t is)

no_comment : (b : ℕ) (t : Token) → Begins b t → eqb b 35 ≡ false
unfolding sign_of
no_comment b (word w) (letter is) = grind (arith, common_steps)
no_comment b (number n d) (digit is) = grind (arith, common_steps)
no_comment b (sign s) (mark base is apart) = by_test (eqb b 35) refl
  where
    by_test : (t : Bool) → eqb b 35 ≡ t → eqb b 35 ≡ false
    by_test true e = absurd (none_is (ap sign_of (sym (eqb-true b 35 e)) ∙ is))
    by_test false e = e
no_comment b wrong kind = elim kind [ ]

-- a line that begins with a token isn't skipped
pub printed_stays : (t : Token) (rest : List ℕ) → IsPrintable t → is_skipped (printed t ++ rest) ≡ false
unfolding is_skipped
printed_stays t rest is =
    let front = spelled_front (printed t) t (spelled_by t is) in
    ap is_void (behind_these_blanks [] (printed t ++ rest) refl (begins_token t rest is)) ∙ ap (λ (bs : List ℕ). is_void (bs ++ rest)) front.bytes_are ∙ no_comment front.first t front.kind

-- ---- the tokens of a line

saturated_fits : (k n : ℕ) → saturated k ≡ n → n < 2 ^ 32
saturated_fits k n e = omega arith

spelled_printable : (bytes : List ℕ) (t : Token) → Spells bytes t → IsFromLine t
spelled_printable bytes (word w) spelled = spelled.1
spelled_printable bytes (number n None) spelled = saturated_fits (value bytes) n spelled.1
spelled_printable bytes (number n (Some d)) spelled = (saturated_fits (value spelled.0) n spelled.1.1.1.1, saturated_fits (value spelled.1.0) d spelled.1.1.2.1)
spelled_printable bytes (sign s) spelled = tt
spelled_printable bytes wrong spelled = tt

cut_from_line : (bytes : List ℕ) (ts : List Token) → IsCutInto bytes ts → AreFromLine ts
cut_from_line bytes [] (ends are) = tt
cut_from_line bytes ts (stops blanks b rest whole are not_blank none) = (tt, tt)
cut_from_line bytes ts (goes_on {token = t} blanks more behind whole are first cut) = (spelled_printable first.front t first.spelled, cut_from_line behind _ cut)

-- a line's tokens can be printed, but for a byte that begins no token
pub tokens_from_line : (bytes : List ℕ) → AreFromLine (tokens bytes)
tokens_from_line bytes = cut_from_line bytes (tokens bytes) (tokens_cut bytes)
