-- A line of tokens and blanks alone holds no LF and no CR.
use Rattle.std.proofs.Common.{◌≡◌, ℕ, ◌<◌, Bool, true, false, eqb, List, [], ◌∷◌, ◌++◌, Option, Some, None, refl, sym, ap, subst, ◌∙◌, arith}
use Rattle.std.specs.Prelude.{◌&&◌, not}
use Rattle.std.specs.Char.{is_ascii_digit}
use Rattle.std.specs.List.{list_all, AllByRecursion}
use Rattle.std.proofs.lemmas.Grind.{common_steps}
use Rattle.text_lines.specs.Pieces.{is_free}
use Rattle.text_lines.specs.Numbers.{all_digits}
use Rattle.source_text.specs.Tokens.{Token, word, number, sign, wrong}
use Rattle.source_text.specs.Signs.{sign_text}
use Rattle.source_text.specs.Cutting.{tokens}
use Rattle.source_text.specs.Bytes.{is_blank, is_word_byte}
use Rattle.source_text.specs.Spelling.{is_word, is_number, Spells, are_blank, IsCutInto, ends, stops, goes_on}
use Rattle.source_text.proofs.ByteLaws.{both_true, word_bytes}
use Rattle.source_text.proofs.CutLaws.{tokens_cut}
use Rattle.source_text.proofs.PrintLaws.{visible, visible_by, visible-append, word_byte_visible, digit_visible, sign_visible, visible_free}

-- no byte that begins no token
abbrev pub IsRight : Token → Type 0
IsRight (word w) = Unit {0}
IsRight (number n d) = Unit {0}
IsRight (sign s) = Unit {0}
IsRight wrong = ⊥

abbrev pub AreRight : List Token → Type 0
AreRight ts = AllByRecursion IsRight ts

pub right-append : (front back : List Token) → AreRight front → AreRight back → AreRight (front ++ back)
right-append [] back p q = q
right-append (t ∷ front) back p q = (p.0, right-append front back p.1 q)

number_visible : (digits : List ℕ) → is_number digits ≡ true → visible digits ≡ true
number_visible [] is = absurd (cc)
number_visible (b ∷ digits) is = visible_by is_ascii_digit digit_visible (b ∷ digits) is

spelled_visible : (bytes : List ℕ) (t : Token) → Spells bytes t → visible bytes ≡ true
spelled_visible bytes (word w) spelled = ap visible spelled.0 ∙ visible_by is_word_byte word_byte_visible w (word_bytes w spelled.1)
spelled_visible bytes (number n None) spelled = number_visible bytes spelled.0
spelled_visible bytes (number n (Some d)) spelled =
    ap visible spelled.1.1.0 ∙ visible-append spelled.0 (47 ∷ spelled.1.0) (number_visible spelled.0 spelled.1.1.1.0) (number_visible spelled.1.0 spelled.1.1.2.0)
spelled_visible bytes (sign s) spelled = ap visible spelled ∙ sign_visible s
spelled_visible bytes wrong spelled = absurd spelled

free-append : (c : ℕ) (front back : List ℕ) → is_free c front ≡ true → is_free c back ≡ true → is_free c (front ++ back) ≡ true
free-append c [] back p q = q
free-append c (b ∷ front) back p q =
    let parts = both_true (not (eqb b c)) (is_free c front) p in
    ap (λ t. t && is_free c (front ++ back)) parts.0 ∙ free-append c front back parts.1 q

not_blank : (b c : ℕ) → is_blank b ≡ true → is_blank c ≡ false → not (eqb b c) ≡ true
not_blank b c is isn't = grind (arith, common_steps)

blank_free : (c : ℕ) (bytes : List ℕ) → is_blank c ≡ false → are_blank bytes ≡ true → is_free c bytes ≡ true
blank_free c [] isn't are = refl
blank_free c (b ∷ bytes) isn't are =
    let parts = both_true (is_blank b) (are_blank bytes) are in
    ap (λ t. t && is_free c bytes) (not_blank b c parts.0 isn't) ∙ blank_free c bytes isn't parts.1

cut_free : (c : ℕ) (bytes : List ℕ) (ts : List Token) → c < 33 → is_blank c ≡ false → IsCutInto bytes ts → AreRight ts → is_free c bytes ≡ true
cut_free c bytes ts low isn't (ends are) right = blank_free c bytes isn't are
cut_free c bytes ts low isn't (stops blanks b rest whole are not_blank none) right = absurd right.0
cut_free c bytes ts low isn't (goes_on {token = t} {tokens = others} blanks more behind whole are first cut) right =
    ap (is_free c) whole
    ∙ free-append c blanks more (blank_free c blanks isn't are)
    (ap (is_free c) first.begins ∙ free-append c first.front behind (visible_free c first.front low (spelled_visible first.front t first.spelled)) (cut_free c behind others low isn't cut right.1))

pub right_free : (c : ℕ) (bytes : List ℕ) → c < 33 → is_blank c ≡ false → AreRight (tokens bytes) → is_free c bytes ≡ true
right_free c bytes low isn't right = cut_free c bytes (tokens bytes) low isn't (tokens_cut bytes) right
