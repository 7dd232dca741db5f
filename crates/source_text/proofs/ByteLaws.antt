-- The bytes in front that are of one kind.
use Rattle.std.proofs.Common.{◌≡◌, ℕ, zero, suc, get_or, ◌+◌, ◌<◌, ◌≤◌, Bool, true, false, cond, List, [], ◌∷◌, ◌++◌, length, take, drop, refl, ap, ◌∙◌, arith}
use Rattle.std.specs.Prelude.{◌&&◌}
use Rattle.std.specs.Char.{is_ascii_digit, is_ascii_alphabetic}
use Rattle.std.specs.List.{prefix_len, list_all}
use Rattle.std.specs.Str.{IsUtf8}
use Rattle.std.proofs.lemmas.Str.{IsUtf8-from_ascii}
use Rattle.std.proofs.Math.Seq.{take-append_seam, drop-append_seam}
use Rattle.std.proofs.lemmas.Grind.{common_steps}
use Rattle.text_lines.specs.Numbers.{all_digits}
use Rattle.source_text.specs.Bytes.{is_word_byte, begins_with, begins_with_letter}
use Rattle.source_text.specs.Spelling.{is_word}

pub both_true : (a b : Bool) → (a && b) ≡ true → (a ≡ true) × (b ≡ true)
both_true true b e = (refl, e)
both_true false b e = absurd (cc)

-- one more byte that passes, or one that doesn't
pub front_yes : (p : ℕ → Bool) (b : ℕ) (bytes : List ℕ) → p b ≡ true → take (prefix_len p (b ∷ bytes)) (b ∷ bytes) ≡ b ∷ take (prefix_len p bytes) bytes
front_yes p b bytes is =
    let one_more : prefix_len p (b ∷ bytes) ≡ suc (prefix_len p bytes) = ap (λ t. cond t (1 + prefix_len p bytes) 0) is ∙ omega arith in
    ap (λ (n : ℕ). take n (b ∷ bytes)) one_more

pub front_no : (p : ℕ → Bool) (b : ℕ) (bytes : List ℕ) → p b ≡ false → take (prefix_len p (b ∷ bytes)) (b ∷ bytes) ≡ []
front_no p b bytes is = ap (λ t. take (cond t (1 + prefix_len p bytes) 0) (b ∷ bytes)) is

pub behind_yes : (p : ℕ → Bool) (b : ℕ) (bytes : List ℕ) → p b ≡ true → drop (prefix_len p (b ∷ bytes)) (b ∷ bytes) ≡ drop (prefix_len p bytes) bytes
behind_yes p b bytes is =
    let one_more : prefix_len p (b ∷ bytes) ≡ suc (prefix_len p bytes) = ap (λ t. cond t (1 + prefix_len p bytes) 0) is ∙ omega arith in
    ap (λ (n : ℕ). drop n (b ∷ bytes)) one_more

pub behind_no : (p : ℕ → Bool) (b : ℕ) (bytes : List ℕ) → p b ≡ false → drop (prefix_len p (b ∷ bytes)) (b ∷ bytes) ≡ b ∷ bytes
behind_no p b bytes is = ap (λ t. drop (cond t (1 + prefix_len p bytes) 0) (b ∷ bytes)) is

pub front_passes : (p : ℕ → Bool) (bytes : List ℕ) → list_all p (take (prefix_len p bytes) bytes) ≡ true
front_passes p [] = refl
front_passes p (b ∷ bytes) = by_test (p b) refl (front_passes p bytes)
  where
    by_test : (t : Bool) → p b ≡ t → list_all p (take (prefix_len p bytes) bytes) ≡ true → list_all p (take (prefix_len p (b ∷ bytes)) (b ∷ bytes)) ≡ true
    by_test true e others = ap (list_all p) (front_yes p b bytes e) ∙ ap (λ t. t && list_all p (take (prefix_len p bytes) bytes)) e ∙ others
    by_test false e others = ap (list_all p) (front_no p b bytes e)

pub digits_in_front : (bytes : List ℕ) → all_digits (take (prefix_len is_ascii_digit bytes) bytes) ≡ true
digits_in_front bytes = front_passes is_ascii_digit bytes

-- bytes of one kind before others are what stands in front
pub run_is : (p : ℕ → Bool) (run bytes : List ℕ) → list_all p run ≡ true → begins_with p bytes ≡ false → prefix_len p (run ++ bytes) ≡ length run
run_is p [] [] all stops = refl
run_is p [] (b ∷ bytes) all stops = ap (λ t. cond t (1 + prefix_len p bytes) 0) stops
run_is p (b ∷ run) bytes all stops =
    let parts = both_true (p b) (list_all p run) all in
    ap (λ t. cond t (1 + prefix_len p (run ++ bytes)) 0) parts.0 ∙ ap (λ (n : ℕ). 1 + n) (run_is p run bytes parts.1 stops) ∙ omega arith

pub front_is : (p : ℕ → Bool) (run bytes : List ℕ) → list_all p run ≡ true → begins_with p bytes ≡ false → take (prefix_len p (run ++ bytes)) (run ++ bytes) ≡ run
front_is p run bytes all stops = ap (λ (n : ℕ). take n (run ++ bytes)) (run_is p run bytes all stops) ∙ take-append_seam run bytes

pub behind_is : (p : ℕ → Bool) (run bytes : List ℕ) → list_all p run ≡ true → begins_with p bytes ≡ false → drop (prefix_len p (run ++ bytes)) (run ++ bytes) ≡ bytes
behind_is p run bytes all stops = ap (λ (n : ℕ). drop n (run ++ bytes)) (run_is p run bytes all stops) ∙ drop-append_seam run bytes

pub run_le : (p : ℕ → Bool) (run bytes : List ℕ) → list_all p run ≡ true → length run ≤ prefix_len p (run ++ bytes)
run_le p [] bytes all = omega arith
run_le p (b ∷ run) bytes all =
    let parts = both_true (p b) (list_all p run) all in
    let one_more : prefix_len p (b ∷ (run ++ bytes)) ≡ 1 + prefix_len p (run ++ bytes) = ap (λ t. cond t (1 + prefix_len p (run ++ bytes)) 0) parts.0 in
    omega (arith, run_le p run bytes parts.1)

pub behind_stops : (p : ℕ → Bool) (bytes : List ℕ) → begins_with p (drop (prefix_len p bytes) bytes) ≡ false
behind_stops p [] = refl
behind_stops p (b ∷ bytes) = by_test (p b) refl (behind_stops p bytes)
  where
    by_test : (t : Bool) → p b ≡ t → begins_with p (drop (prefix_len p bytes) bytes) ≡ false → begins_with p (drop (prefix_len p (b ∷ bytes)) (b ∷ bytes)) ≡ false
    by_test true e others = ap (begins_with p) (behind_yes p b bytes e) ∙ others
    by_test false e others = ap (begins_with p) (behind_no p b bytes e) ∙ e

-- a letter may also stand behind another
pub letter_in_word : (b : ℕ) → is_ascii_alphabetic b ≡ true → is_word_byte b ≡ true
letter_in_word b letter = grind (arith, common_steps)

pub word_in_front : (bytes : List ℕ) → begins_with_letter bytes ≡ true → is_word (take (prefix_len is_word_byte bytes) bytes) ≡ true
word_in_front [] letter = letter
word_in_front (b ∷ bytes) letter =
    ap is_word (front_yes is_word_byte b bytes (letter_in_word b letter))
    ∙ ap (λ t. t && list_all is_word_byte (take (prefix_len is_word_byte bytes) bytes)) letter ∙ front_passes is_word_byte bytes

-- ---- words are ASCII

word_byte_small : (b : ℕ) → is_word_byte b ≡ true → b < 128
word_byte_small b is = grind (arith, common_steps)

bytes_small : (bytes : List ℕ) → list_all is_word_byte bytes ≡ true → (i : ℕ) → get_or bytes i 0 < 128
bytes_small [] all i = omega arith
bytes_small (b ∷ bytes) all zero = word_byte_small b (both_true (is_word_byte b) (list_all is_word_byte bytes) all).0
bytes_small (b ∷ bytes) all (suc i) = bytes_small bytes (both_true (is_word_byte b) (list_all is_word_byte bytes) all).1 i

-- a word is made of bytes that may stand in one
pub word_bytes : (w : List ℕ) → is_word w ≡ true → list_all is_word_byte w ≡ true
word_bytes [] is = absurd (cc)
word_bytes (b ∷ bytes) is =
    let parts = both_true (is_ascii_alphabetic b) (list_all is_word_byte bytes) is in
    ap (λ t. t && list_all is_word_byte bytes) (letter_in_word b parts.0) ∙ parts.1

pub word_is_utf8 : (w : List ℕ) → is_word w ≡ true → IsUtf8 w
word_is_utf8 w is = IsUtf8-from_ascii w (bytes_small w (word_bytes w is))
