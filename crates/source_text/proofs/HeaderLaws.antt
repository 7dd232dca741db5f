-- The texts of a line, one after the other.
use Rattle.std.proofs.Common.{◌≡◌, ℕ, ◌<◌, Bool, true, false, cond, List, [], ◌∷◌, ◌++◌, length, take, drop, refl, sym, ap, ◌∙◌, arith}
use Rattle.std.specs.Prelude.{filter, not, ◌&&◌}
use Rattle.std.specs.List.{prefix_len, list_all, slice_split, onto_first}
use Rattle.std.proofs.lemmas.List.{append-nil, take-append-drop}
use Rattle.source_text.specs.Bytes.{is_blank, begins_with, behind_blanks}
use Rattle.source_text.specs.Header.{texts, is_some_text}
use Rattle.source_text.proofs.ByteLaws.{both_true, front_yes, behind_yes, behind_no, front_passes, behind_stops}

abbrev pub is_ink : ℕ → Bool
is_ink b = not (is_blank b)

blank_first : (b : ℕ) (bytes : List ℕ) → is_blank b ≡ true → texts (b ∷ bytes) ≡ texts bytes
unfolding texts
blank_first b bytes blank = ap (λ t. filter is_some_text (cond t ([] ∷ slice_split is_blank bytes) (onto_first b (slice_split is_blank bytes)))) blank

blanks_first : (bytes : List ℕ) → texts (behind_blanks bytes) ≡ texts bytes
unfolding behind_blanks
blanks_first [] = refl
blanks_first (b ∷ bytes) = by_test (is_blank b) refl (blanks_first bytes)
  where
    by_test : (t : Bool) → is_blank b ≡ t → texts (drop (prefix_len is_blank bytes) bytes) ≡ texts bytes → texts (drop (prefix_len is_blank (b ∷ bytes)) (b ∷ bytes)) ≡ texts (b ∷ bytes)
    by_test true e others = ap texts (behind_yes is_blank b bytes e) ∙ others ∙ sym (blank_first b bytes e)
    by_test false e others = ap texts (behind_no is_blank b bytes e)

-- bytes before the first of some parts
abbrev before_parts : List ℕ → List (List ℕ) → List (List ℕ)
before_parts run [] = run ∷ []
before_parts run (part ∷ parts) = (run ++ part) ∷ parts

onto : (b : ℕ) (run : List ℕ) (parts : List (List ℕ)) → onto_first b (before_parts run parts) ≡ before_parts (b ∷ run) parts
onto b run [] = refl
onto b run (part ∷ parts) = refl

no_ink : (b : ℕ) → not (is_blank b) ≡ false → is_blank b ≡ true
no_ink b e = of_not (is_blank b) e
  where
    of_not : (t : Bool) → not t ≡ false → t ≡ true
    of_not true e = refl
    of_not false e = absurd (cc)

ink : (b : ℕ) → not (is_blank b) ≡ true → is_blank b ≡ false
ink b e = of_not (is_blank b) e
  where
    of_not : (t : Bool) → not t ≡ true → t ≡ false
    of_not true e = absurd (cc)
    of_not false e = refl

split_before : (run bytes : List ℕ) → list_all is_ink run ≡ true → slice_split is_blank (run ++ bytes) ≡ before_parts run (slice_split is_blank bytes)
split_before [] bytes all = some_parts bytes
  where
    same : (parts : List (List ℕ)) (part : List ℕ) → part ∷ parts ≡ before_parts [] (part ∷ parts)
    same parts part = refl

    some_parts : (bs : List ℕ) → slice_split is_blank bs ≡ before_parts [] (slice_split is_blank bs)
    some_parts [] = refl
    some_parts (b ∷ bs) = by_test (is_blank b) (slice_split is_blank bs)
      where
        by_test : (t : Bool) (parts : List (List ℕ)) → cond t ([] ∷ parts) (onto_first b parts) ≡ before_parts [] (cond t ([] ∷ parts) (onto_first b parts))
        by_test true parts = refl
        by_test false [] = refl
        by_test false (part ∷ parts) = refl
split_before (b ∷ run) bytes all =
    let parts = both_true (is_ink b) (list_all is_ink run) all in
    ap (λ t. cond t ([] ∷ slice_split is_blank (run ++ bytes)) (onto_first b (slice_split is_blank (run ++ bytes)))) (ink b parts.0)
    ∙ ap (onto_first b) (split_before run bytes parts.1) ∙ onto b run (slice_split is_blank bytes)

-- a text, with a blank or nothing behind it
text_first : (b : ℕ) (run bytes : List ℕ) → list_all is_ink (b ∷ run) ≡ true → begins_with is_ink bytes ≡ false → texts ((b ∷ run) ++ bytes) ≡ (b ∷ run) ∷ texts bytes
unfolding texts
text_first b run [] all ends =
    ap (filter is_some_text) (split_before (b ∷ run) [] all) ∙ ap (λ (bs : List ℕ). (b ∷ bs) ∷ []) (append-nil run)
text_first b run (c ∷ bytes) all ends =
    let blank = no_ink c ends in
    let behind : slice_split is_blank (c ∷ bytes) ≡ [] ∷ slice_split is_blank bytes =
    ap (λ t. cond t ([] ∷ slice_split is_blank bytes) (onto_first c (slice_split is_blank bytes))) blank in
    ap (filter is_some_text) (split_before (b ∷ run) (c ∷ bytes) all ∙ ap (before_parts (b ∷ run)) behind)
    ∙ ap (λ (bs : List ℕ). (b ∷ bs) ∷ filter is_some_text (slice_split is_blank bytes)) (append-nil run)
    ∙ ap (λ (ts : List (List ℕ)). (b ∷ run) ∷ ts) (sym (blank_first c bytes blank))

blanks_behind : (line : List ℕ) → begins_with is_blank (behind_blanks line) ≡ false
unfolding behind_blanks
blanks_behind line = behind_stops is_blank line

pub no_text : (line bytes : List ℕ) → bytes ≡ behind_blanks line → length bytes ≡ 0 → texts line ≡ []
unfolding texts
no_text line [] behind none = sym (blanks_first line) ∙ ap texts (sym behind)
no_text line (b ∷ bytes) behind none = absurd (omega arith)

pub text_taken : (line bytes : List ℕ) → bytes ≡ behind_blanks line → 0 < length bytes → texts line ≡ take (prefix_len is_ink bytes) bytes ∷ texts (drop (prefix_len is_ink bytes) bytes)
text_taken line [] behind some = absurd (omega arith)
text_taken line (b ∷ bytes) behind some =
    let run = take (prefix_len is_ink bytes) bytes in
    let rest = drop (prefix_len is_ink bytes) bytes in
    let is : is_ink b ≡ true = ap not (ap (begins_with is_blank) behind ∙ blanks_behind line) in
    let all : list_all is_ink (b ∷ run) ≡ true = ap (λ t. t && list_all is_ink run) is ∙ front_passes is_ink bytes in
    let whole : b ∷ bytes ≡ (b ∷ run) ++ rest = ap (λ (bs : List ℕ). b ∷ bs) (sym (take-append-drop (prefix_len is_ink bytes) bytes)) in
    sym (blanks_first line) ∙ ap texts (sym behind ∙ whole) ∙ text_first b run rest all (behind_stops is_ink bytes)
    ∙ ap (λ (w : List ℕ). w ∷ texts rest) (sym (front_yes is_ink b bytes is)) ∙ ap (λ (bs : List ℕ). take (prefix_len is_ink (b ∷ bytes)) (b ∷ bytes) ∷ texts bs) (sym (behind_yes is_ink b bytes is))

pub ruleset text_laws = (no_text, text_taken)
