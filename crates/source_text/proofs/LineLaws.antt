-- The lines of a text, and their numbers.
use Rattle.std.proofs.Common.{◌≡◌, ℕ, zero, suc, ◌+◌, ◌<◌, Bool, true, false, cond, eqb, List, [], ◌∷◌, ◌++◌, length, take, get_or, refl, sym, ap, ◌∙◌, arith, eq-eqb, append_assoc}
use Rattle.std.specs.Prelude.{filter, not, ◌||◌}
use Rattle.std.specs.List.{join_with_byte}
use Rattle.text_lines.specs.Pieces.{pieces, is_free}
use Rattle.text_lines.proofs.PieceLaws.{some_piece, pieces_of_nothing, pieces_joined, pieces_of_free_front, free_first}
use Rattle.source_text.specs.Lines.{Line, without_cr, lines_of, lines_in, numbered, is_skipped, is_kept, kept, source_lines, end_number, text_of, ends_with_cr, ArePlain, Unread}

-- ---- a line's end

pub cr_dropped : (n : ℕ) (line : List ℕ) → length line ≡ suc n → get_or line n 0 ≡ 13 → without_cr line ≡ take n line
unfolding without_cr
cr_dropped zero [] size is = absurd (omega arith)
cr_dropped zero (b ∷ []) size is = ap (λ t. cond t [] (b ∷ [])) (eq-eqb b 13 is)
cr_dropped zero (b ∷ c ∷ line) size is = absurd (omega arith)
cr_dropped (suc n) [] size is = absurd (omega arith)
cr_dropped (suc n) (b ∷ []) size is = absurd (omega arith)
cr_dropped (suc n) (b ∷ c ∷ line) size is = ap (λ (bs : List ℕ). b ∷ bs) (cr_dropped n (c ∷ line) (omega arith) is)

pub no_cr_kept : (n : ℕ) (line : List ℕ) → length line ≡ suc n → eqb (get_or line n 0) 13 ≡ false → without_cr line ≡ line
unfolding without_cr
no_cr_kept zero [] size is = refl
no_cr_kept zero (b ∷ []) size is = ap (λ t. cond t [] (b ∷ [])) is
no_cr_kept zero (b ∷ c ∷ line) size is = absurd (omega arith)
no_cr_kept (suc n) [] size is = refl
no_cr_kept (suc n) (b ∷ []) size is = absurd (omega arith)
no_cr_kept (suc n) (b ∷ c ∷ line) size is = ap (λ (bs : List ℕ). b ∷ bs) (no_cr_kept n (c ∷ line) (omega arith) is)

pub no_line_kept : (line : List ℕ) → length line < 1 → line ≡ without_cr line
unfolding without_cr
no_line_kept [] none = refl
no_line_kept (b ∷ line) none = absurd (omega arith)

-- ---- the first line

pub first_with_lf : (text line rest : List ℕ) → pieces 10 text ≡ line ∷ pieces 10 rest → lines_in text ≡ without_cr line ∷ lines_in rest
unfolding lines_in lines_of
first_with_lf text line rest parts =
    let p = some_piece 10 rest in
    ap lines_of parts ∙ ap (λ (ps : List (List ℕ)). lines_of (line ∷ ps)) p.1.1 ∙ ap (λ (ps : List (List ℕ)). without_cr line ∷ lines_of ps) (sym p.1.1)

pub lines_in_nothing : lines_in [] ≡ []
unfolding lines_in lines_of
lines_in_nothing = ap lines_of (pieces_of_nothing 10)

whole_line : (text line : List ℕ) → pieces 10 text ≡ line ∷ [] → line ≡ text
whole_line text line parts = sym (ap (join_with_byte 10) parts) ∙ pieces_joined 10 text

-- a last line without LF
pub first_without_lf : (text line : List ℕ) → 0 < length text → pieces 10 text ≡ line ∷ [] → lines_in text ≡ line ∷ lines_in []
unfolding lines_in lines_of
first_without_lf text [] some parts = absurd (omega (arith, ap length (whole_line text [] parts)))
first_without_lf text (b ∷ line) some parts = ap lines_of parts ∙ ap (λ (ls : List (List ℕ)). (b ∷ line) ∷ ls) (sym (ap lines_of (pieces_of_nothing 10)))

pub nothing_in : (text : List ℕ) → length text ≡ 0 → lines_in text ≡ []
nothing_in [] none = lines_in_nothing
nothing_in (b ∷ text) none = absurd (omega arith)

pub ruleset first_lines = (first_with_lf, first_without_lf, nothing_in)

-- ---- all lines

pub none_left : (unread : Unread) (number : ℕ) (bytes : List ℕ) → record { lines = numbered number (lines_in bytes); end = number + length (lines_in bytes) } ≡ unread → lines_in bytes ≡ [] → unread.lines ≡ []
unfolding numbered
none_left unread number bytes view none = sym (ap (λ (u : Unread). u.lines) view) ∙ ap (numbered number) none

pub one_taken : (number : ℕ) (bytes line rest : List ℕ) → lines_in bytes ≡ line ∷ lines_in rest
    → numbered number (lines_in bytes) ≡ record { number = number; bytes = line } ∷ numbered (number + 1) (lines_in rest)
unfolding numbered
one_taken number bytes line rest e = ap (numbered number) e

numbered_none : (number : ℕ) (lines : List (List ℕ)) → numbered number lines ≡ [] → lines ≡ []
unfolding numbered
numbered_none number [] e = refl
numbered_none number (line ∷ lines) e = absurd (cc)

-- where no line is left, the next number is the end's
pub end_is : (unread : Unread) (number : ℕ) (bytes : List ℕ) → record { lines = numbered number (lines_in bytes); end = number + length (lines_in bytes) } ≡ unread → unread.lines ≡ [] → number ≡ unread.end
end_is unread number bytes view none =
    let empty = numbered_none number (lines_in bytes) (ap (λ (u : Unread). u.lines) view ∙ none) in
    sym (ap (λ (ls : List (List ℕ)). number + length ls) empty ∙ omega arith) ∙ ap (λ (u : Unread). u.end) view

-- ---- the lines that are kept

pub kept_first : (all others : List Line) (line : Line) → all ≡ line ∷ others → is_kept line ≡ true → kept all ≡ line ∷ kept others
unfolding kept
kept_first all others line are keeps = ap kept are ∙ ap (λ t. cond t (line ∷ filter is_kept others) (filter is_kept others)) keeps

pub kept_others : (all others : List Line) (line : Line) → all ≡ line ∷ others → is_kept line ≡ false → kept all ≡ kept others
unfolding kept
kept_others all others line are skips = ap kept are ∙ ap (λ t. cond t (line ∷ filter is_kept others) (filter is_kept others)) skips

pub kept_nothing : (all : List Line) → all ≡ [] → kept all ≡ []
unfolding kept
kept_nothing all are = ap kept are

-- ---- lines that are printed

pub plain_kept : (line : List ℕ) → ends_with_cr line ≡ false → without_cr line ≡ line
unfolding without_cr
plain_kept [] plain = refl
plain_kept (b ∷ []) plain = ap (λ t. cond t [] (b ∷ [])) plain
plain_kept (b ∷ c ∷ line) plain = ap (λ (bs : List ℕ). b ∷ bs) (plain_kept (c ∷ line) plain)

-- a CR before LF is dropped, and one before that is not
pub cr_is_dropped : (line : List ℕ) → without_cr (line ++ 13 ∷ []) ≡ line
unfolding without_cr
cr_is_dropped [] = refl
cr_is_dropped (b ∷ []) = refl
cr_is_dropped (b ∷ c ∷ line) = ap (λ (bs : List ℕ). b ∷ bs) (cr_is_dropped (c ∷ line))

-- a line with no CR at all doesn't end with one
pub free_of_cr : (line : List ℕ) → is_free 13 line ≡ true → ends_with_cr line ≡ false
free_of_cr [] free = refl
free_of_cr (b ∷ []) free = (free_first 13 b [] free).0
free_of_cr (b ∷ c ∷ line) free = free_of_cr (c ∷ line) (free_first 13 b (c ∷ line) free).1

pub lines_printed : (lines : List (List ℕ)) → ArePlain lines → lines_in (text_of lines) ≡ lines
unfolding text_of
lines_printed [] are = lines_in_nothing
lines_printed (line ∷ lines) are =
    first_with_lf (line ++ (10 ∷ text_of lines)) line (text_of lines) (pieces_of_free_front 10 line (text_of lines) are.0.no_end)
    ∙ ap (λ (l : List ℕ). l ∷ lines_in (text_of lines)) (plain_kept line are.0.no_cr) ∙ ap (λ (ls : List (List ℕ)). line ∷ ls) (lines_printed lines are.1)

stays_kept : (number : ℕ) (line : List ℕ) → is_skipped line ≡ false → is_kept (record { number = number; bytes = line }) ≡ true
unfolding is_kept
stays_kept number line stays = ap (λ t. eqb number 1 || not t) stays ∙ or_true (eqb number 1)
  where
    or_true : (t : Bool) → (t || true) ≡ true
    or_true true = refl
    or_true false = refl

all_kept : (number : ℕ) (lines : List (List ℕ)) → ArePlain lines → kept (numbered number lines) ≡ numbered number lines
unfolding numbered
all_kept number [] are = kept_nothing [] refl
all_kept number (line ∷ lines) are =
    kept_first (record { number = number; bytes = line } ∷ numbered (number + 1) lines) (numbered (number + 1) lines) (record { number = number; bytes = line }) refl (stays_kept number line are.0.stays)
    ∙ ap (λ (ls : List Line). record { number = number; bytes = line } ∷ ls) (all_kept (number + 1) lines are.1)

pub text_of-append : (front back : List (List ℕ)) → text_of (front ++ back) ≡ text_of front ++ text_of back
unfolding text_of
text_of-append [] back = refl
text_of-append (line ∷ lines) back =
    ap (λ (rest : List ℕ). line ++ (10 ∷ rest)) (text_of-append lines back) ∙ sym (append_assoc line (10 ∷ text_of lines) (text_of back))

-- the lines that are printed are read, with their numbers
pub source_lines_printed : (lines : List (List ℕ)) → ArePlain lines → source_lines (text_of lines) ≡ numbered 1 lines
unfolding source_lines
source_lines_printed lines are = ap (λ (ls : List (List ℕ)). kept (numbered 1 ls)) (lines_printed lines are) ∙ all_kept 1 lines are

pub end_number_printed : (lines : List (List ℕ)) → ArePlain lines → end_number (text_of lines) ≡ length lines + 1
unfolding end_number
end_number_printed lines are = ap (λ (ls : List (List ℕ)). length ls + 1) (lines_printed lines are)
