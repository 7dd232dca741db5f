-- Cutting at a byte, and joining what was cut.
use Rattle.std.proofs.Common.{append_assoc, add-one, get_or, ◌<◌, ◌≡◌, ℕ, suc, ◌+◌, ◌-◌, ◌≤◌, Bool, true, false, cond, eqb, ltb, List, [], ◌∷◌, ◌++◌, length, take, drop, Some, None, refl, sym, ap, subst, ◌∙◌, arith, eq-eqb, map}
use Rattle.std.specs.List.{position, position_or_len, slice_split, onto_first, join_with_byte}
use Rattle.std.proofs.lemmas.Bool.{ltb-true, ltb-false}
use Rattle.std.proofs.lemmas.List.{append-nil, length-drop}
use Rattle.std.proofs.Math.Seq.{take-length, drop-cons}
use Rattle.std.proofs.Math.ListN.{drop_of_length-le}
use Rattle.std.proofs.lemmas.List.Splits.{slice_split_first, slice_split_none, join_with_byte-slice_split}
use Rattle.std.proofs.lemmas.List.Sums.{fails_before_first}
use Rattle.std.specs.List.{AllByRecursion}
use Rattle.std.specs.Prelude.{not, ◌&&◌}
use Rattle.text_lines.specs.Pieces.{pieces, line_of, ended, spaced, text, is_free, AreItems}
use Rattle.text_lines.specs.Steps.{numbered}
use Rattle.text_lines.specs.Lines.{Unread, first_line, next, is_over, is_finished}

some_is : (m n : ℕ) → Some m ≡ Some n → m ≡ n
some_is m n e = cc

none_is : (n : ℕ) → None ≡ Some n → ⊥
none_is n e = cc

-- a separator stands at this place first
pub pieces_some : (c : ℕ) (bytes : List ℕ) (at : ℕ) → position (λ b. eqb b c) bytes ≡ Some at → pieces c bytes ≡ take at bytes ∷ pieces c (drop (at + 1) bytes)
unfolding pieces
pieces_some c bytes at found = by_test (ltb (position_or_len (λ b. eqb b c) bytes) (length bytes)) refl
  where
    by_test : (b : Bool) → ltb (position_or_len (λ b. eqb b c) bytes) (length bytes) ≡ b → slice_split (λ b. eqb b c) bytes ≡ take at bytes ∷ slice_split (λ b. eqb b c) (drop (at + 1) bytes)
    by_test true e =
        let here : position_or_len (λ b. eqb b c) bytes ≡ at = some_is _ _ (sym (ap (λ t. cond t (Some (position_or_len (λ b. eqb b c) bytes)) None) e) ∙ found) in
        subst (λ (k : ℕ). slice_split (λ b. eqb b c) bytes ≡ take k bytes ∷ slice_split (λ b. eqb b c) (drop (k + 1) bytes)) here (slice_split_first (λ b. eqb b c) bytes 0 (ltb-true _ _ e))
    by_test false e = absurd (none_is at (sym (ap (λ t. cond t (Some (position_or_len (λ b. eqb b c) bytes)) None) e) ∙ found))

-- no separator stands there
pub pieces_none : (c : ℕ) (bytes : List ℕ) → position (λ b. eqb b c) bytes ≡ None → pieces c bytes ≡ bytes ∷ []
unfolding pieces
pieces_none c bytes found = by_test (ltb (position_or_len (λ b. eqb b c) bytes) (length bytes)) refl
  where
    by_test : (b : Bool) → ltb (position_or_len (λ b. eqb b c) bytes) (length bytes) ≡ b → slice_split (λ b. eqb b c) bytes ≡ bytes ∷ []
    by_test true e = absurd (none_is _ (sym found ∙ ap (λ t. cond t (Some (position_or_len (λ b. eqb b c) bytes)) None) e))
    by_test false e =
        let past : length bytes ≤ position_or_len (λ b. eqb b c) bytes = ltb-false _ _ e in
        slice_split_none (λ b. eqb b c) bytes (λ k d lt. fails_before_first (λ b. eqb b c) bytes k d (omega arith))

-- the same, with what is left as the slice of it
pub pieces_some_rest : (c : ℕ) (bytes : List ℕ) (at : ℕ) → position (λ b. eqb b c) bytes ≡ Some at → pieces c bytes ≡ take at bytes ∷ pieces c (take (length bytes - (at + 1)) (drop (at + 1) bytes))
pieces_some_rest c bytes at found =
    let rest : take (length bytes - (at + 1)) (drop (at + 1) bytes) ≡ drop (at + 1) bytes = subst (λ (k : ℕ). take k (drop (at + 1) bytes) ≡ drop (at + 1) bytes) (length-drop (at + 1) bytes) (take-length (drop (at + 1) bytes)) in
    rw rest (pieces_some c bytes at found)

pub ruleset cut_laws = (pieces_some_rest, pieces_none)

-- the pieces, joined at the byte, give the bytes back
pub pieces_joined : (c : ℕ) (bytes : List ℕ) → join_with_byte c (pieces c bytes) ≡ bytes
unfolding pieces
pieces_joined c bytes = join_with_byte-slice_split c bytes

pub pieces_of_nothing : (c : ℕ) → pieces c [] ≡ [] ∷ []
unfolding pieces
pieces_of_nothing c = refl

-- only no bytes at all have the one piece that is empty
pub pieces_of_nothing_alone : (c : ℕ) (bytes : List ℕ) → pieces c bytes ≡ [] ∷ [] → bytes ≡ []
pieces_of_nothing_alone c bytes e = sym (pieces_joined c bytes) ∙ ap (join_with_byte c) e

-- there is always a piece
pub some_piece : (c : ℕ) (bytes : List ℕ) → (piece : List ℕ) × ((rest : List (List ℕ)) × (pieces c bytes ≡ piece ∷ rest))
unfolding pieces
some_piece c [] = ([], ([], refl))
some_piece c (b ∷ bytes) = by_test (eqb b c) (slice_split (λ b. eqb b c) bytes)
  where
    by_test : (t : Bool) (parts : List (List ℕ)) → (piece : List ℕ) × ((rest : List (List ℕ)) × (cond t ([] ∷ parts) (onto_first b parts) ≡ piece ∷ rest))
    by_test true parts = ([], (parts, refl))
    by_test false [] = (b ∷ [], ([], refl))
    by_test false (part ∷ parts) = (b ∷ part, (parts, refl))

-- a line whose LF stands before these bytes
pub first_line_before : (n : ℕ) (line bytes : List ℕ) → first_line n (line ∷ pieces 10 bytes) ≡ Some (line, record { line = n + 1; pieces = pieces 10 bytes })
first_line_before n line bytes =
    let p = some_piece 10 bytes in
    let family : List (List ℕ) → Type 0 = λ ps. first_line n (line ∷ ps) ≡ Some (line, record { line = n + 1; pieces = ps }) in
    subst family (sym p.1.1) refl

-- where the pieces are the one empty one, nothing is left
pub over_is_nothing : (piece : List ℕ) (rest : List (List ℕ)) → is_over (piece ∷ rest) ≡ true → piece ∷ rest ≡ [] ∷ []
unfolding is_over
over_is_nothing [] [] e = refl
over_is_nothing (b ∷ bytes) rest e = absurd (cc)
over_is_nothing [] (more ∷ rest) e = absurd (cc)

pub nothing_is_over : is_over ([] ∷ []) ≡ true
unfolding is_over
nothing_is_over = refl

pub pieces_over : (bytes : List ℕ) → is_over (pieces 10 bytes) ≡ eqb (length bytes) 0
pieces_over [] = ap is_over (pieces_of_nothing 10) ∙ nothing_is_over
pieces_over (x ∷ bytes) = by_test (is_over (pieces 10 (x ∷ bytes))) refl
  where
    nonzero : eqb (suc (length bytes)) 0 ≡ false
    nonzero = grind arith

    cons_is_nil : x ∷ bytes ≡ [] → ⊥
    cons_is_nil e = cc

    by_test : (t : Bool) → is_over (pieces 10 (x ∷ bytes)) ≡ t → is_over (pieces 10 (x ∷ bytes)) ≡ eqb (suc (length bytes)) 0
    by_test true e =
        let p = some_piece 10 (x ∷ bytes) in
        absurd (cons_is_nil (pieces_of_nothing_alone 10 (x ∷ bytes) (p.1.1 ∙ over_is_nothing p.0 p.1.0 (ap is_over (sym p.1.1) ∙ e))))
    by_test false e = e ∙ sym nonzero

-- where not a byte is left, there is no line
no_line : (k : ℕ) (left : List (List ℕ)) → is_over left ≡ true → next (record { line = k; pieces = left }) ≡ None
unfolding next is_over
no_line k [] e = refl
no_line k (piece ∷ []) e = refl
no_line k ([] ∷ piece ∷ left) e = absurd (cc)
no_line k ((b ∷ bytes) ∷ piece ∷ left) e = absurd (cc)

pub over_has_none : (rest : Unread) → is_finished rest ≡ true → next rest ≡ None
over_has_none rest e = no_line rest.line rest.pieces e

-- taking a line off what is left of a text
pub line_is_taken : (unread : Unread) (n : ℕ) (bytes line rest : List ℕ) → record { line = n; pieces = pieces 10 bytes } ≡ unread → pieces 10 bytes ≡ line ∷ pieces 10 rest → next unread ≡ Some (line, record { line = n + 1; pieces = pieces 10 rest })
unfolding next
line_is_taken unread n bytes line rest is parts = ap next (sym is) ∙ ap (first_line n) parts ∙ first_line_before n line rest

-- ---- bytes that hold no separator

pub free_first : (c b : ℕ) (bytes : List ℕ) → is_free c (b ∷ bytes) ≡ true → (eqb b c ≡ false) × (is_free c bytes ≡ true)
free_first c b bytes free = by_test (eqb b c) free
  where
    by_test : (t : Bool) → (not t && is_free c bytes) ≡ true → (t ≡ false) × (is_free c bytes ≡ true)
    by_test true e = absurd (cc)
    by_test false e = (refl, e)

pub free-append : (c : ℕ) (front back : List ℕ) → is_free c front ≡ true → is_free c back ≡ true → is_free c (front ++ back) ≡ true
free-append c [] back f b = b
free-append c (x ∷ front) back f b =
    let first = free_first c x front f in
    ap (λ t. not t && is_free c (front ++ back)) first.0 ∙ free-append c front back first.1 b

-- such bytes are the first piece
pub pieces_of_free_front : (c : ℕ) (front bytes : List ℕ) → is_free c front ≡ true → pieces c (front ++ (c ∷ bytes)) ≡ front ∷ pieces c bytes
unfolding pieces
pieces_of_free_front c [] bytes free = ap (λ t. cond t ([] ∷ slice_split (λ b. eqb b c) bytes) (onto_first c (slice_split (λ b. eqb b c) bytes))) (eq-eqb c c refl)
pieces_of_free_front c (x ∷ front) bytes free =
    let first = free_first c x front free in
    ap (λ t. cond t ([] ∷ slice_split (λ b. eqb b c) (front ++ (c ∷ bytes))) (onto_first x (slice_split (λ b. eqb b c) (front ++ (c ∷ bytes))))) first.0
    ∙ ap (onto_first x) (pieces_of_free_front c front bytes first.1)

pub pieces_of_free : (c : ℕ) (bytes : List ℕ) → is_free c bytes ≡ true → pieces c bytes ≡ bytes ∷ []
unfolding pieces
pieces_of_free c [] free = refl
pieces_of_free c (x ∷ bytes) free =
    let first = free_first c x bytes free in
    ap (λ t. cond t ([] ∷ slice_split (λ b. eqb b c) bytes) (onto_first x (slice_split (λ b. eqb b c) bytes))) first.0
    ∙ ap (onto_first x) (pieces_of_free c bytes first.1)

-- ---- lines and texts

-- a line is cut into its items again
pub items_of_line : (item : List ℕ) (items : List (List ℕ)) → AreItems (item ∷ items) → pieces 32 (line_of (item ∷ items)) ≡ item ∷ items
items_of_line item [] are = pieces_of_free 32 item are.0.no_space
items_of_line item (more ∷ items) are =
    pieces_of_free_front 32 item (line_of (more ∷ items)) are.0.no_space ∙ ap (λ (rest : List (List ℕ)). item ∷ rest) (items_of_line more items are.1)

-- a line holds no LF
pub line_is_free : (items : List (List ℕ)) → AreItems items → is_free 10 (line_of items) ≡ true
line_is_free [] are = refl
line_is_free (item ∷ []) are = are.0.no_end
line_is_free (item ∷ more ∷ items) are = free-append 10 item (32 ∷ line_of (more ∷ items)) are.0.no_end (line_is_free (more ∷ items) are.1)

-- a text is cut into its lines again, and nothing is left behind the last one
pub lines_of_text : (lines : List (List (List ℕ))) → AllByRecursion AreItems lines → pieces 10 (text lines) ≡ map line_of lines ++ ([] ∷ [])
unfolding text
lines_of_text [] are = pieces_of_nothing 10
lines_of_text (line ∷ lines) are =
    pieces_of_free_front 10 (line_of line) (text lines) (line_is_free line are.0) ∙ ap (λ (rest : List (List ℕ)). line_of line ∷ rest) (lines_of_text lines are.1)

-- bytes that are cut into these lines, with nothing behind the last one, are their text
pub text_of_lines : (lines : List (List (List ℕ))) (bytes : List ℕ) → pieces 10 bytes ≡ map line_of lines ++ ([] ∷ []) → bytes ≡ text lines
unfolding text
text_of_lines lines bytes e = sym (pieces_joined 10 bytes) ∙ ap (join_with_byte 10) e ∙ joined lines
  where
    joined : (ls : List (List (List ℕ))) → join_with_byte 10 (map line_of ls ++ ([] ∷ [])) ≡ text ls
    joined [] = refl
    joined (l ∷ []) = refl
    joined (l ∷ m ∷ ls) = ap (λ (rest : List ℕ). line_of l ++ (10 ∷ rest)) (joined (m ∷ ls))

-- ---- writing lines

pub line_of-cons : (item : List ℕ) (items : List (List ℕ)) → line_of (item ∷ items) ≡ item ++ spaced items
unfolding spaced
line_of-cons item [] = sym (append-nil item)
line_of-cons item (more ∷ items) = ap (λ (rest : List ℕ). item ++ (32 ∷ rest)) (line_of-cons more items)

pub text-cons : (line : List (List ℕ)) (lines : List (List (List ℕ))) → text (line ∷ lines) ≡ ended line ++ text lines
unfolding text
text-cons line lines = sym (append_assoc (line_of line) (10 ∷ []) (text lines))

pub text_of_one : (line : List (List ℕ)) → text (line ∷ []) ≡ ended line
unfolding text
text_of_one line = refl

pub text-append : (front back : List (List (List ℕ))) → text (front ++ back) ≡ text front ++ text back
unfolding text
text-append [] back = refl
text-append (line ∷ lines) back =
    ap (λ (rest : List ℕ). line_of line ++ (10 ∷ rest)) (text-append lines back) ∙ sym (append_assoc (line_of line) (10 ∷ text lines) (text back))

-- one more line at the end
pub text-push : (lines : List (List (List ℕ))) (line : List (List ℕ)) → text (lines ++ line ∷ []) ≡ text lines ++ ended line
text-push lines line = text-append lines (line ∷ []) ∙ ap (λ (rest : List ℕ). text lines ++ rest) (text_of_one line)

-- ---- writing lists

spaced-append : (front back : List (List ℕ)) → spaced (front ++ back) ≡ spaced front ++ spaced back
unfolding spaced
spaced-append [] back = refl
spaced-append (item ∷ items) back = ap (λ (rest : List ℕ). (32 ∷ item) ++ rest) (spaced-append items back) ∙ sym (append_assoc (32 ∷ item) (spaced items) (spaced back))

-- more items on a line that has some
pub line_of-append : (item : List ℕ) (items more : List (List ℕ)) → line_of ((item ∷ items) ++ more) ≡ line_of (item ∷ items) ++ spaced more
line_of-append item items more =
    line_of-cons item (items ++ more) ∙ ap (λ (rest : List ℕ). item ++ rest) (spaced-append items more) ∙ sym (append_assoc item (spaced items) (spaced more))
    ∙ ap (λ (front : List ℕ). front ++ spaced more) (sym (line_of-cons item items))

-- one line was written, and then others
pub line_then : (old mid new : List ℕ) (line : List (List ℕ)) (lines : List (List (List ℕ))) → mid ≡ old ++ ended line → new ≡ mid ++ text lines → new ≡ old ++ text (line ∷ lines)
line_then old mid new line lines first others =
    others ∙ ap (λ (front : List ℕ). front ++ text lines) first ∙ append_assoc old (ended line) (text lines) ∙ ap (λ (rest : List ℕ). old ++ rest) (sym (text-cons line lines))

-- a line was written up to its first items, then more items, then its LF
pub line_is_ended : (old front longer new : List ℕ) (item : List ℕ) (items more : List (List ℕ)) → front ≡ old ++ line_of (item ∷ items) → longer ≡ front ++ spaced more → new ≡ longer ++ (10 ∷ [])
    → new ≡ old ++ text (((item ∷ items) ++ more) ∷ [])
line_is_ended old front longer new item items more first second third =
    let start = line_of (item ∷ items) in
    let grouped : ((old ++ start) ++ spaced more) ++ (10 ∷ []) ≡ old ++ ((start ++ spaced more) ++ (10 ∷ [])) =
    append_assoc (old ++ start) (spaced more) (10 ∷ []) ∙ append_assoc old start (spaced more ++ (10 ∷ [])) ∙ ap (λ (x : List ℕ). old ++ x) (sym (append_assoc start (spaced more) (10 ∷ []))) in
    third ∙ ap (λ (x : List ℕ). x ++ (10 ∷ [])) (second ∙ ap (λ (x : List ℕ). x ++ spaced more) first) ∙ grouped
    ∙ ap (λ (x : List ℕ). old ++ (x ++ (10 ∷ []))) (sym (line_of-append item items more)) ∙ ap (λ (x : List ℕ). old ++ x) (sym (text_of_one ((item ∷ items) ++ more)))

goes_on_writing : (old now new next rest all : List ℕ) → now ++ (next ++ rest) ≡ old ++ all → new ≡ now ++ next → new ++ rest ≡ old ++ all
goes_on_writing old now new next rest all left wrote = ap (λ (x : List ℕ). x ++ rest) wrote ∙ append_assoc now next rest ∙ left

is_written : (old now rest all : List ℕ) → now ++ rest ≡ old ++ all → rest ≡ [] → now ≡ old ++ all
is_written old now rest all left none = sym (append-nil now) ∙ ap (λ (x : List ℕ). now ++ x) (sym none) ∙ left

-- value i was written behind a space, of values that are all written so
pub spaced_goes_on : {X : Type 0} (item : X → List ℕ) (d : X) (xs : List X) (i : ℕ) (old now new all : List ℕ) → i < length xs
    → now ++ spaced (map item (drop i xs)) ≡ old ++ all → new ≡ now ++ (32 ∷ item (get_or xs i d)) → new ++ spaced (map item (drop (i + 1) xs)) ≡ old ++ all
unfolding spaced
spaced_goes_on item d xs i old now new all lt left wrote =
    let step : spaced (map item (drop i xs)) ≡ (32 ∷ item (get_or xs i d)) ++ spaced (map item (drop (i + 1) xs)) = rw (add-one, drop-cons xs i d) refl in
    goes_on_writing old now new (32 ∷ item (get_or xs i d)) (spaced (map item (drop (i + 1) xs))) all (ap (λ (x : List ℕ). now ++ x) (sym step) ∙ left) wrote

pub spaced_is_done : {X : Type 0} (item : X → List ℕ) (xs : List X) (i : ℕ) (old now all : List ℕ) → length xs ≤ i → now ++ spaced (map item (drop i xs)) ≡ old ++ all → now ≡ old ++ all
unfolding spaced
spaced_is_done item xs i old now all le left = is_written old now (spaced (map item (drop i xs))) all left (rw (drop_of_length-le xs le) refl)

-- the lines of value i, numbered k, were written, of values whose lines are all written in turn
pub lines_go_on : {X : Type 0} (lines : ℕ → X → List (List (List ℕ))) (x : X) (xs : List X) (i k m : ℕ) (old now new all : List ℕ) → i < length xs → x ≡ get_or xs i x → m ≡ k + 1
    → now ++ text (numbered lines k (drop i xs)) ≡ old ++ all → new ≡ now ++ text (lines k x) → new ++ text (numbered lines m (drop (i + 1) xs)) ≡ old ++ all
unfolding numbered
lines_go_on lines x xs i k m old now new all lt is next left wrote =
    let step : text (numbered lines k (drop i xs)) ≡ text (lines k x) ++ text (numbered lines m (drop (i + 1) xs)) =
    rw (add-one, drop-cons xs i x, ← is, next) (text-append (lines k x) (numbered lines (k + 1) (drop (suc i) xs))) in
    goes_on_writing old now new (text (lines k x)) (text (numbered lines m (drop (i + 1) xs))) all (ap (λ (y : List ℕ). now ++ y) (sym step) ∙ left) wrote

pub lines_are_done : {X : Type 0} (lines : ℕ → X → List (List (List ℕ))) (xs : List X) (i k : ℕ) (old now all : List ℕ) → length xs ≤ i → now ++ text (numbered lines k (drop i xs)) ≡ old ++ all → now ≡ old ++ all
unfolding numbered text
lines_are_done lines xs i k old now all le left = is_written old now (text (numbered lines k (drop i xs))) all left (rw (drop_of_length-le xs le) refl)
