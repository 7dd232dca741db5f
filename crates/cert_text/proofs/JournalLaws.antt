-- Writing a journal.
use Rattle.std.proofs.Common.{add-one, ◌≡◌, ℕ, suc, refl, ◌+◌, ◌<◌, ◌≤◌, List, [], ◌∷◌, ◌++◌, length, map, get_or, drop, sym, ap, ◌∙◌, append_assoc}
use Rattle.std.proofs.lemmas.List.{append-nil}
use Rattle.std.proofs.Math.Seq.{drop-cons}
use Rattle.std.proofs.Math.ListN.{drop_of_length-le}
use Rattle.text_lines.specs.Pieces.{ended, text}
use Rattle.text_lines.proofs.PieceLaws.{text-cons, text-push, line_then}
use Rattle.farkas_cert.specs.declared.journals.Move.{Move}
use Rattle.cert_text.specs.Spelling.{end_line}
use Rattle.cert_text.specs.Journals.{move_line, counts_line, journal_lines}

-- a move was written
pub moves_go_on : (d : Move) (moves : List Move) (i : ℕ) (old now new all : List ℕ) → i < length moves → d ≡ get_or moves i d → now ++ text (map move_line (drop i moves)) ≡ old ++ all → new ≡ now ++ ended (move_line d)
    → new ++ text (map move_line (drop (i + 1) moves)) ≡ old ++ all
moves_go_on d moves i old now new all lt is left wrote =
    let one = move_line (get_or moves i d) in
    let rest = map move_line (drop (i + 1) moves) in
    let step : text (map move_line (drop i moves)) ≡ ended one ++ text rest = rw (add-one, drop-cons moves i d) (text-cons (move_line (get_or moves i d)) (map move_line (drop (suc i) moves))) in
    ap (λ (x : List ℕ). x ++ text rest) (wrote ∙ ap (λ (m : Move). now ++ ended (move_line m)) is) ∙ append_assoc now (ended one) (text rest) ∙ ap (λ (x : List ℕ). now ++ x) (sym step) ∙ left

pub moves_are_done : (moves : List Move) (i : ℕ) (old now all : List ℕ) → length moves ≤ i → now ++ text (map move_line (drop i moves)) ≡ old ++ all → now ≡ old ++ all
unfolding text
moves_are_done moves i old now all le left =
    let none : text (map move_line (drop i moves)) ≡ [] = rw (drop_of_length-le moves le) refl in
    sym (append-nil now) ∙ ap (λ (x : List ℕ). now ++ x) (sym none) ∙ left

pub journal_written : (moves : List Move) (start a b e : List ℕ) → start ≡ [] → a ≡ start ++ ended (counts_line moves) → b ≡ a ++ text (map move_line moves) → e ≡ b ++ ended end_line → e ≡ text (journal_lines moves)
unfolding journal_lines
journal_written moves start a b e none one two three =
    let lines = map move_line moves in
    line_then start a e (counts_line moves) (lines ++ end_line ∷ []) one
    (three ∙ ap (λ (x : List ℕ). x ++ ended end_line) two ∙ append_assoc a (text lines) (ended end_line) ∙ ap (λ (x : List ℕ). a ++ x) (sym (text-push lines end_line)))
    ∙ ap (λ (x : List ℕ). x ++ text (journal_lines moves)) none
