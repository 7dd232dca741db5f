-- A text is read and printed row by row.
use Rattle.std.proofs.Common.{◌≡◌, ℕ, suc, ℤ, Bool, None, Some, true, false, Result, Ok, Err, List, [], ◌∷◌, ◌++◌, length, map, refl, sym, ap, subst, ◌∙◌}
use Rattle.std.proofs.lemmas.List.{append-nil, map-append}
use Rattle.std.specs.Prelude.{IfOk}
use Rattle.whole.specs.declared.answers.ReadFault.{ReadFault}
use Rattle.whole.specs.declared.answers.ReadFault.TheVariants.{Refused, NoMemory}
use Rattle.whole.specs.declared.answers.Refusal.{Refusal}
use Rattle.text_lines.specs.Lines.{Unread, next, is_over, is_finished}
use Rattle.text_lines.specs.Pieces.{pieces}
use Rattle.text_lines.specs.Steps.{Fails, ◌>>=◌}
use Rattle.text_machine.specs.declared.faults.Fault.{Fault}
use Rattle.text_machine.specs.declared.lists.LineFault.{LineFault}
use Rattle.text_machine.specs.declared.lists.LineFault.TheVariants.{Item as OfItem}
use Rattle.text_machine.specs.Given.{FailsLine}
use Rattle.text_machine.specs.Texts.{Table, Format, GivesText, named, step, finish}
use Rattle.text_machine.proofs.LoopLaws.{Feeding, feeding_start, feeding_more, feeding_fails, feeding_ends}
use Rattle.text_machine.proofs.ScriptLaws.{unread}
use Rattle.text_machine.proofs.TextLaws.{text_taken}
use Rattle.line_tables.specs.declared.tables.Row.{Row}
use Rattle.line_tables.specs.declared.spots.Spot.{Spot}
use Rattle.line_tables.specs.declared.spots.Spot.TheVariants.{Start, Body, Done}
use Rattle.line_tables.specs.Tables.{Rule, IsText, form_in, format, leads, number_of, numbers, refusal, text_read}
use Rattle.line_tables.specs.Given.{finished, form_read}

-- ---- one line is read

by_form : (letter : ℕ) (rules : List Rule) (s : Spot) (k : ℕ) (line : List ℕ) → step (format letter rules) s k line ≡ (named (λ fault. refusal letter (number_of fault) k) (form_read (form_in rules s) (pieces 32 line)) >>= λ zs. Ok (zs, leads rules s zs))
unfolding step
by_form letter rules Start k line = refl
by_form letter rules (Body version depth) k line = refl
by_form letter rules Done k line = refl

abbrev after : ℕ → List Rule → Spot → ℕ → Result (List ℤ) Fault → Result (List ℤ × Spot) Refusal
after letter rules s k found = named (λ fault. refusal letter (number_of fault) k) found >>= λ zs. Ok (zs, leads rules s zs)

pub line_read : (letter : ℕ) (rules : List Rule) (s t : Spot) (k : ℕ) (line : List ℕ) (zs : List ℤ) → form_read (form_in rules s) (pieces 32 line) ≡ Ok zs → t ≡ leads rules s zs → step (format letter rules) s k line ≡ Ok (zs, t)
line_read letter rules s t k line zs e led = by_form letter rules s k line ∙ ap (after letter rules s k) e ∙ ap (λ (u : Spot). Ok (zs, u)) (sym led)

pub line_refused : (letter : ℕ) (rules : List Rule) (s : Spot) (k : ℕ) (line : List ℕ) (fault : Fault) → form_read (form_in rules s) (pieces 32 line) ≡ Err fault → step (format letter rules) s k line ≡ Err (refusal letter (number_of fault) k)
line_refused letter rules s k line fault e = by_form letter rules s k line ∙ ap (after letter rules s k) e

pub item_fault : (e : LineFault) (fault : Fault) (read : Result (List ℤ) Fault) → e ≡ OfItem fault → FailsLine e read → read ≡ Err fault
item_fault e fault read is failed = subst (λ (d : LineFault). FailsLine d read) is failed

-- ---- the text ends behind its last line

pub whole_at_end : (letter : ℕ) (rules : List Rule) (s : Spot) (front : Table) (k : ℕ) (rest : List ℕ) (over : Bool) → s ≡ Done → over ≡ true → over ≡ is_over (rest ∷ []) → finished (format letter rules) s front k rest ≡ Ok front
unfolding finish is_over
whole_at_end letter rules s front k rest over done all is = ap (λ (t : Spot). finished (format letter rules) t front k rest) done ∙ by_rest rest (sym is ∙ all)
  where
    by_rest : (left : List ℕ) → is_over (left ∷ []) ≡ true → finished (format letter rules) Done front k left ≡ Ok front
    by_rest [] e = ap (λ (ts : Table). Ok ts) (append-nil front)
    by_rest (b ∷ left) e = absurd (cc)

pub more_at_end : (letter : ℕ) (rules : List Rule) (s : Spot) (front : Table) (k : ℕ) (rest : List ℕ) (over : Bool) (r : Refusal) → s ≡ Done → over ≡ false → over ≡ is_over (rest ∷ []) → r ≡ refusal letter 3 k
    → finished (format letter rules) s front k rest ≡ Err r
unfolding finish is_over
more_at_end letter rules s front k rest over r done some is refused =
    ap (λ (t : Spot). finished (format letter rules) t front k rest) done ∙ by_rest rest (sym is ∙ some) ∙ ap (λ (q : Refusal). Err q) (sym refused)
  where
    by_rest : (left : List ℕ) → is_over (left ∷ []) ≡ false → finished (format letter rules) Done front k left ≡ Err (refusal letter 3 k)
    by_rest [] e = absurd (cc)
    by_rest (b ∷ left) e = refl

-- ---- all lines are read

-- the lines before were found, and the next one stands here
abbrev pub Fed : Format Spot Refusal → Spot → List Row → Unread → List ℕ → Type 0
Fed f s found rest bytes = Feeding f s (map numbers found) rest (text_read f bytes)

pub fed_start : (f : Format Spot Refusal) (found : List Row) (rest : Unread) (bytes : List ℕ) → found ≡ [] → rest ≡ unread 1 (pieces 10 bytes) → Fed f Start found rest bytes
fed_start f found rest bytes none is = subst (λ (lines : List Row). Fed f Start lines rest bytes) (sym none) (subst (λ (left : Unread). Fed f Start [] left bytes) (sym is) (feeding_start f Start bytes))

-- taking a line leaves one piece less
pub shorter : (rest : Unread) (text : List ℕ) (left : Unread) → next rest ≡ Some (text, left) → length rest.pieces ≡ suc (length left.pieces)
unfolding next
shorter rest text left e = by_pieces rest.line rest.pieces e
  where
    some_is : (x y : List ℕ × Unread) → Some x ≡ Some y → x ≡ y
    some_is x y r = cc

    by_pieces : (k : ℕ) (pieces : List (List ℕ)) → next (unread k pieces) ≡ Some (text, left) → length pieces ≡ suc (length left.pieces)
    by_pieces k [] q = absurd (cc)
    by_pieces k (piece ∷ []) q = absurd (cc)
    by_pieces k (piece ∷ more ∷ pieces) q = ap (λ (x : List ℕ × Unread). suc (length x.1.pieces)) (some_is _ _ q)

pub fed_more : (f : Format Spot Refusal) (s t : Spot) (found longer : List Row) (row : Row) (rest left : Unread) (text bytes : List ℕ) (k : ℕ) → next rest ≡ Some (text, left) → k ≡ rest.line
    → step f s k text ≡ Ok (numbers row, t) → longer ≡ found ++ row ∷ [] → Fed f s found rest bytes → Fed f t longer left bytes
fed_more f s t found longer row rest left text bytes k taken at read grown fed =
    subst (λ (table : Table). Feeding f t table left (text_read f bytes)) (sym (ap (map numbers) grown ∙ map-append numbers found (row ∷ [])))
    (feeding_more f s (map numbers found) rest text left (numbers row) t (text_read f bytes) taken (ap (λ n. step f s n text) (sym at) ∙ read) fed)

pub fed_fails : (f : Format Spot Refusal) (s : Spot) (found : List Row) (rest left : Unread) (text bytes : List ℕ) (k : ℕ) (fault : ReadFault) → next rest ≡ Some (text, left) → k ≡ rest.line
    → Fails fault (step f s k text) → Fed f s found rest bytes → Fails fault (text_read f bytes)
fed_fails f s found rest left text bytes k NoMemory taken at failed fed = tt
fed_fails f s found rest left text bytes k (Refused r) taken at failed fed =
    feeding_fails f s (map numbers found) rest text left r (text_read f bytes) taken (ap (λ n. step f s n text) (sym at) ∙ failed) fed

pub fed_ends : (f : Format Spot Refusal) (s : Spot) (found : List Row) (rest : Unread) (bytes : List ℕ) (k : ℕ) (over_now : Bool) (result : Result (List Row) ReadFault) → next rest ≡ None → k ≡ rest.line → over_now ≡ is_finished rest
    → Fed f s found rest bytes → ((piece : List ℕ) → over_now ≡ is_over (piece ∷ []) → GivesText (map numbers) result (finished f s (map numbers found) k piece))
    → GivesText (map numbers) result (text_read f bytes)
fed_ends f s found rest bytes k over_now result none at is fed given =
    let e = feeding_ends f s (map numbers found) rest (text_read f bytes) none fed in
    subst (GivesText (map numbers) result) (sym (e.1.1 ∙ ap (λ n. finished f s (map numbers found) n e.0) (sym at))) (given e.0 (is ∙ ap is_over e.1.0))

pub text_found : (f : Format Spot Refusal) (bytes : List ℕ) (result : Result (List Row) ReadFault) → GivesText (map numbers) result (text_read f bytes)
    → IfOk result (λ rows. IsText f bytes (map numbers rows))
text_found f bytes (Ok rows) given = text_taken f Start bytes (map numbers rows) given
text_found f bytes (Err fault) given = tt
