-- A row is read and printed by the table.
use Rattle.std.proofs.Common.{◌≡◌, ◌⊎◌, inl, inr, ℕ, zero, suc, ◌+◌, ℤ, pos, unsigned_abs, Bool, true, false, cond, None, Some, Result, Ok, Err, List, [], ◌∷◌, map, get_or, refl, sym, ap, subst, ◌∙◌}
use Rattle.std.proofs.Math.Bool.{Bool-set}
use Rattle.std.specs.Fmt.{signed_decimal}
use Rattle.std.specs.List.{list_all, position}
use Rattle.std.specs.Str.{bytes_eq}
use Rattle.text_lines.specs.Steps.{◌>>=◌, numbered}
use Rattle.text_machine.specs.declared.faults.Fault.{Fault}
use Rattle.text_machine.specs.declared.faults.Fault.TheVariants.{Form, Misplaced}
use Rattle.text_machine.specs.declared.lists.LineFault.{LineFault}
use Rattle.text_machine.specs.declared.lists.LineFault.TheVariants.{Item as OfItem, NoMemory}
use Rattle.text_machine.specs.Items.{is_item, one_of, place_among, read_item}
use Rattle.text_machine.specs.Lines.{LineForm, fails, take, read_line, spell_line, Suits}
use Rattle.text_machine.specs.Given.{FailsLine}
use Rattle.text_machine.specs.Texts.{SuitsBy, spell_by, spell_lines, IsWhole}
use Rattle.text_machine.proofs.FieldLaws.{place_none, place_some}
use Rattle.line_tables.specs.declared.tables.Line.{Line}
use Rattle.line_tables.specs.declared.tables.Row.{Row}
use Rattle.line_tables.specs.declared.spots.Spot.{Spot}
use Rattle.line_tables.specs.declared.spots.Spot.TheVariants.{Start, Body, Done}
use Rattle.line_tables.specs.Tables.{Rule, rule_at, rules_of, words, AreWords, form_of, may_stand, form_at, line_with, line_by, line_form, form_in, leads, format, numbers, row_items, row_texts}
use Rattle.line_tables.proofs.ItemLaws.{kinds_spelled}

-- ---- the word of a line

words_are : (lines : List Line) → words (rules_of lines) ≡ map (λ line. line.word.now) lines
words_are [] = refl
words_are (line ∷ lines) = ap (λ (ws : List (List ℕ)). line.word.now ∷ ws) (words_are lines)

pub word_taken : (lines : List Line) (ok : AreWords (rules_of lines)) (items rest : List (List ℕ)) (item : List ℕ) (i : ℕ) → items ≡ item ∷ rest → position (λ line. bytes_eq item line.word.now) lines ≡ Some i
    → take (one_of (words (rules_of lines)) ok) items ≡ Ok (pos i, rest)
unfolding take read_item
word_taken lines ok items rest item i parts e =
    ap (take (one_of (words (rules_of lines)) ok)) parts
    ∙ ap (λ (r : Result ℕ Fault). (r >>= λ k. Ok (pos k)) >>= λ z. Ok (z, rest)) (ap (λ (ws : List (List ℕ)). place_among ws item) (words_are lines) ∙ place_some (λ line. line.word.now) item lines i e)

pub word_failed : (lines : List Line) (ok : AreWords (rules_of lines)) (items rest : List (List ℕ)) (item : List ℕ) → items ≡ item ∷ rest → position (λ line. bytes_eq item line.word.now) lines ≡ None
    → take (one_of (words (rules_of lines)) ok) items ≡ Err Form
unfolding take read_item
word_failed lines ok items rest item parts e =
    ap (take (one_of (words (rules_of lines)) ok)) parts
    ∙ ap (λ (r : Result ℕ Fault). (r >>= λ k. Ok (pos k)) >>= λ z. Ok (z, rest)) (ap (λ (ws : List (List ℕ)). place_among ws item) (words_are lines) ∙ place_none (λ line. line.word.now) item lines e)

-- ---- what stands behind it

line_is : (rules : List Rule) (ok : AreWords rules) (s : Spot) → line_form rules s ≡ line_with rules ok s
line_is rules ok s = by_test (list_all is_item (words rules)) refl
  where
    by_test : (t : Bool) (e : list_all is_item (words rules) ≡ t) → line_by rules t e s ≡ line_with rules ok s
    by_test true e = ap (λ (p : AreWords rules). line_with rules p s) (Bool-set (list_all is_item (words rules)) true e ok)
    by_test false e = absurd (false_is_true (sym e ∙ ok))
      where
        false_is_true : false ≡ true → ⊥
        false_is_true e = cc

pub row_read : (rules : List Rule) (ok : AreWords rules) (s : Spot) (i : ℕ) (r : Rule) (items rest : List (List ℕ)) (zs : List ℤ) → take (one_of (words rules) ok) items ≡ Ok (pos i, rest) → r ≡ rule_at rules i
    → read_line (form_at r s) rest ≡ Ok zs → read_line (line_form rules s) items ≡ Ok (pos i ∷ zs)
unfolding read_line
row_read rules ok s i r items rest zs taken is e =
    ap (λ (form : LineForm). read_line form items) (line_is rules ok s)
    ∙ ap (λ (x : Result (ℤ × List (List ℕ)) Fault). x >>= λ y. read_line (form_at (rule_at rules (unsigned_abs y.0)) s) y.1 >>= λ zs. Ok (y.0 ∷ zs)) taken
    ∙ ap (λ (q : Rule). read_line (form_at q s) rest >>= λ zs. Ok (pos i ∷ zs)) (sym is)
    ∙ ap (λ (found : Result (List ℤ) Fault). found >>= λ zs. Ok (pos i ∷ zs)) e

pub word_fails : (rules : List Rule) (ok : AreWords rules) (s : Spot) (items : List (List ℕ)) (f : Fault) → take (one_of (words rules) ok) items ≡ Err f → read_line (line_form rules s) items ≡ Err f
unfolding read_line
word_fails rules ok s items f taken =
    ap (λ (form : LineForm). read_line form items) (line_is rules ok s) ∙ ap (λ (x : Result (ℤ × List (List ℕ)) Fault). x >>= λ y. read_line (form_at (rule_at rules (unsigned_abs y.0)) s) y.1 >>= λ zs. Ok (y.0 ∷ zs)) taken

pub row_fails : (fault : LineFault) (rules : List Rule) (ok : AreWords rules) (s : Spot) (i : ℕ) (r : Rule) (items rest : List (List ℕ)) → take (one_of (words rules) ok) items ≡ Ok (pos i, rest) → r ≡ rule_at rules i
    → FailsLine fault (read_line (form_at r s) rest) → FailsLine fault (read_line (line_form rules s) items)
unfolding read_line
row_fails NoMemory rules ok s i r items rest taken is e = tt
row_fails (OfItem f) rules ok s i r items rest taken is e =
    ap (λ (form : LineForm). read_line form items) (line_is rules ok s)
    ∙ ap (λ (x : Result (ℤ × List (List ℕ)) Fault). x >>= λ y. read_line (form_at (rule_at rules (unsigned_abs y.0)) s) y.1 >>= λ zs. Ok (y.0 ∷ zs)) taken
    ∙ ap (λ (q : Rule). read_line (form_at q s) rest >>= λ zs. Ok (pos i ∷ zs)) (sym is)
    ∙ ap (λ (found : Result (List ℤ) Fault). found >>= λ zs. Ok (pos i ∷ zs)) e

pub has_form : (rules : List Rule) (s : Spot) → (s ≡ Start) ⊎ ((version : ℕ) × (depth : ℕ) × (s ≡ Body version depth)) → form_in rules s ≡ Some (line_form rules s)
has_form rules s (inl e) = ap (form_in rules) e ∙ ap (λ (u : Spot). Some (line_form rules u)) (sym e)
has_form rules s (inr (version, depth, e)) = ap (form_in rules) e ∙ ap (λ (u : Spot). Some (line_form rules u)) (sym e)

-- ---- what may not stand there

pub misplaced : (r : Rule) (s : Spot) (items : List (List ℕ)) → may_stand r.place s ≡ false → read_line (form_at r s) items ≡ Err Misplaced
unfolding read_line
misplaced r s items e = ap (λ t. read_line (cond t (form_of r.items) (fails Misplaced)) items) e

-- ---- rows are spelled

word_is : (rules : List Rule) (i : ℕ) → get_or (words rules) i [] ≡ (rule_at rules i).word
word_is [] zero = refl
word_is [] (suc i) = refl
word_is (r ∷ rules) zero = refl
word_is (r ∷ rules) (suc i) = word_is rules i

rule_spelled : (r : Rule) (s : Spot) (zs : List ℤ) → Suits (form_at r s) zs → spell_line (form_at r s) zs ≡ map signed_decimal zs
unfolding spell_line Suits
rule_spelled r s zs suits = by_test (may_stand r.place s) suits
  where
    by_test : (t : Bool) → Suits (cond t (form_of r.items) (fails Misplaced)) zs → spell_line (cond t (form_of r.items) (fails Misplaced)) zs ≡ map signed_decimal zs
    by_test true p = kinds_spelled r.items zs p
    by_test false p = absurd p

line_spelled : (rules : List Rule) (ok : AreWords rules) (s : Spot) (row : Row) → Suits (line_with rules ok s) (numbers row) → spell_line (line_with rules ok s) (numbers row) ≡ row_items rules row
unfolding spell_line Suits
line_spelled rules ok s row suits =
    ap (λ (w : List ℕ). w ∷ spell_line (form_at (rule_at rules row.line) s) row.numbers) (word_is rules row.line)
    ∙ ap (λ (items : List (List ℕ)). (rule_at rules row.line).word ∷ items) (rule_spelled (rule_at rules row.line) s row.numbers suits.1)

form_spelled : (rules : List Rule) (ok : AreWords rules) (s : Spot) (row : Row) → Suits (line_form rules s) (numbers row) → spell_line (line_form rules s) (numbers row) ≡ row_items rules row
form_spelled rules ok s row suits =
    ap (λ (form : LineForm). spell_line form (numbers row)) (line_is rules ok s) ∙ line_spelled rules ok s row (subst (λ (form : LineForm). Suits form (numbers row)) (line_is rules ok s) suits)

row_spelled : (rules : List Rule) (ok : AreWords rules) (s : Spot) (row : Row) → SuitsBy (form_in rules s) (numbers row) → spell_by (form_in rules s) (numbers row) ≡ row_items rules row
row_spelled rules ok Start row suits = form_spelled rules ok Start row suits.0
row_spelled rules ok (Body version depth) row suits = form_spelled rules ok (Body version depth) row suits.0
row_spelled rules ok Done row suits = absurd suits

pub rows_spelled : (letter : ℕ) (rules : List Rule) (ok : AreWords rules) (s : Spot) (i : ℕ) (rows : List Row) → IsWhole (format letter rules) s (map numbers rows)
    → spell_lines (format letter rules) s (map numbers rows) ≡ numbered (row_texts rules) i rows
unfolding IsWhole spell_lines numbered
rows_spelled letter rules ok s i [] all = refl
rows_spelled letter rules ok s i (row ∷ rows) all =
    ap (λ (items : List (List ℕ)). items ∷ spell_lines (format letter rules) (leads rules s (numbers row)) (map numbers rows)) (row_spelled rules ok s row all.0)
    ∙ ap (λ (others : List (List (List ℕ))). row_items rules row ∷ others) (rows_spelled letter rules ok (leads rules s (numbers row)) (i + 1) rows all.1)
