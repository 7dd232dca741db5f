-- A text is read just where it is a trace, and refused just by its first broken rule.
use Rattle.std.proofs.Common.{◌≡◌, ◌⊎◌, inl, inr, ℕ, ℤ, pos, Option, None, Some, Result, Ok, Err, List, [], ◌∷◌, ◌++◌, refl, sym, ap, subst, ◌∙◌, arith}
use Rattle.std.specs.Prelude.{IfOk, IsErrOf}
use Rattle.whole.specs.declared.answers.ReadFault.{ReadFault}
use Rattle.whole.specs.declared.answers.ReadFault.TheVariants.{Refused}
use Rattle.whole.specs.declared.answers.Refusal.{Refusal}
use Rattle.text_lines.specs.Lines.{Unread}
use Rattle.text_lines.specs.Pieces.{pieces, text}
use Rattle.text_lines.specs.Steps.{GivesUnless}
use Rattle.text_lines.proofs.PieceLaws.{some_piece}
use Rattle.text_machine.specs.Lines.{LineForm, spell_line, Suits}
use Rattle.text_machine.specs.Texts.{Table, IsTextOf, IsWhole, spell_lines, read_text, GivesText}
use Rattle.text_machine.specs.Scripts.{Line, wants, listed}
use Rattle.text_machine.proofs.TypedLaws as typed
use Rattle.text_machine.proofs.TypedLaws.{Typed, ValueOf}
use Rattle.text_machine.proofs.ScriptLaws.{script_by, unread, SomePiece, script_step, script_lines, script_over}
use Rattle.text_machine.proofs.PartLaws.{listed_whole, whole_listed, listed_spelled}
use Rattle.run_rows.specs.declared.shapes.Shape.{Shape}
use Rattle.run_rows.specs.declared.rows.Run.{Run}
use Rattle.run_rows.specs.Limits.{IsWithin}
use Rattle.trace_text.specs.Spelling.{IsTraceText, header, shape_line as shape_text, trace_lines}
use Rattle.trace_text.specs.Script.{refusal, header_line, shape_line, run_lines, end_line, shape_of, shape_numbers, run_table, trace_script, trace_table, trace_format, IsRefused}
use Rattle.trace_text.specs.Reading.{SizedRows, finished_by, end_by, run_by, shape_by, trace_by}
use Rattle.trace_text.proofs.Parts.{run_part, run_fits, fits_run, FitsRun}

abbrev pub Trace : Type 0
Trace = Shape × Run

abbrev pub table_of : Trace → Table
table_of t = trace_table t.0 t.1

abbrev pub IsTrace : List ℕ → Trace → Type 0
IsTrace bytes t = IsTraceText bytes t.0 t.1

abbrev pub SizedTrace : Trace → Type 0
SizedTrace t = SizedRows t.0 t.1.rows

-- ---- the parts of the code's reading are those of the script

some_at : (bytes : List ℕ) → SomePiece (pieces 10 bytes)
some_at bytes =
    let p = some_piece 10 bytes in
    subst SomePiece (sym p.1.1) tt

ending : (left : Unread) → SomePiece left.pieces → script_by (refusal 6) (listed (end_line ∷ [])) left ≡ end_by left
unfolding listed
ending left some = script_step (refusal 6) end_line (λ _. listed []) left (λ x. finished_by x.1) some (λ d more. script_over (refusal 6) d.1 more)

by_parts : (bytes : List ℕ) → read_text trace_format trace_script bytes ≡ trace_by (unread 1 (pieces 10 bytes))
unfolding trace_by
by_parts bytes =
    script_step (refusal 6) header_line (λ _. wants shape_line (λ zs. listed (run_lines (shape_of zs) ++ end_line ∷ []))) (unread 1 (pieces 10 bytes)) (λ x. shape_by x.1) (some_at bytes)
    (λ a some. script_step (refusal 6) shape_line (λ zs. listed (run_lines (shape_of zs) ++ end_line ∷ [])) a.1 (λ x. run_by (shape_of x.0) x.1) some
    (λ b more. script_lines (refusal 6) (run_lines (shape_of b.0)) (end_line ∷ []) b.1 end_by more ending))

-- ---- a trace's text is that of its table

whole_of : (shape : Shape) (r : Run) → IsWithin shape → FitsRun shape r → IsWhole trace_format trace_script (trace_table shape r)
unfolding IsWhole Suits spell_line
whole_of shape r within fits = (
  (tt, tt),
  (
    (
      (
        (shape.flows, (refl, within.flows_from, within.flows_to, omega (arith, within.flows_to))),
        (
          (shape.states, (refl, omega arith, within.states_to, omega (arith, within.states_to))),
          (
            (shape.h, (refl, within.h_from, within.h_to, omega (arith, within.h_to))),
            ((shape.t, (refl, within.t_from, within.t_to, omega (arith, within.t_to))), tt),
          ),
        ),
      ),
      tt,
    ),
    listed_whole (refusal 6) (run_lines shape ++ end_line ∷ []) (run_table r ++ [] ∷ []) ((run_part shape).suits r fits),
  ),
)

spelled_of : (shape : Shape) (r : Run) → FitsRun shape r → spell_lines trace_format trace_script (trace_table shape r) ≡ trace_lines shape r
unfolding spell_lines spell_line trace_lines
spelled_of shape r fits =
    ap (λ (ls : List (List (List ℕ))). header ∷ shape_text shape ∷ ls)
    (listed_spelled (refusal 6) (run_lines shape ++ end_line ∷ []) (run_table r ++ [] ∷ []) ((run_part shape).suits r fits) ∙ (run_part shape).spells r fits)

trace_is : (bytes : List ℕ) (shape : Shape) (r : Run) → IsTraceText bytes shape r → IsTextOf trace_format trace_script bytes (trace_table shape r)
trace_is bytes shape r is =
    let fits = run_fits shape r is.within is.fits in
    record { text_is = is.text_is ∙ ap text (sym (spelled_of shape r fits)); is_whole = whole_of shape r is.within fits }

shape_found : (zs : List ℤ) → Suits shape_line.form zs → (shape : Shape) × ((shape_numbers shape ≡ zs) × IsWithin shape)
unfolding Suits
shape_found [] s = absurd s
shape_found (f ∷ []) s = absurd s.1
shape_found (f ∷ x ∷ []) s = absurd s.1.1
shape_found (f ∷ x ∷ h ∷ []) s = absurd s.1.1.1
shape_found (f ∷ x ∷ h ∷ t ∷ more ∷ zs) s = absurd s.1.1.1.1
shape_found (f ∷ x ∷ h ∷ t ∷ []) ((a, (is_a, la, ha, sa)), ((b, (is_b, lb, hb, sb)), ((c, (is_c, lc, hc, sc)), ((d, (is_d, ld, hd, sd)), done)))) = (
  record { flows = a; states = b; h = c; t = d },
  (cc, record { flows_from = la; flows_to = ha; states_to = hb; h_from = lc; h_to = hc; t_from = ld; t_to = hd }),
)

header_found : (zs : List ℤ) → Suits header_line.form zs → zs ≡ []
unfolding Suits
header_found [] s = refl
header_found (z ∷ zs) s = absurd s

no_more : {one : LineForm} → ◌≡◌ {A = Option LineForm} (Some one) None → ⊥
no_more e = cc

trace_of_table : (bytes : List ℕ) (table : Table) → IsTextOf trace_format trace_script bytes table → ValueOf table_of IsTrace bytes table
unfolding IsWhole
trace_of_table bytes [] is = absurd (no_more is.is_whole)
trace_of_table bytes (hs ∷ []) is = absurd (no_more is.is_whole.1)
trace_of_table bytes (hs ∷ ss ∷ rest) is =
    let no_numbers = header_found hs is.is_whole.0.0 in
    let s = shape_found ss is.is_whole.1.0.0 in
    let lines : List (Line Refusal) = run_lines s.0 ++ end_line ∷ [] in
    let others : IsWhole trace_format (listed lines) rest =
    subst (λ (ys : List ℤ). IsWhole trace_format (listed (run_lines (shape_of ys) ++ end_line ∷ [])) rest) (sym s.1.0) is.is_whole.1.1 in
    let r = (run_part s.0).found rest (whole_listed (refusal 6) lines rest others) in
    let same : trace_table s.0 r.value ≡ hs ∷ ss ∷ rest =
    ap (λ (ts : Table). [] ∷ shape_numbers s.0 ∷ ts) r.is ∙ ap (λ (ys : List ℤ). [] ∷ ys ∷ rest) s.1.0 ∙ ap (λ (ys : List ℤ). ys ∷ ss ∷ rest) (sym no_numbers) in
    record {
      value = (s.0, r.value);
      is = same;
      is_text = record {
        within = s.1.1;
        fits = fits_run s.0 r.value r.fits;
        text_is = is.text_is ∙ ap (λ (ts : Table). text (spell_lines trace_format trace_script ts)) (sym same) ∙ ap text (spelled_of s.0 r.value r.fits);
      };
    }

sizes : (bytes : List ℕ) (shape : Shape) (r : Run) → IsTraceText bytes shape r → SizedRows shape r.rows
sizes bytes shape r is = ((run_part shape).sized r (run_fits shape r is.within is.fits)).1.1.0

same_shape : (s t : Shape) → shape_numbers s ≡ shape_numbers t → s ≡ t
same_shape s t e = by_fields s.flows t.flows s.states t.states s.h t.h s.t t.t e
  where
    by_fields : (a b c d i j k l : ℕ) → pos a ∷ pos c ∷ pos i ∷ pos k ∷ [] ≡ pos b ∷ pos d ∷ pos j ∷ pos l ∷ []
        → ◌≡◌ {A = Shape} (record { flows = a; states = c; h = i; t = k }) (record { flows = b; states = d; h = j; t = l })
    by_fields a b c d i j k l e = cc

-- traces with the same numbers are the same
same_trace : (x y : Trace) → SizedRows x.0 x.1.rows → SizedRows y.0 y.1.rows → table_of x ≡ table_of y → x ≡ y
same_trace x y sx sy e =
    let shapes = same_shape x.0 y.0 (second (shape_numbers x.0) (shape_numbers y.0) (run_table x.1 ++ [] ∷ []) (run_table y.1 ++ [] ∷ []) e) in
    let sized : SizedRows x.0 y.1.rows = subst (λ (s : Shape). SizedRows s y.1.rows) (sym shapes) sy in
    let runs = (run_part x.0).same x.1 y.1 (tt, (tt, (sx, tt))) (tt, (tt, (sized, tt))) (third (shape_numbers x.0) (shape_numbers y.0) (run_table x.1 ++ [] ∷ []) (run_table y.1 ++ [] ∷ []) e) in
    same_pair x.0 y.0 x.1 y.1 shapes runs
  where
    second : (a b : List ℤ) (us vs : Table) → ◌≡◌ {A = Table} ([] ∷ a ∷ us) ([] ∷ b ∷ vs) → a ≡ b
    second a b us vs e = cc

    third : (a b : List ℤ) (us vs : Table) → ◌≡◌ {A = Table} ([] ∷ a ∷ us) ([] ∷ b ∷ vs) → us ≡ vs
    third a b us vs e = cc

    same_pair : (a b : Shape) (c d : Run) → a ≡ b → c ≡ d → ◌≡◌ {A = Trace} (a, c) (b, d)
    same_pair a b c d p q = cc

-- ---- traces are the values of their format

traces : Typed trace_format trace_script table_of IsTrace SizedTrace
traces = record { is = λ bytes t p. trace_is bytes t.0 t.1 p; of = trace_of_table; sized = λ bytes t p. sizes bytes t.0 t.1 p; same = same_trace }

-- what the code's parts give is what the script reads
given_by : (bytes : List ℕ) (result : Result Trace ReadFault) → GivesText table_of result (trace_by (unread 1 (pieces 10 bytes))) → GivesText table_of result (read_text trace_format trace_script bytes)
given_by bytes result given = subst (GivesText table_of result) (sym (by_parts bytes)) given

pub is_found : (bytes : List ℕ) (result : Result Trace ReadFault) → GivesText table_of result (trace_by (unread 1 (pieces 10 bytes))) → IfOk result SizedTrace → IfOk result (IsTrace bytes)
is_found bytes result given sized = typed.is_found trace_format trace_script table_of IsTrace SizedTrace traces bytes result (given_by bytes result given) sized

pub is_read : (bytes : List ℕ) (result : Result Trace ReadFault) → GivesText table_of result (trace_by (unread 1 (pieces 10 bytes))) → IfOk result SizedTrace
    → (shape : Shape) (r : Run) → IsTraceText bytes shape r → GivesUnless result (Ok (shape, r))
is_read bytes result given sized shape r is = typed.is_read trace_format trace_script table_of IsTrace SizedTrace traces bytes result (given_by bytes result given) sized (shape, r) is

pub is_refused : (bytes : List ℕ) (result : Result Trace ReadFault) → GivesText table_of result (trace_by (unread 1 (pieces 10 bytes))) → (r : Refusal) → IsErrOf result (Refused r) → IsRefused bytes r
is_refused bytes result given r is = record { first = typed.is_refused trace_format trace_script table_of bytes result (given_by bytes result given) r is }

pub is_first : (bytes : List ℕ) (result : Result Trace ReadFault) → GivesText table_of result (trace_by (unread 1 (pieces 10 bytes))) → (r : Refusal) → IsRefused bytes r → GivesUnless result (Err r)
is_first bytes result given r is = typed.is_first trace_format trace_script table_of bytes result (given_by bytes result given) r is.first

-- ---- a text is one trace, or has one refusal

pub one_trace : (bytes : List ℕ) (shape : Shape) (r : Run) (shape' : Shape) (r' : Run) → IsTraceText bytes shape r → IsTraceText bytes shape' r' → (shape ≡ shape') × (r ≡ r')
one_trace bytes shape r shape' r' p q =
    let same = typed.one_value trace_format trace_script table_of IsTrace SizedTrace traces bytes (shape, r) (shape', r') p q in
    (ap (λ (x : Trace). x.0) same, ap (λ (x : Trace). x.1) same)

pub one_refusal : (bytes : List ℕ) (r s : Refusal) → IsRefused bytes r → IsRefused bytes s → r ≡ s
one_refusal bytes r s p q = typed.one_refusal trace_format trace_script bytes r s p.first q.first

pub not_both : (bytes : List ℕ) (r : Refusal) (shape : Shape) (run : Run) → IsRefused bytes r → IsTraceText bytes shape run → ⊥
not_both bytes r shape run p q = typed.not_both trace_format trace_script table_of IsTrace SizedTrace traces bytes r (shape, run) p.first q

-- a text is a trace, or it breaks a rule first
pub trace_or_refusal : (bytes : List ℕ) → ((trace : Shape × Run) × IsTraceText bytes trace.0 trace.1) ⊎ ((r : Refusal) × IsRefused bytes r)
trace_or_refusal bytes = elim (typed.value_or_refusal trace_format trace_script table_of IsTrace SizedTrace traces bytes) [
  | inl x ↦ inl x
  | inr x ↦ inr (x.0, record { first = x.1 })
]
