-- A call that gives what is read gives exactly the questions' texts.
use Rattle.std.proofs.Common.{◌≡◌, ℕ, Bool, true, false, cond, ◌⊎◌, ⊎_elim, inl, inr, Result, Ok, Err, List, [], ◌∷◌, refl, sym, ap, subst, ◌∙◌}
use Rattle.std.specs.Prelude.{codes, IfOk, IsErrOf}
use Rattle.text_lines.specs.Steps.{Fails}
use Rattle.whole.specs.declared.answers.ReadFault.{ReadFault}
use Rattle.whole.specs.declared.answers.ReadFault.TheVariants.{Refused, NoMemory}
use Rattle.whole.specs.declared.answers.Refusal.{Refusal}
use Rattle.source_text.specs.Shown.{Ahead}
use Rattle.source_text.specs.Lines.{Line, source_lines, end_number}
use Rattle.source_text.specs.Header.{texts}
use Rattle.path_server.specs.declared.settings.Setting.{Setting}
use Rattle.condition_syntax.proofs.FrontLaws.{chosen}
use Rattle.ctrl_syntax.specs.Rest.{fronts}
use Rattle.ctrl_syntax.specs.Views.{GivesSeenUnless}
use Rattle.ctrl_syntax.proofs.SectionsAgain.{rest_of}
use Rattle.ctrl_syntax.proofs.PartRefusals.{err_is}
use Rattle.question_syntax.specs.declared.syntax.QuestionSyntax.{QuestionSyntax}
use Rattle.question_syntax.specs.Sections.{Sections, sections_of}
use Rattle.question_syntax.specs.Grammar.{IsText}
use Rattle.question_syntax.specs.Refused.{FirstRefused, IsRefused, no_line, no_header, behind_header}
use Rattle.question_syntax.specs.Reading.{refusal, sections_by, names_question, text_by, text_of}
use Rattle.question_syntax.proofs.LinesTaken.{header_named, text_spelled}
use Rattle.question_syntax.proofs.LinesAgain.{text_again}
use Rattle.question_syntax.proofs.RefusalOrder.{drop, sections_walk}
use Rattle.question_syntax.proofs.FirstRefusals.{first_is_read, read_is_first}

-- ---- the text is refused as its lines are

-- a refusal, with no value and with one
drop_err : {X : Type 0} (r : Result X Refusal) (s : Refusal) → drop r ≡ Err s → r ≡ Err s
drop_err (Ok x) s e = absurd (cc)
drop_err (Err t) s e = cc

lines_refused : (lines : List Ahead) (finish : ℕ) (r : Refusal) → sections_by (rest_of lines finish) ≡ Err r → FirstRefused finish lines r
lines_refused lines finish r e = read_is_first finish lines r (sym (sections_walk (rest_of lines finish)) ∙ ap drop e)

refused_lines : (lines : List Ahead) (finish : ℕ) (r : Refusal) → FirstRefused finish lines r → sections_by (rest_of lines finish) ≡ Err r
refused_lines lines finish r is = drop_err (sections_by (rest_of lines finish)) r (sections_walk (rest_of lines finish) ∙ first_is_read finish is)

header_is_not : (ts : List (List ℕ)) → names_question ts ≡ false → ts ≡ codes "ccac-question" ∷ codes "1" ∷ [] → ⊥
header_is_not ts e is = let there : names_question ts ≡ true = ap names_question is in absurd (cc)

not_header : (ts : List (List ℕ)) → (ts ≡ codes "ccac-question" ∷ codes "1" ∷ [] → ⊥) → names_question ts ≡ false
not_header ts isn't = by (names_question ts) refl
  where
    by : (b : Bool) → names_question ts ≡ b → b ≡ false
    by false e = refl
    by true e = absurd (isn't (header_named ts e))

refused_by_source : (bytes : List ℕ) (lines : List Line) (r : Refusal) → source_lines bytes ≡ lines → text_by lines (end_number bytes) ≡ Err r → IsRefused bytes r
refused_by_source bytes [] r is e = subst (IsRefused bytes) (sym (err_is {A = Sections} (refusal 1 1) r e)) (no_line is)
refused_by_source bytes (line ∷ lines) r is e =
    ⊎_elim named other (chosen (names_question (texts line.bytes)) (sections_by (rest_of (fronts lines) (end_number bytes))) (Err (refusal 1 1)) (Err r) e)
  where
    named : (names_question (texts line.bytes) ≡ true) × (sections_by (rest_of (fronts lines) (end_number bytes)) ≡ Err r) → IsRefused bytes r
    named p = behind_header line lines is (header_named (texts line.bytes) p.0) (lines_refused (fronts lines) (end_number bytes) r p.1)

    other : (names_question (texts line.bytes) ≡ false) × (◌≡◌ {A = Result Sections Refusal} (Err (refusal 1 1)) (Err r)) → IsRefused bytes r
    other p = subst (IsRefused bytes) (sym (err_is {A = Sections} (refusal 1 1) r p.1)) (no_header line lines is (header_is_not (texts line.bytes) p.0))

text_refused : (bytes : List ℕ) (r : Refusal) → text_of bytes ≡ Err r → IsRefused bytes r
unfolding text_of
text_refused bytes r e = refused_by_source bytes (source_lines bytes) r refl e

by_header : (line : Line) (lines : List Line) (end : ℕ) (b : Bool) → names_question (texts line.bytes) ≡ b
    → text_by (line ∷ lines) end ≡ cond b (sections_by (rest_of (fronts lines) end)) (Err (refusal 1 1))
by_header line lines end b e = ap (λ (t : Bool). cond t (sections_by (rest_of (fronts lines) end)) (Err (refusal 1 1))) e

refused_text : (bytes : List ℕ) (r : Refusal) → IsRefused bytes r → text_of bytes ≡ Err r
unfolding text_of
refused_text bytes r (no_line is) = ap (λ (ls : List Line). text_by ls (end_number bytes)) is
refused_text bytes r (no_header line lines is isn't) =
    ap (λ (ls : List Line). text_by ls (end_number bytes)) is ∙ by_header line lines (end_number bytes) false (not_header (texts line.bytes) isn't)
refused_text bytes r (behind_header line lines is header refused) =
    ap (λ (ls : List Line). text_by ls (end_number bytes)) is ∙ by_header line lines (end_number bytes) true (ap names_question header)
    ∙ refused_lines (fronts lines) (end_number bytes) r refused

-- ---- the clauses of the calls

module _ (bytes : List ℕ) (result : Result QuestionSyntax ReadFault) (given : GivesSeenUnless sections_of result (text_of bytes)) where
  pub is_read : (s : Sections) → IsText bytes s → GivesSeenUnless sections_of result (Ok s)
  is_read s is = subst (GivesSeenUnless sections_of result) (text_again bytes s is) given

  pub is_first : (r : Refusal) → IsRefused bytes r → GivesSeenUnless sections_of result (Err r)
  is_first r is = subst (GivesSeenUnless sections_of result) (refused_text bytes r is) given

pub is_found : (bytes : List ℕ) (result : Result QuestionSyntax ReadFault) → GivesSeenUnless sections_of result (text_of bytes) → IfOk result (λ syntax. IsText bytes (sections_of syntax))
is_found bytes (Ok syntax) given = text_spelled bytes (sections_of syntax) given
is_found bytes (Err fault) given = tt

pub is_refused : (bytes : List ℕ) (result : Result QuestionSyntax ReadFault) → GivesSeenUnless sections_of result (text_of bytes) → (r : Refusal) → IsErrOf result (Refused r) → IsRefused bytes r
is_refused bytes (Ok syntax) given r is = absurd (cc)
is_refused bytes (Err NoMemory) given r is = absurd (cc)
is_refused bytes (Err (Refused s)) given r is = text_refused bytes r (given ∙ ap (λ x. Err x) (refusal_is s r is))
  where
    refusal_is : (s r : Refusal) → ◌≡◌ {A = Result QuestionSyntax ReadFault} (Err (Refused s)) (Err (Refused r)) → s ≡ r
    refusal_is s r e = cc

-- the setting of what was read
pub setting_same : (syntax : QuestionSyntax) (s : Sections) → ◌≡◌ {A = Result Sections Refusal} (Ok s) (Ok (sections_of syntax)) → ◌≡◌ {A = Result Setting Refusal} (Ok s.setting) (Ok syntax.setting)
setting_same syntax s e = ap (λ (t : Sections). Ok t.setting) (ok_same s (sections_of syntax) e)
  where
    ok_same : (s t : Sections) → ◌≡◌ {A = Result Sections Refusal} (Ok s) (Ok t) → s ≡ t
    ok_same s t e = cc

pub fails_still : {X Y : Type 0} (fault : ReadFault) (x : X) (y : Y) → Fails {Y = X} fault (Ok x) → Fails {Y = Y} fault (Ok y)
fails_still NoMemory x y e = tt
fails_still (Refused r) x y e = absurd (cc)

-- ---- a text is one question's, or has one refusal

err_not_ok : (r : Refusal) (s : Sections) → ◌≡◌ {A = Result Sections Refusal} (Err r) (Ok s) → ⊥
err_not_ok r s e = cc

ok_same : (s t : Sections) → ◌≡◌ {A = Result Sections Refusal} (Ok s) (Ok t) → s ≡ t
ok_same s t e = cc

pub one_text : (bytes : List ℕ) (s t : Sections) → IsText bytes s → IsText bytes t → s ≡ t
one_text bytes s t p q = ok_same s t (sym (text_again bytes s p) ∙ text_again bytes t q)

pub one_refusal : (bytes : List ℕ) (r s : Refusal) → IsRefused bytes r → IsRefused bytes s → r ≡ s
one_refusal bytes r s p q = sym (err_is {A = Sections} r s (sym (refused_text bytes r p) ∙ refused_text bytes s q))

pub not_both : (bytes : List ℕ) (r : Refusal) (s : Sections) → IsRefused bytes r → IsText bytes s → ⊥
not_both bytes r s p q = err_not_ok r s (sym (refused_text bytes r p) ∙ text_again bytes s q)

-- bytes are a text, or they are refused
pub either_text : (bytes : List ℕ) → ((s : Sections) × IsText bytes s) ⊎ ((r : Refusal) × IsRefused bytes r)
either_text bytes = by (text_of bytes) refl
  where
    by : (x : Result Sections Refusal) → text_of bytes ≡ x → ((s : Sections) × IsText bytes s) ⊎ ((r : Refusal) × IsRefused bytes r)
    by (Ok s) e = inl (s, text_spelled bytes s e)
    by (Err r) e = inr (r, text_refused bytes r e)
