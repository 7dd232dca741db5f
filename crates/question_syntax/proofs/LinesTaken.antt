-- A question's lines that are read are spelled by their tokens.
use Rattle.std.proofs.Common.{◌≡◌, ℕ, true, false, ⊎_elim, Result, Ok, Err, List, [], ◌∷◌, ◌++◌, refl, ap, subst, ◌∙◌}
use Rattle.std.specs.Prelude.{codes}
use Rattle.std.specs.Str.{bytes_eq}
use Rattle.std.proofs.lemmas.List.{append-nil}
use Rattle.std.proofs.lemmas.Bool.{and_parts}
use Rattle.std.proofs.lemmas.Slice.Eq.{bytes_eq-Decides}
use Rattle.text_lines.proofs.StepLaws.{bind_ok, ok_is}
use Rattle.whole.specs.declared.answers.Refusal.{Refusal}
use Rattle.source_text.specs.Tokens.{Token, word}
use Rattle.source_text.specs.Shown.{Ahead}
use Rattle.source_text.specs.Lines.{Line, source_lines, end_number}
use Rattle.source_text.specs.Header.{texts}
use Rattle.condition_syntax.specs.declared.conditions.Style.TheVariants.{Question}
use Rattle.condition_syntax.specs.Fronts.{says}
use Rattle.condition_syntax.specs.Grammar.{SpellsCond}
use Rattle.condition_syntax.proofs.FrontLaws.{chosen, guard_ok}
use Rattle.ctrl_syntax.specs.Rest.{Rest, fronts, behind, number_of_next}
use Rattle.ctrl_syntax.specs.Reading.{Part}
use Rattle.ctrl_syntax.specs.Grammar.{Each, none, one_more}
use Rattle.ctrl_syntax.proofs.PartsTaken.{Between, says_between}
use Rattle.ctrl_syntax.proofs.SectionsTaken.{Prepends, TakesLines, TakesMany, many_taken}
use Rattle.ctrl_syntax.proofs.SectionsAgain.{rest_of}
use Rattle.question_syntax.specs.declared.syntax.SettingLines.{SettingLines}
use Rattle.question_syntax.specs.Sections.{Wanted, Sections}
use Rattle.question_syntax.specs.Grammar.{SpellsCount, SpellsRate, SpellsBuffer, SpellsNothing, SpellsLine, SpellsWanted, SpellsSetting, Spells, IsText}
use Rattle.question_syntax.specs.Reading.{refusal, lacks, count_at, rate_at, buffer_at, condition_at, nothing_at, done_at, behind_title_or, behind_title, titled_by, wanted_by, setting_by, assumes_by, nothing_or, nothing_left, sections_by, names_question, text_by, text_of}
use Rattle.question_syntax.proofs.ValuesTaken.{Taken, count_taken, rate_taken, buffer_taken, condition_is_taken, nothing_taken, done_taken}

-- ---- one line

-- a line that begins with this word was taken, up to behind the word
record Titled (title : List ℕ) (s : Rest) (x : Ahead × Rest) : Type 0 where
  line : Ahead
  lines : s.lines ≡ line ∷ x.1.lines
  between : Between line x.0 (word title ∷ [])

title_by_lines : (title : List ℕ) (s : Rest) (lines : List Ahead) (x : Ahead × Rest) → s.lines ≡ lines → behind_title_or title lines s.end ≡ Ok x → Titled title s x
title_by_lines title s [] x is e = absurd (cc)
title_by_lines title s (a ∷ lines) x is e =
    let g = guard_ok (says title a.tokens) (behind a, rest_of lines s.end) x (lacks 3 a) e in
    subst (Titled title s) g.1 (record { line = a; lines = is; between = says_between title a g.0 })

title_taken : (title : List ℕ) (s : Rest) (x : Ahead × Rest) → behind_title title s ≡ Ok x → Titled title s x
unfolding behind_title
title_taken title s x e = title_by_lines title s s.lines x refl e

-- a line was taken, which spells what was read
pub record TakesLine {X : Type 0} (Spelled : Ahead → X → Type 0) (s : Rest) (x : X × Rest) : Type 0 where
  pub line : Ahead
  pub lines : s.lines ≡ line ∷ x.1.lines
  pub spelled : Spelled line x.0

pub titled_taken : {X : Type 0} (title : List ℕ) (read : Ahead → Part X) (Spelled : List Token → X → Type 0) → Taken Spelled read
    → (s : Rest) (x : X × Rest) → titled_by title read s ≡ Ok x → TakesLine (SpellsLine title Spelled) s x
unfolding titled_by
titled_taken {X} title read Spelled taken s x e =
    let t = bind_ok (behind_title title s) _ x e in
    let v = bind_ok (read t.0.0) _ x t.2 in
    let d = bind_ok (done_at v.0.1) _ x v.2 in
    let line = title_taken title s t.0 t.1 in
    let r = taken t.0.0 v.0 v.1 in
    let value : t.0.0.tokens ≡ r.front = r.between.parts ∙ ap (λ (ts : List Token). r.front ++ ts) (done_taken v.0.1 d.0 d.1) ∙ append-nil r.front in
    subst (TakesLine (SpellsLine title Spelled) s) {x = (v.0.0, t.0.1)} (ok_is {E = Refusal} (v.0.0, t.0.1) x d.2) (record {
      line = line.line;
      lines = line.lines;
      spelled = record { front = r.front; tokens_are = line.between.parts ∙ ap (λ (ts : List Token). word title ∷ ts) value; spelled = r.spelled };
    })

pub wanted_taken : (title : List ℕ) (s : Rest) (x : Wanted × Rest) → wanted_by title s ≡ Ok x → TakesLine (SpellsWanted title) s x
unfolding wanted_by
wanted_taken title s x e =
    let c = bind_ok (titled_by title condition_at s) _ x e in
    let t = titled_taken title condition_at (SpellsCond Question) condition_is_taken s c.0 c.1 in
    let made : Wanted = record { cond = c.0.0; line = number_of_next s.lines s.end } in
    subst (TakesLine (SpellsWanted title) s) {x = (made, c.0.1)} (ok_is {E = Refusal} (made, c.0.1) x c.2) (record {
      line = t.line;
      lines = t.lines;
      spelled = record { cond_is = t.spelled; line_is = ap (λ (ls : List Ahead). number_of_next ls s.end) t.lines };
    })

-- ---- the setting

pub setting_taken : (s : Rest) (x : SettingLines × Rest) → setting_by s ≡ Ok x → TakesLines (λ front y. SpellsSetting front y.setting y.rate_line y.buffer_line) s x
unfolding setting_by
setting_taken s x e =
    let fl = bind_ok (titled_by (codes "flows") (count_at 1 4) s) _ x e in
    let st = bind_ok (titled_by (codes "steps") (count_at 1 32) fl.0.1) _ x fl.2 in
    let ra = bind_ok (titled_by (codes "rate") rate_at st.0.1) _ x st.2 in
    let ji = bind_ok (titled_by (codes "jitter") (count_at 0 8) ra.0.1) _ x ra.2 in
    let rt = bind_ok (titled_by (codes "rtt") (count_at 1 8) ji.0.1) _ x ji.2 in
    let bu = bind_ok (titled_by (codes "buffer") buffer_at rt.0.1) _ x rt.2 in
    let bd = bind_ok (titled_by (codes "budget") (count_at 1 16777216) bu.0.1) _ x bu.2 in
    let flows = titled_taken (codes "flows") (count_at 1 4) (SpellsCount 1 4) (count_taken 1 4) s fl.0 fl.1 in
    let steps = titled_taken (codes "steps") (count_at 1 32) (SpellsCount 1 32) (count_taken 1 32) fl.0.1 st.0 st.1 in
    let rate = titled_taken (codes "rate") rate_at SpellsRate rate_taken st.0.1 ra.0 ra.1 in
    let jitter = titled_taken (codes "jitter") (count_at 0 8) (SpellsCount 0 8) (count_taken 0 8) ra.0.1 ji.0 ji.1 in
    let rtt = titled_taken (codes "rtt") (count_at 1 8) (SpellsCount 1 8) (count_taken 1 8) ji.0.1 rt.0 rt.1 in
    let buffer = titled_taken (codes "buffer") buffer_at SpellsBuffer buffer_taken rt.0.1 bu.0 bu.1 in
    let budget = titled_taken (codes "budget") (count_at 1 16777216) (SpellsCount 1 16777216) (count_taken 1 16777216) bu.0.1 bd.0 bd.1 in
    let made : SettingLines = record {
      setting = record { flows = fl.0.0; steps = st.0.0; rtt = rt.0.0; path = record { rate = ra.0.0; jitter = ji.0.0; buffer = bu.0.0 }; budget = bd.0.0 };
      rate_line = number_of_next st.0.1.lines st.0.1.end;
      buffer_line = number_of_next rt.0.1.lines rt.0.1.end;
    } in
    subst (TakesLines (λ front y. SpellsSetting front y.setting y.rate_line y.buffer_line) s) {x = (made, bd.0.1)} (ok_is {E = Refusal} (made, bd.0.1) x bd.2) (record {
      front = flows.line ∷ steps.line ∷ rate.line ∷ jitter.line ∷ rtt.line ∷ buffer.line ∷ budget.line ∷ [];
      lines = flows.lines ∙ ap (λ (ls : List Ahead). flows.line ∷ ls) (steps.lines ∙ ap (λ (ls : List Ahead). steps.line ∷ ls) (rate.lines ∙ ap (λ (ls : List Ahead). rate.line ∷ ls)
          (jitter.lines ∙ ap (λ (ls : List Ahead). jitter.line ∷ ls) (rtt.lines ∙ ap (λ (ls : List Ahead). rtt.line ∷ ls) (buffer.lines ∙ ap (λ (ls : List Ahead). buffer.line ∷ ls) budget.lines)))));
      spelled = record {
        flows = flows.line;
        steps = steps.line;
        rate = rate.line;
        jitter = jitter.line;
        rtt = rtt.line;
        buffer = buffer.line;
        budget = budget.line;
        lines_are = refl;
        flows_is = flows.spelled;
        steps_is = steps.spelled;
        rate_is = rate.spelled;
        rate_line_is = ap (λ (ls : List Ahead). number_of_next ls st.0.1.end) rate.lines;
        jitter_is = jitter.spelled;
        rtt_is = rtt.spelled;
        buffer_is = buffer.spelled;
        buffer_line_is = ap (λ (ls : List Ahead). number_of_next ls rt.0.1.end) buffer.lines;
        budget_is = budget.spelled;
      };
    })

-- ---- the conditions

assume_prepends : Prepends (codes "assume") (Each (SpellsWanted (codes "assume"))) (wanted_by (codes "assume"))
assume_prepends s x named e =
    let w = wanted_taken (codes "assume") s x e in
    record { front = w.line ∷ []; lines = w.lines; spelled = λ lines xs each. one_more w.spelled each }

pub assumes_taken : (s : Rest) (x : List Wanted × Rest) → assumes_by s ≡ Ok x → TakesMany (Each (SpellsWanted (codes "assume"))) 16 s x
assumes_taken s x e = many_taken (refusal 9) (codes "assume") (Each (SpellsWanted (codes "assume"))) (wanted_by (codes "assume")) none assume_prepends 16 s x e

-- ---- the whole

no_lines : (lines : List Ahead) (x : Unit {0}) → nothing_or lines ≡ Ok x → lines ≡ []
no_lines [] x e = refl
no_lines (a ∷ lines) x e = absurd (cc)

nothing_is_left : (s : Rest) (x : Unit {0}) → nothing_left s ≡ Ok x → s.lines ≡ []
unfolding nothing_left
nothing_is_left s x e = no_lines s.lines x e

pub sections_spelled : (s : Rest) (x : Sections) → sections_by s ≡ Ok x → Spells s.lines x
unfolding sections_by
sections_spelled s x e =
    let se = bind_ok (setting_by s) _ x e in
    let ass = bind_ok (assumes_by se.0.1) _ x se.2 in
    let re = bind_ok (wanted_by (codes "require") ass.0.1) _ x ass.2 in
    let la = bind_ok (titled_by (codes "end") nothing_at re.0.1) _ x re.2 in
    let no = bind_ok (nothing_left la.0.1) _ x la.2 in
    let setting = setting_taken s se.0 se.1 in
    let assumes = assumes_taken se.0.1 ass.0 ass.1 in
    let require = wanted_taken (codes "require") ass.0.1 re.0 re.1 in
    let last = titled_taken (codes "end") nothing_at SpellsNothing nothing_taken re.0.1 la.0 la.1 in
    let last_lines : re.0.1.lines ≡ last.line ∷ [] = last.lines ∙ ap (λ (ls : List Ahead). last.line ∷ ls) (nothing_is_left la.0.1 no.0 no.1) in
    let made : Sections = record { setting = se.0.0.setting; rate_line = se.0.0.rate_line; buffer_line = se.0.0.buffer_line; assumes = ass.0.0; require = re.0.0 } in
    subst (Spells s.lines) (ok_is {E = Refusal} made x no.2) (record {
      setting_lines = setting.front;
      assume_lines = assumes.taken.front;
      require = require.line;
      last = last.line;
      lines_are = setting.lines ∙ ap (λ (ls : List Ahead). setting.front ++ ls) (assumes.taken.lines
          ∙ ap (λ (ls : List Ahead). assumes.taken.front ++ ls) (require.lines ∙ ap (λ (ls : List Ahead). require.line ∷ ls) last_lines));
      setting_is = setting.spelled;
      assumes_are = assumes.taken.spelled;
      few = assumes.few;
      require_is = require.spelled;
      last_is = last.spelled;
    })

-- ---- the header

pub header_named : (ts : List (List ℕ)) → names_question ts ≡ true → ts ≡ codes "ccac-question" ∷ codes "1" ∷ []
header_named [] e = absurd (cc)
header_named (a ∷ []) e = absurd (cc)
header_named (a ∷ b ∷ []) e =
    let both = and_parts (bytes_eq a (codes "ccac-question")) (bytes_eq b (codes "1")) e in
    let one : a ≡ codes "ccac-question" = (bytes_eq-Decides a (codes "ccac-question")).0 both.0 in
    let two : b ≡ codes "1" = (bytes_eq-Decides b (codes "1")).0 both.1 in
    ap (λ (t : List ℕ). t ∷ b ∷ []) one ∙ ap (λ (t : List ℕ). codes "ccac-question" ∷ t ∷ []) two
header_named (a ∷ b ∷ c ∷ ts) e = absurd (cc)

by_source : (bytes : List ℕ) (lines : List Line) (x : Sections) → source_lines bytes ≡ lines → text_by lines (end_number bytes) ≡ Ok x → IsText bytes x
by_source bytes [] x is e = absurd (cc)
by_source bytes (header ∷ lines) x is e =
    let g = ⊎_elim yes no (chosen (names_question (texts header.bytes)) (sections_by (rest_of (fronts lines) (end_number bytes))) (Err (refusal 1 1)) (Ok x) e) in
    record { header = header; lines = lines; lines_are = is; header_is = header_named (texts header.bytes) g.0; spelled = sections_spelled (rest_of (fronts lines) (end_number bytes)) x g.1 }
  where
    Found : Type 0
    Found = (names_question (texts header.bytes) ≡ true) × (sections_by (rest_of (fronts lines) (end_number bytes)) ≡ Ok x)

    yes : Found → Found
    yes p = p

    no : (names_question (texts header.bytes) ≡ false) × (◌≡◌ {A = Result Sections Refusal} (Err (refusal 1 1)) (Ok x)) → Found
    no p = absurd (let h = p.1 in cc)

pub text_spelled : (bytes : List ℕ) (x : Sections) → text_of bytes ≡ Ok x → IsText bytes x
unfolding text_of
text_spelled bytes x e = by_source bytes (source_lines bytes) x refl e
