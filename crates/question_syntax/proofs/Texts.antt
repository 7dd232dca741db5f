-- The canonical text of what a text spells spells the same but for line numbers.
use Rattle.std.proofs.Common.{◌≡◌, ℕ, ◌+◌, Result, Ok, Err, List, [], ◌∷◌, ◌++◌, length, map, refl, sym, ap, subst, ◌∙◌, append_assoc, arith}
use Rattle.std.specs.Prelude.{codes, flat_map, IfOk}
use Rattle.source_text.specs.Tokens.{Token, word}
use Rattle.source_text.specs.Bytes.{behind_blanks}
use Rattle.source_text.specs.Header.{texts}
use Rattle.source_text.specs.Lines.{numbered, source_lines, is_skipped, text_of, IsPlain, ArePlain}
use Rattle.source_text.specs.Shown.{Ahead}
use Rattle.source_text.proofs.LineLaws.{text_of-append, source_lines_printed}
use Rattle.path_server.specs.declared.settings.Setting.{Setting}
use Rattle.ctrl_syntax.specs.Rest.{fronts}
use Rattle.ctrl_syntax.specs.Grammar.{Each}
use Rattle.ctrl_syntax.specs.Printed.{line_text}
use Rattle.ctrl_syntax.proofs.LinesAgain.{at}
use Rattle.ctrl_syntax.proofs.LineTexts.{PrintsLine, line_plain, end_prints}
use Rattle.ctrl_syntax.proofs.SectionTexts.{AreFromLines, fronts_from, from_parts, lines_at, lines_at-append, printed_at, Block, plain-append, no_lines_at, SameAs, each_block, count_same, text-map, text-nil, text-cons, text-end, numbered-cons}
use Rattle.question_syntax.specs.Sections.{Wanted, Sections, wanted_at, SameButLines}
use Rattle.question_syntax.specs.Grammar.{SpellsCount, SpellsRate, SpellsBuffer, SpellsNothing, SpellsLine, SpellsWanted, SpellsSetting, Spells, IsText}
use Rattle.question_syntax.specs.Printed.{count_text, rate_text, buffer_text, setting_text, wanted_text, printed, SpellsAgain}
use Rattle.question_syntax.proofs.LineTexts.{LineOn, count_prints, rate_prints, buffer_prints, WantedOn, wanted_prints}

-- a line with its front, before the fronts of others
printed_before : (k : ℕ) (text : List ℕ) (Spelled : List Token → Type 0) (p : PrintsLine text Spelled) (more : List (List ℕ)) (others : List Ahead) → lines_at (k + 1) more ≡ others
    → lines_at k (text ∷ more) ≡ at k p.front ∷ others
printed_before k text Spelled p more others is = printed_at k text Spelled p more ∙ ap (λ (ls : List Ahead). at k p.front ∷ ls) is

-- ---- the setting

abbrev setting_lines : Setting → List (List ℕ)
setting_lines s =
    count_text (codes "flows ") s.flows ∷ count_text (codes "steps ") s.steps ∷ rate_text s.path.rate ∷ count_text (codes "jitter ") s.path.jitter ∷ count_text (codes "rtt ") s.rtt
    ∷ buffer_text s.path.buffer ∷ count_text (codes "budget ") s.budget ∷ []

-- the lines of the setting, the first of which has the number 2
record PrintsSetting (s : Setting) : Type 0 where
  plain : ArePlain (setting_lines s)
  spelled : SpellsSetting (lines_at 2 (setting_lines s)) s 4 7

setting_prints : (lines : List Ahead) (s : Setting) (r b : ℕ) → SpellsSetting lines s r b → PrintsSetting s
setting_prints lines s r b is =
    let flows = count_prints (codes "flows") 1 4 s.flows is.flows refl (omega arith) is.flows_is in
    let steps = count_prints (codes "steps") 1 32 s.steps is.steps refl (omega arith) is.steps_is in
    let rate = rate_prints is.rate s.path.rate is.rate_is in
    let jitter = count_prints (codes "jitter") 0 8 s.path.jitter is.jitter refl (omega arith) is.jitter_is in
    let rtt = count_prints (codes "rtt") 1 8 s.rtt is.rtt refl (omega arith) is.rtt_is in
    let buffer = buffer_prints is.buffer s.path.buffer is.buffer_is in
    let budget = count_prints (codes "budget") 1 16777216 s.budget is.budget refl (omega arith) is.budget_is in
    let t1 : List ℕ = count_text (codes "flows ") s.flows in
    let t2 : List ℕ = count_text (codes "steps ") s.steps in
    let t3 : List ℕ = rate_text s.path.rate in
    let t4 : List ℕ = count_text (codes "jitter ") s.path.jitter in
    let t5 : List ℕ = count_text (codes "rtt ") s.rtt in
    let t6 : List ℕ = buffer_text s.path.buffer in
    let t7 : List ℕ = count_text (codes "budget ") s.budget in
    record {
      plain = (
        line_plain t1 (LineOn (codes "flows") (SpellsCount 1 4) s.flows) flows,
        (
          line_plain t2 (LineOn (codes "steps") (SpellsCount 1 32) s.steps) steps,
          (
            line_plain t3 (LineOn (codes "rate") SpellsRate s.path.rate) rate,
            (
              line_plain t4 (LineOn (codes "jitter") (SpellsCount 0 8) s.path.jitter) jitter,
              (
                line_plain t5 (LineOn (codes "rtt") (SpellsCount 1 8) s.rtt) rtt,
                (
                  line_plain t6 (LineOn (codes "buffer") SpellsBuffer s.path.buffer) buffer,
                  (line_plain t7 (LineOn (codes "budget") (SpellsCount 1 16777216) s.budget) budget, tt),
                ),
              ),
            ),
          ),
        ),
      );
      spelled = record {
        flows = at 2 flows.front;
        steps = at 3 steps.front;
        rate = at 4 rate.front;
        jitter = at 5 jitter.front;
        rtt = at 6 rtt.front;
        buffer = at 7 buffer.front;
        budget = at 8 budget.front;
        lines_are = printed_before 2 t1 (LineOn (codes "flows") (SpellsCount 1 4) s.flows) flows (t2 ∷ t3 ∷ t4 ∷ t5 ∷ t6 ∷ t7 ∷ []) _
            (printed_before 3 t2 (LineOn (codes "steps") (SpellsCount 1 32) s.steps) steps (t3 ∷ t4 ∷ t5 ∷ t6 ∷ t7 ∷ []) _
            (printed_before 4 t3 (LineOn (codes "rate") SpellsRate s.path.rate) rate (t4 ∷ t5 ∷ t6 ∷ t7 ∷ []) _
            (printed_before 5 t4 (LineOn (codes "jitter") (SpellsCount 0 8) s.path.jitter) jitter (t5 ∷ t6 ∷ t7 ∷ []) _
            (printed_before 6 t5 (LineOn (codes "rtt") (SpellsCount 1 8) s.rtt) rtt (t6 ∷ t7 ∷ []) _
            (printed_before 7 t6 (LineOn (codes "buffer") SpellsBuffer s.path.buffer) buffer (t7 ∷ []) _
            (printed_before 8 t7 (LineOn (codes "budget") (SpellsCount 1 16777216) s.budget) budget [] [] (no_lines_at 9)))))));
        flows_is = flows.spelled 2;
        steps_is = steps.spelled 3;
        rate_is = rate.spelled 4;
        rate_line_is = refl;
        jitter_is = jitter.spelled 5;
        rtt_is = rtt.spelled 6;
        buffer_is = buffer.spelled 7;
        buffer_line_is = refl;
        budget_is = budget.spelled 8;
      };
    }

-- ---- all lines

assumes_block : {lines : List Ahead} {ws : List Wanted} → Each (SpellsWanted (codes "assume")) lines ws → AreFromLines lines
    → Block (Each (SpellsWanted (codes "assume"))) (SameAs wanted_at ws) (map (wanted_text (codes "assume ")) ws)
assumes_block is from = each_block (SpellsWanted (codes "assume")) (wanted_text (codes "assume ")) wanted_at (λ n w. refl) (λ a w spelled words. wanted_prints (codes "assume") a w refl spelled words) is from

-- the lines behind the header
abbrev lines_of : Sections → List (List ℕ)
lines_of s = setting_lines s.setting ++ (map (wanted_text (codes "assume ")) s.assumes ++ (wanted_text (codes "require ") s.require ∷ codes "end" ∷ []))

-- what the printed lines spell, the first of which has the number 2
record PrintsAgain (s : Sections) : Type 0 where
  plain : ArePlain (lines_of s)
  read : Sections
  spelled : Spells (lines_at 2 (lines_of s)) read
  same : SameButLines s read

-- the same in each section
same_sections : (s t : Sections) → s.setting ≡ t.setting → SameAs wanted_at s.assumes t.assumes → wanted_at 0 s.require ≡ wanted_at 0 t.require → SameButLines s t
same_sections s t setting assumes require = cc

end_line : (n : ℕ) (front : List Token) → front ≡ word (codes "end") ∷ [] → SpellsLine (codes "end") SpellsNothing (at n front) tt
end_line n front is = record { front = []; tokens_are = is; spelled = refl }

lines_print : (lines : List Ahead) (s : Sections) → Spells lines s → AreFromLines lines → PrintsAgain s
lines_print lines s is from =
    let from_setting = from_parts is.setting_lines (is.assume_lines ++ (is.require ∷ is.last ∷ [])) (subst AreFromLines is.lines_are from) in
    let from_assumes = from_parts is.assume_lines (is.require ∷ is.last ∷ []) from_setting.1 in
    let setting = setting_prints is.setting_lines s.setting s.rate_line s.buffer_line is.setting_is in
    let assumes = assumes_block is.assumes_are from_assumes.0 in
    let require = wanted_prints (codes "require") is.require s.require refl is.require_is from_assumes.1.0 in
    let t1 : List (List ℕ) = setting_lines s.setting in
    let t2 : List (List ℕ) = map (wanted_text (codes "assume ")) s.assumes in
    let r : List ℕ = wanted_text (codes "require ") s.require in
    let last : List (List ℕ) = codes "end" ∷ [] in
    let k : ℕ = 9 + length t2 in
    let read : Sections = record { setting = s.setting; rate_line = 4; buffer_line = 7; assumes = assumes.value 9; require = wanted_at k s.require } in
    record {
      plain = plain-append t1 (t2 ++ (r ∷ last)) setting.plain (plain-append t2 (r ∷ last) assumes.plain
          (line_plain r (WantedOn (codes "require") s.require) require, (line_plain (codes "end") (λ front. front ≡ word (codes "end") ∷ []) end_prints, tt)));
      read = read;
      spelled = record {
        setting_lines = lines_at 2 t1;
        assume_lines = lines_at 9 t2;
        require = at k require.front;
        last = at (k + 1) end_prints.front;
        lines_are = lines_at-append 2 t1 (t2 ++ (r ∷ last)) ∙ ap (λ (ls : List Ahead). lines_at 2 t1 ++ ls) (lines_at-append 9 t2 (r ∷ last)
            ∙ ap (λ (ls : List Ahead). lines_at 9 t2 ++ ls) (printed_before k r (WantedOn (codes "require") s.require) require last (at (k + 1) end_prints.front ∷ [])
            (printed_before (k + 1) (codes "end") (λ front. front ≡ word (codes "end") ∷ []) end_prints [] [] (no_lines_at ((k + 1) + 1)))));
        setting_is = setting.spelled;
        assumes_are = assumes.spelled 9;
        few = count_same (wanted_at 0) s.assumes (assumes.value 9) 16 (assumes.same 9) is.few;
        require_is = require.spelled k;
        last_is = end_line (k + 1) end_prints.front end_prints.spelled;
      };
      same = same_sections s read refl (assumes.same 9) refl;
    }

-- ---- the whole text

-- a line before a text
text-before : (line : List ℕ) (lines : List (List ℕ)) (text : List ℕ) → text_of lines ≡ text → text_of (line ∷ lines) ≡ (line ++ codes "\n") ++ text
text-before line lines text is = text-cons line lines ∙ ap (λ (bytes : List ℕ). line ++ (10 ∷ bytes)) is ∙ sym (append_assoc line (codes "\n") text)

text-last : (line : List ℕ) → text_of (line ∷ []) ≡ line ++ codes "\n"
text-last line = text-cons line [] ∙ ap (λ (bytes : List ℕ). line ++ (10 ∷ bytes)) text-nil

text-setting : (s : Setting) → text_of (setting_lines s) ≡ setting_text s
unfolding setting_text
text-setting s =
    text-before (count_text (codes "flows ") s.flows) _ _ (text-before (count_text (codes "steps ") s.steps) _ _ (text-before (rate_text s.path.rate) _ _
    (text-before (count_text (codes "jitter ") s.path.jitter) _ _ (text-before (count_text (codes "rtt ") s.rtt) _ _ (text-before (buffer_text s.path.buffer) _ _
    (text-last (count_text (codes "budget ") s.budget)))))))

abbrev header_text : List ℕ
header_text = codes "ccac-question 1"

printed_is : (s : Sections) → text_of (header_text ∷ lines_of s) ≡ printed s
unfolding printed
printed_is s =
    let t1 : List (List ℕ) = setting_lines s.setting in
    let t2 : List (List ℕ) = map (wanted_text (codes "assume ")) s.assumes in
    let r : List ℕ = wanted_text (codes "require ") s.require in
    let last : List (List ℕ) = codes "end" ∷ [] in
    let tail : text_of (r ∷ last) ≡ line_text (wanted_text (codes "require ")) s.require ++ codes "end\n" = text-before r last (codes "end\n") text-end in
    let assumed : text_of (t2 ++ (r ∷ last)) ≡ flat_map (line_text (wanted_text (codes "assume "))) s.assumes ++ (line_text (wanted_text (codes "require ")) s.require ++ codes "end\n") =
    text_of-append t2 (r ∷ last) ∙ ap (λ (bytes : List ℕ). bytes ++ text_of (r ∷ last)) (text-map (wanted_text (codes "assume ")) s.assumes)
    ∙ ap (λ (bytes : List ℕ). flat_map (line_text (wanted_text (codes "assume "))) s.assumes ++ bytes) tail in
    text-cons header_text (lines_of s) ∙ ap (λ (bytes : List ℕ). header_text ++ (10 ∷ bytes)) (text_of-append t1 (t2 ++ (r ∷ last))
    ∙ ap (λ (bytes : List ℕ). bytes ++ text_of (t2 ++ (r ∷ last))) (text-setting s.setting) ∙ ap (λ (bytes : List ℕ). setting_text s.setting ++ bytes) assumed)

header_plain : IsPlain header_text
unfolding is_skipped behind_blanks
header_plain = record { no_end = refl; no_cr = refl; stays = refl }

header_texts : texts header_text ≡ codes "ccac-question" ∷ codes "1" ∷ []
unfolding texts
header_texts = refl

-- of lines that spell it, wherever they are from
pub lines_printed : (lines : List Ahead) (s : Sections) → Spells lines s → AreFromLines lines → SpellsAgain (printed s) s
lines_printed lines s spelled from =
    let again = lines_print lines s spelled from in
    let found : source_lines (text_of (header_text ∷ lines_of s)) ≡ record { number = 1; bytes = header_text } ∷ numbered 2 (lines_of s) =
    source_lines_printed (header_text ∷ lines_of s) (header_plain, again.plain) ∙ numbered-cons 1 header_text (lines_of s) in
    record {
      read = again.read;
      spelled = record {
        header = record { number = 1; bytes = header_text };
        lines = numbered 2 (lines_of s);
        lines_are = ap source_lines (sym (printed_is s)) ∙ found;
        header_is = header_texts;
        spelled = again.spelled;
      };
      same = again.same;
    }

pub text_printed : (bytes : List ℕ) (s : Sections) → IsText bytes s → SpellsAgain (printed s) s
text_printed bytes s is = lines_printed (fronts is.lines) s is.spelled (fronts_from is.lines)

-- a call that gives the printed text, if memory lasts
pub prints_again : {X E : Type 0} (items : X → List ℕ) (bytes : List ℕ) (s : Sections) → IsText bytes s → (result : Result X E) → IfOk result (λ out. items out ≡ printed s) → IfOk result (λ out. SpellsAgain (items out) s)
prints_again items bytes s is (Ok out) exact = subst (λ (text : List ℕ). SpellsAgain text s) (sym exact) (text_printed bytes s is)
prints_again items bytes s is (Err fault) exact = tt
