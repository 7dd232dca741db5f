-- What the lines of a question spell is read from them.
use Rattle.std.proofs.Common.{◌≡◌, ℕ, zero, suc, ◌≤◌, Bool, true, false, cond, leb, Option, None, Some, Ok, Err, List, [], ◌∷◌, ◌++◌, length, refl, sym, ap, ◌∙◌, arith}
use Rattle.std.specs.Prelude.{codes}
use Rattle.std.proofs.lemmas.List.{append-nil}
use Rattle.std.proofs.lemmas.Bool.{le-leb, and_from}
use Rattle.text_lines.specs.Steps.{◌>>=◌}
use Rattle.source_text.specs.Tokens.{Token, word, number}
use Rattle.source_text.specs.Shown.{Ahead}
use Rattle.source_text.specs.Lines.{Line, end_number}
use Rattle.path_server.specs.declared.settings.Setting.{Setting}
use Rattle.condition_syntax.specs.declared.conditions.Style.TheVariants.{Question}
use Rattle.condition_syntax.specs.Fronts.{says}
use Rattle.condition_syntax.specs.RefusalRules.{refused}
use Rattle.condition_syntax.specs.Conditions.{condition_by}
use Rattle.condition_syntax.specs.Grammar.{IsNumber, SpellsCond}
use Rattle.condition_syntax.proofs.FrontLaws.{says_there}
use Rattle.condition_syntax.proofs.ExpressionsAgain.{number_again}
use Rattle.condition_syntax.proofs.ConditionsAgain.{condition_again}
use Rattle.condition_syntax.proofs.EndLaws.{condition_ends, end_stops}
use Rattle.ctrl_syntax.specs.Rest.{fronts, first_says}
use Rattle.ctrl_syntax.specs.Reading.{Part, many_within}
use Rattle.ctrl_syntax.specs.Grammar.{Each, none, one_more}
use Rattle.ctrl_syntax.proofs.LinesAgain.{at}
use Rattle.ctrl_syntax.proofs.SectionsAgain.{rest_of, says_front, says_other, many_end, many_more}
use Rattle.question_syntax.specs.declared.syntax.SettingLines.{SettingLines}
use Rattle.question_syntax.specs.Sections.{Wanted, Sections}
use Rattle.question_syntax.specs.Grammar.{SpellsCount, count, pair_of, SpellsRate, rate, SpellsBuffer, no_buffer, buffer, SpellsNothing, SpellsLine, SpellsWanted, SpellsSetting, Spells, IsText}
use Rattle.question_syntax.specs.Reading.{refusal, lacks, count_at, positive, rate_at, buffer_at, condition_at, nothing_at, done_at, behind_title, titled_by, wanted_by, setting_by, assumes_by, nothing_left, sections_by, names_question, text_by, text_of}

-- ---- the values

-- what is spelled so is read, up to the line's end
abbrev pub Again : {X : Type 0} → (List Token → X → Type 0) → (Ahead → Part X) → Type 0
Again {X} Spelled read = (line : ℕ) (front : List Token) (x : X) → Spelled front x → read (at line front) ≡ Ok (x, at line [])

pub count_there : (low high line n : ℕ) (rest : List Token) → low ≤ n → n ≤ high → count_at low high (at line (number n None ∷ rest)) ≡ Ok (n, at line rest)
unfolding count_at
count_there low high line n rest from to =
    ap (λ (b : Bool). cond b (Ok (n, at line rest)) (Err (refusal 6 line))) (and_from (leb low n) (leb n high) (le-leb low n from) (le-leb n high to))

pub count_again : (low high : ℕ) → Again (SpellsCount low high) (count_at low high)
count_again low high line _ n (count from to) = count_there low high line n [] from to

pub rate_there : {n : ℕ} {d : Option ℕ} {q : _} (line : ℕ) (rest : List Token) → IsNumber n d q → 1 ≤ n → rate_at (at line (number n d ∷ rest)) ≡ Ok (pair_of q, at line rest)
unfolding rate_at
rate_there {n} {d} {q} line rest is from =
    ap (λ r. refused Question line r >>= λ p. positive n p (at line (number n d ∷ rest))) (number_again n d q is)
    ∙ ap (λ (b : Bool). cond b (Ok (pair_of q, at line rest)) (Err (refusal 6 line))) (le-leb 1 n from)

pub rate_again : Again SpellsRate rate_at
rate_again line _ _ (rate is from) = rate_there line [] is from

pub none_there : (line : ℕ) (rest : List Token) → buffer_at (at line (word (codes "none") ∷ rest)) ≡ Ok (None, at line rest)
unfolding buffer_at
none_there line rest = refl

pub buffer_there : {n : ℕ} {d : Option ℕ} {q : _} (line : ℕ) (rest : List Token) → IsNumber n d q → buffer_at (at line (number n d ∷ rest)) ≡ Ok (Some (pair_of q), at line rest)
unfolding buffer_at
buffer_there {n} {d} {q} line rest is = ap (λ r. refused Question line r >>= λ p. Ok (Some (pair_of p), at line rest)) (number_again n d q is)

pub buffer_again : Again SpellsBuffer buffer_at
buffer_again line _ _ no_buffer = none_there line []
buffer_again line _ _ (buffer is) = buffer_there line [] is

pub condition_is_again : Again (SpellsCond Question) condition_at
unfolding condition_at
condition_is_again line front c is =
    ap (λ (all : List Token). refused Question line (condition_by Question all) >>= λ x. Ok (x.0, at line x.1)) (sym (append-nil front))
    ∙ ap (λ r. refused Question line r >>= λ x. Ok (x.0, at line x.1)) (condition_again Question front c [] is (condition_ends [] end_stops Question front c is))

pub nothing_again : Again SpellsNothing nothing_at
unfolding nothing_at
nothing_again line front x is = ap (λ (ts : List Token). Ok (x, at line ts)) is

pub done_again : (line : ℕ) → done_at (at line []) ≡ Ok tt
unfolding done_at
done_again line = refl

-- ---- one line

pub title_there : (title : List ℕ) (line : ℕ) (front : List Token) (lines : List Ahead) (end : ℕ) → behind_title title (rest_of (at line (word title ∷ front) ∷ lines) end) ≡ Ok (at line front, rest_of lines end)
unfolding behind_title
title_there title line front lines end = ap (λ (b : Bool). cond b (Ok (at line front, rest_of lines end)) (Err (lacks 3 (at line (word title ∷ front))))) (says_there title front)

titled_there : {X : Type 0} (title : List ℕ) (read : Ahead → Part X) (line : ℕ) (front : List Token) (x : X) (lines : List Ahead) (end : ℕ) → read (at line front) ≡ Ok (x, at line [])
    → titled_by title read (rest_of (at line (word title ∷ front) ∷ lines) end) ≡ Ok (x, rest_of lines end)
unfolding titled_by
titled_there title read line front x lines end reads = rw (title_there title line front lines end, reads, done_again line) refl

pub titled_again : {X : Type 0} (title : List ℕ) (read : Ahead → Part X) (Spelled : List Token → X → Type 0) → Again Spelled read → (a : Ahead) (x : X) (lines : List Ahead) (end : ℕ)
    → SpellsLine title Spelled a x → titled_by title read (rest_of (a ∷ lines) end) ≡ Ok (x, rest_of lines end)
titled_again title read Spelled again a x lines end is =
    ap (λ (ts : List Token). titled_by title read (rest_of (at a.line ts ∷ lines) end)) is.tokens_are
    ∙ titled_there title read a.line is.front x lines end (again a.line is.front x is.spelled)

pub wanted_again : (title : List ℕ) (a : Ahead) (w : Wanted) (lines : List Ahead) (end : ℕ) → SpellsWanted title a w → wanted_by title (rest_of (a ∷ lines) end) ≡ Ok (w, rest_of lines end)
unfolding wanted_by
wanted_again title a w lines end is =
    ap (λ r. r >>= λ c. Ok (record { cond = c.0; line = a.line }, c.1)) (titled_again title condition_at (SpellsCond Question) condition_is_again a w.cond lines end is.cond_is)
    ∙ ap (λ n. Ok (record { cond = w.cond; line = n }, rest_of lines end)) (sym is.line_is)

-- ---- the assumptions

wanted_says : (title : List ℕ) (a : Ahead) (w : Wanted) → SpellsWanted title a w → says title a.tokens ≡ true
wanted_says title a w is = says_front title a.tokens is.cond_is.front is.cond_is.tokens_are

assumes_within : {lines : List Ahead} {ws : List Wanted} (room : ℕ) (rest : List Ahead) (end : ℕ) → Each (SpellsWanted (codes "assume")) lines ws → length ws ≤ room
    → first_says (codes "assume") rest ≡ false
    → many_within (refusal 9) (codes "assume") (wanted_by (codes "assume")) room (rest_of (lines ++ rest) end) ≡ Ok (ws, rest_of rest end)
assumes_within room rest end none few absent = many_end (refusal 9) (codes "assume") (wanted_by (codes "assume")) room (rest_of rest end) absent
assumes_within zero rest end (one_more is others) few absent = absurd (omega arith)
assumes_within (suc room) rest end (one_more {a} {x} {lines} {xs} is others) few absent =
    many_more (refusal 9) (codes "assume") (wanted_by (codes "assume")) room (rest_of (a ∷ (lines ++ rest)) end) x (rest_of (lines ++ rest) end) xs (rest_of rest end)
    (wanted_says (codes "assume") a x is) (wanted_again (codes "assume") a x (lines ++ rest) end is) (assumes_within room rest end others (omega arith) absent)

assumes_again : {lines : List Ahead} {ws : List Wanted} (rest : List Ahead) (end : ℕ) → Each (SpellsWanted (codes "assume")) lines ws → length ws ≤ 16
    → first_says (codes "assume") rest ≡ false → assumes_by (rest_of (lines ++ rest) end) ≡ Ok (ws, rest_of rest end)
assumes_again rest end is few absent = assumes_within 16 rest end is few absent

-- ---- the setting

-- the lines of the setting as they are read
abbrev pub setting_lines : Setting → ℕ → ℕ → SettingLines
setting_lines s rate_line buffer_line = record { setting = s; rate_line = rate_line; buffer_line = buffer_line }

setting_there : (lines : List Ahead) (s : Setting) (r b : ℕ) (rest : List Ahead) (end : ℕ) (is : SpellsSetting lines s r b)
    → setting_by (rest_of (is.flows ∷ is.steps ∷ is.rate ∷ is.jitter ∷ is.rtt ∷ is.buffer ∷ is.budget ∷ rest) end) ≡ Ok (setting_lines s is.rate.line is.buffer.line, rest_of rest end)
unfolding setting_by
setting_there lines s r b rest end is =
    let budget = titled_again (codes "budget") (count_at 1 16777216) (SpellsCount 1 16777216) (count_again 1 16777216) is.budget s.budget rest end is.budget_is in
    let buffer = titled_again (codes "buffer") buffer_at SpellsBuffer buffer_again is.buffer s.path.buffer (is.budget ∷ rest) end is.buffer_is in
    let rtt = titled_again (codes "rtt") (count_at 1 8) (SpellsCount 1 8) (count_again 1 8) is.rtt s.rtt (is.buffer ∷ is.budget ∷ rest) end is.rtt_is in
    let jitter = titled_again (codes "jitter") (count_at 0 8) (SpellsCount 0 8) (count_again 0 8) is.jitter s.path.jitter (is.rtt ∷ is.buffer ∷ is.budget ∷ rest) end is.jitter_is in
    let rate = titled_again (codes "rate") rate_at SpellsRate rate_again is.rate s.path.rate (is.jitter ∷ is.rtt ∷ is.buffer ∷ is.budget ∷ rest) end is.rate_is in
    let steps = titled_again (codes "steps") (count_at 1 32) (SpellsCount 1 32) (count_again 1 32) is.steps s.steps (is.rate ∷ is.jitter ∷ is.rtt ∷ is.buffer ∷ is.budget ∷ rest) end is.steps_is in
    let flows = titled_again (codes "flows") (count_at 1 4) (SpellsCount 1 4) (count_again 1 4) is.flows s.flows (is.steps ∷ is.rate ∷ is.jitter ∷ is.rtt ∷ is.buffer ∷ is.budget ∷ rest) end is.flows_is in
    rw (flows, steps, rate, jitter, rtt, buffer, budget) refl

pub setting_again : (lines : List Ahead) (s : Setting) (r b : ℕ) (rest : List Ahead) (end : ℕ) → SpellsSetting lines s r b
    → setting_by (rest_of (lines ++ rest) end) ≡ Ok (setting_lines s r b, rest_of rest end)
setting_again lines s r b rest end is =
    ap (λ (ls : List Ahead). setting_by (rest_of (ls ++ rest) end)) is.lines_are ∙ setting_there lines s r b rest end is
    ∙ ap (λ n. Ok (setting_lines s n is.buffer.line, rest_of rest end)) (sym is.rate_line_is)
    ∙ ap (λ n. Ok (setting_lines s r n, rest_of rest end)) (sym is.buffer_line_is)

-- ---- the whole

nothing_there : (end : ℕ) → nothing_left (rest_of [] end) ≡ Ok tt
unfolding nothing_left
nothing_there end = refl

sections_there : (lines : List Ahead) (s : Sections) (end : ℕ) (is : Spells lines s)
    → sections_by (rest_of (is.setting_lines ++ (is.assume_lines ++ (is.require ∷ is.last ∷ []))) end) ≡ Ok s
unfolding sections_by
sections_there lines s end is =
    let behind_assumes = is.require ∷ is.last ∷ [] in
    let absent = says_other (codes "assume") (codes "require") is.require.tokens is.require_is.cond_is.front is.require_is.cond_is.tokens_are refl in
    let setting = setting_again is.setting_lines s.setting s.rate_line s.buffer_line (is.assume_lines ++ behind_assumes) end is.setting_is in
    let assumes = assumes_again behind_assumes end is.assumes_are is.few absent in
    let require = wanted_again (codes "require") is.require s.require (is.last ∷ []) end is.require_is in
    let last = titled_again (codes "end") nothing_at SpellsNothing nothing_again is.last tt [] end is.last_is in
    rw (setting, assumes, require, last, nothing_there end) refl

pub sections_again : (lines : List Ahead) (s : Sections) (end : ℕ) → Spells lines s → sections_by (rest_of lines end) ≡ Ok s
sections_again lines s end is = ap (λ (ls : List Ahead). sections_by (rest_of ls end)) is.lines_are ∙ sections_there lines s end is

pub text_again : (bytes : List ℕ) (s : Sections) → IsText bytes s → text_of bytes ≡ Ok s
unfolding text_of
text_again bytes s is =
    ap (λ (ls : List Line). text_by ls (end_number bytes)) is.lines_are
    ∙ ap (λ (b : Bool). cond b (sections_by (rest_of (fronts is.lines) (end_number bytes))) (Err (refusal 1 1))) (ap names_question is.header_is)
    ∙ sections_again (fronts is.lines) s (end_number bytes) is.spelled
