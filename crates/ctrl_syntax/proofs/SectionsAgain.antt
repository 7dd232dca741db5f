-- What the lines of a text spell is read from them.
use Rattle.std.proofs.Common.{◌≡◌, ℕ, zero, suc, ◌≤◌, Bool, true, false, cond, Option, None, Some, Result, Ok, Err, List, [], ◌∷◌, ◌++◌, length, refl, ap, ◌∙◌, append_assoc, arith}
use Rattle.std.specs.Prelude.{codes}
use Rattle.std.specs.Str.{bytes_eq}
use Rattle.text_lines.specs.Steps.{◌>>=◌}
use Rattle.whole.specs.declared.answers.Refusal.{Refusal}
use Rattle.source_text.specs.Tokens.{Token, word}
use Rattle.source_text.specs.Shown.{Ahead}
use Rattle.source_text.specs.Lines.{Line, end_number}
use Rattle.condition_syntax.specs.Fronts.{says}
use Rattle.condition_syntax.specs.Trees.{Condition}
use Rattle.condition_syntax.proofs.FrontLaws.{says_there}
use Rattle.ctrl_syntax.specs.declared.syntax.StateLine.{StateLine}
use Rattle.ctrl_syntax.specs.declared.syntax.SetLine.{SetLine}
use Rattle.ctrl_syntax.specs.declared.syntax.RateLine.{RateLine}
use Rattle.ctrl_syntax.specs.Rest.{Rest, fronts, first_says, number_of_next}
use Rattle.ctrl_syntax.specs.Sections.{Rule, Sections}
use Rattle.ctrl_syntax.specs.Grammar.{SpellsState, SpellsGuard, when, otherwise, SpellsSet, Each, none, one_more, SpellsRules, no_rule, a_rule, SpellsRate, no_rate, a_rate, Spells, IsText}
use Rattle.ctrl_syntax.specs.Reading.{refusal, state_at, head_at, set_at, titled_at, end_at, Lines, stray, line_by, titled_by, many_within, many_by, sets_by, rule_by, rate_by, nothing_left, sections_by, names_controller, text_by, text_of}
use Rattle.ctrl_syntax.proofs.LinesAgain.{state_again, head_again, set_again, titled_again, end_again}

-- what is left of a text
abbrev pub rest_of : List Ahead → ℕ → Rest
rest_of lines end = record { lines = lines; end = end }

-- ---- the words that lines begin with

-- a line that begins with this word
pub says_front : (w : List ℕ) (tokens rest : List Token) → tokens ≡ word w ∷ rest → says w tokens ≡ true
says_front w tokens rest is = ap (says w) is ∙ says_there w rest

-- a line that begins with another word
pub says_other : (w v : List ℕ) (tokens rest : List Token) → tokens ≡ word v ∷ rest → bytes_eq v w ≡ false → says w tokens ≡ false
unfolding says
says_other w v tokens rest is differs = ap (says w) is ∙ differs

pub guard_front : {tokens : List Token} {guard : Option Condition} → SpellsGuard tokens guard → (rest : List Token) × (tokens ≡ word (codes "rule") ∷ rest)
guard_front (when {front} is) = (word (codes "when") ∷ front, refl)
guard_front otherwise = (word (codes "otherwise") ∷ [], refl)

state_says : (a : Ahead) (s : StateLine) → SpellsState a s → says (codes "state") a.tokens ≡ true
state_says a s is = says_front (codes "state") a.tokens _ is.tokens_are

set_says : (a : Ahead) (s : SetLine) → SpellsSet a s → says (codes "set") a.tokens ≡ true
set_says a s is = says_front (codes "set") a.tokens _ is.tokens_are

-- rules begin with none but their word
rules_begin : {lines : List Ahead} {rs : List Rule} (w : List ℕ) (rest : List Ahead) → SpellsRules lines rs → bytes_eq (codes "rule") w ≡ false → first_says w rest ≡ false → first_says w (lines ++ rest) ≡ false
rules_begin w rest no_rule differs others = others
rules_begin w rest (a_rule {a = a} guard line sets more) differs others =
    let g = guard_front guard in
    says_other w (codes "rule") a.tokens g.0 g.1 differs

-- ---- lines, one after another

line_again : {X : Type 0} (read : Ahead → Result X Refusal) (a : Ahead) (x : X) (lines : List Ahead) (end : ℕ) → read a ≡ Ok x → line_by read (rest_of (a ∷ lines) end) ≡ Ok (x, rest_of lines end)
unfolding line_by
line_again read a x lines end e = ap (λ r. r >>= λ y. Ok (y, rest_of lines end)) e

titled_line : {X : Type 0} (title : List ℕ) (read : Ahead → Result X Refusal) (a : Ahead) (x : X) (lines : List Ahead) (end : ℕ) → says title a.tokens ≡ true → read a ≡ Ok x
    → titled_by title read (rest_of (a ∷ lines) end) ≡ Ok (x, rest_of lines end)
unfolding titled_by
titled_line {X} title read a x lines end named e =
    ap (λ (b : Bool). cond b (line_by read (rest_of (a ∷ lines) end)) (Err (stray (a ∷ lines) end))) named ∙ line_again read a x lines end e

-- none follows
pub many_end : {X : Type 0} (over : ℕ → Refusal) (title : List ℕ) (read : Rest → Lines X) (room : ℕ) (s : Rest) → first_says title s.lines ≡ false → many_within over title read room s ≡ Ok ([], s)
unfolding many_within
many_end {X} over title read zero s absent = ap (λ (b : Bool). cond b (Err (over (number_of_next s.lines s.end))) (Ok ([], s))) absent
many_end {X} over title read (suc room) s absent = ap (λ (b : Bool). cond b (read s >>= λ y. many_within over title read room y.1 >>= λ ys. Ok (y.0 ∷ ys.0, ys.1)) (Ok ([], s))) absent

-- one follows, and others behind it
pub many_more : {X : Type 0} (over : ℕ → Refusal) (title : List ℕ) (read : Rest → Lines X) (room : ℕ) (s : Rest) (x : X) (t : Rest) (xs : List X) (u : Rest) → first_says title s.lines ≡ true → read s ≡ Ok (x, t)
    → many_within over title read room t ≡ Ok (xs, u) → many_within over title read (suc room) s ≡ Ok (x ∷ xs, u)
unfolding many_within
many_more {X} over title read room s x t xs u named one others =
    ap (λ (b : Bool). cond b (read s >>= λ y. many_within over title read room y.1 >>= λ ys. Ok (y.0 ∷ ys.0, ys.1)) (Ok ([], s))) named
    ∙ ap (λ r. r >>= λ y. many_within over title read room y.1 >>= λ ys. Ok (y.0 ∷ ys.0, ys.1)) one
    ∙ ap (λ r. r >>= λ ys. Ok (x ∷ ys.0, ys.1)) others

each_again : {X : Type 0} (over : ℕ → Refusal) (title : List ℕ) (Spells : Ahead → X → Type 0) (read : Ahead → Result X Refusal) → ((a : Ahead) (x : X) → Spells a x → says title a.tokens ≡ true)
    → ((a : Ahead) (x : X) → Spells a x → read a ≡ Ok x) → {lines : List Ahead} {xs : List X} (room : ℕ) (rest : List Ahead) (end : ℕ) → Each Spells lines xs → length xs ≤ room
    → first_says title rest ≡ false → many_within over title (line_by read) room (rest_of (lines ++ rest) end) ≡ Ok (xs, rest_of rest end)
each_again over title Spells read named reads room rest end none few absent = many_end over title (line_by read) room (rest_of rest end) absent
each_again over title Spells read named reads zero rest end (one_more is others) few absent = absurd (omega arith)
each_again over title Spells read named reads (suc room) rest end (one_more {a} {x} {lines} {xs} is others) few absent =
    many_more over title (line_by read) room (rest_of (a ∷ (lines ++ rest)) end) x (rest_of (lines ++ rest) end) xs (rest_of rest end) (named a x is) (line_again read a x (lines ++ rest) end (reads a x is))
    (each_again over title Spells read named reads room rest end others (omega arith) absent)

each_count : {X : Type 0} {Spells : Ahead → X → Type 0} {lines : List Ahead} {xs : List X} (rest : List Ahead) → Each Spells lines xs → length xs ≤ length (lines ++ rest)
each_count rest none = omega arith
each_count rest (one_more is others) = omega (arith, each_count rest others)

sets_again : {lines : List Ahead} {xs : List SetLine} (rest : List Ahead) (end : ℕ) → Each SpellsSet lines xs → first_says (codes "set") rest ≡ false
    → sets_by (rest_of (lines ++ rest) end) ≡ Ok (xs, rest_of rest end)
unfolding sets_by
sets_again {lines} {xs} rest end is absent = each_again (refusal 11) (codes "set") SpellsSet set_at set_says set_again (length (lines ++ rest)) rest end is (each_count rest is) absent

rule_again : {a : Ahead} {sets : List Ahead} {r : Rule} (rest : List Ahead) (end : ℕ) → SpellsGuard a.tokens r.guard → r.line ≡ a.line → Each SpellsSet sets r.sets → first_says (codes "set") rest ≡ false
    → rule_by (rest_of (a ∷ (sets ++ rest)) end) ≡ Ok (r, rest_of rest end)
unfolding rule_by
rule_again {a} {sets} {r} rest end guard line is absent =
    rw (line_again head_at a (r.guard, r.line) (sets ++ rest) end (head_again a r.guard r.line guard line), sets_again rest end is absent) refl

rules_again : {lines : List Ahead} {rs : List Rule} (room : ℕ) (rest : List Ahead) (end : ℕ) → SpellsRules lines rs → length rs ≤ room → first_says (codes "rule") rest ≡ false
    → first_says (codes "set") rest ≡ false → many_by (codes "rule") rule_by room (rest_of (lines ++ rest) end) ≡ Ok (rs, rest_of rest end)
rules_again room rest end no_rule few no_more no_set = many_end (refusal 11) (codes "rule") rule_by room (rest_of rest end) no_more
rules_again zero rest end (a_rule guard line is others) few no_more no_set = absurd (omega arith)
rules_again (suc room) rest end (a_rule {a} {sets} {lines} {r} {rs} guard line is others) few no_more no_set =
    let g = guard_front guard in
    let one : rule_by (rest_of (a ∷ ((sets ++ lines) ++ rest)) end) ≡ Ok (r, rest_of (lines ++ rest) end) =
    ap (λ (ls : List Ahead). rule_by (rest_of (a ∷ ls) end)) (append_assoc sets lines rest) ∙ rule_again (lines ++ rest) end guard line is (rules_begin (codes "set") rest others refl no_set) in
    many_more (refusal 11) (codes "rule") rule_by room (rest_of (a ∷ ((sets ++ lines) ++ rest)) end) r (rest_of (lines ++ rest) end) rs (rest_of rest end) (says_front (codes "rule") a.tokens g.0 g.1) one
    (rules_again room rest end others (omega arith) no_more no_set)

-- ---- the whole

rate_there : {lines : List Ahead} {rate : Option RateLine} (last : Ahead) (end : ℕ) → SpellsRate lines rate → last.tokens ≡ word (codes "end") ∷ []
    → rate_by (rest_of (lines ++ (last ∷ [])) end) ≡ Ok (rate, rest_of (last ∷ []) end)
unfolding rate_by
rate_there last end no_rate is =
    ap (λ (b : Bool). cond b (line_by titled_at (rest_of (last ∷ []) end) >>= λ r. Ok (Some r.0, r.1)) (Ok (None, rest_of (last ∷ []) end))) (says_other (codes "rate") (codes "end") last.tokens [] is refl)
rate_there last end (a_rate {a} {r} rated) is =
    ap (λ (b : Bool). cond b (line_by titled_at (rest_of (a ∷ last ∷ []) end) >>= λ x. Ok (Some x.0, x.1)) (Ok (None, rest_of (a ∷ last ∷ []) end))) (says_front (codes "rate") a.tokens rated.front rated.tokens_are)
    ∙ ap (λ y. y >>= λ x. Ok (Some x.0, x.1)) (line_again titled_at a r (last ∷ []) end (titled_again (codes "rate") a r rated))

nothing_there : (end : ℕ) → nothing_left (rest_of [] end) ≡ Ok tt
unfolding nothing_left
nothing_there end = refl

sections_there : (lines : List Ahead) (s : Sections) (end : ℕ) (is : Spells lines s)
    → sections_by (rest_of (is.state_lines ++ (is.rule_lines ++ (is.window ∷ (is.rate_lines ++ (is.last ∷ []))))) end) ≡ Ok s
unfolding sections_by
sections_there lines s end is =
    let behind_window = is.rate_lines ++ (is.last ∷ []) in
    let behind_rules = is.window ∷ behind_window in
    let window_says : (w : List ℕ) → bytes_eq (codes "window") w ≡ false → says w is.window.tokens ≡ false = λ w differs. says_other w (codes "window") is.window.tokens is.window_is.front is.window_is.tokens_are differs in
    let states = each_again (refusal 11) (codes "state") SpellsState state_at state_says state_again 8 (is.rule_lines ++ behind_rules) end is.states_are is.few_states
    (rules_begin (codes "state") behind_rules is.rules_are refl (window_says (codes "state") refl)) in
    let rules = rules_again 16 behind_rules end is.rules_are is.few_rules (window_says (codes "rule") refl) (window_says (codes "set") refl) in
    let window = titled_line (codes "window") titled_at is.window (record { expr = s.window; line = s.window_line }) behind_window end
    (says_front (codes "window") is.window.tokens is.window_is.front is.window_is.tokens_are) (titled_again (codes "window") is.window (record { expr = s.window; line = s.window_line }) is.window_is) in
    let last = titled_line (codes "end") end_at is.last tt [] end (says_front (codes "end") is.last.tokens [] is.last_is) (end_again is.last is.last_is) in
    rw (states, rules, window, rate_there is.last end is.rate_is is.last_is, last, nothing_there end) refl

pub sections_again : (lines : List Ahead) (s : Sections) (end : ℕ) → Spells lines s → sections_by (rest_of lines end) ≡ Ok s
sections_again lines s end is = ap (λ (ls : List Ahead). sections_by (rest_of ls end)) is.lines_are ∙ sections_there lines s end is

pub text_again : (bytes : List ℕ) (s : Sections) → IsText bytes s → text_of bytes ≡ Ok s
unfolding text_of
text_again bytes s is =
    ap (λ (ls : List Line). text_by ls (end_number bytes)) is.lines_are
    ∙ ap (λ (b : Bool). cond b (sections_by (rest_of (fronts is.lines) (end_number bytes))) (Err (refusal 1 1))) (ap names_controller is.header_is)
    ∙ sections_again (fronts is.lines) s (end_number bytes) is.spelled
