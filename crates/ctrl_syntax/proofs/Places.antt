-- The text as a walk from place to place: what a line does at its place, and that reading is this walk.
use Rattle.std.proofs.Common.{◌≡◌, ◌≢◌, ℕ, zero, suc, ◌-◌, ◌≤◌, Bool, true, false, cond, leb, Option, None, Some, Result, Ok, Err, List, [], ◌∷◌, length, refl, ap, ◌∙◌, arith}
use Rattle.std.specs.Prelude.{codes, nat_le, if◌then◌else◌}
use Rattle.std.proofs.lemmas.Bool.{leb-true, leb-false}
use Rattle.text_lines.specs.Steps.{◌>>=◌}
use Rattle.text_lines.proofs.StepLaws.{bind_assoc}
use Rattle.whole.specs.declared.answers.Refusal.{Refusal}
use Rattle.source_text.specs.Shown.{Ahead}
use Rattle.condition_syntax.specs.Fronts.{says}
use Rattle.condition_syntax.specs.Trees.{Condition}
use Rattle.ctrl_syntax.specs.declared.syntax.SetLine.{SetLine}
use Rattle.ctrl_syntax.specs.declared.syntax.RateLine.{RateLine}
use Rattle.ctrl_syntax.specs.Rest.{Rest, first_says, number_of_next}
use Rattle.ctrl_syntax.specs.Sections.{Rule, Sections}
use Rattle.ctrl_syntax.specs.Refused.{Section, states, rules, window, rate, end}
use Rattle.ctrl_syntax.specs.Reading.{refusal, lacks, state_at, head_at, set_at, titled_at, end_at, Lines, line_by, titled_by, many_within, many_by, sets_by, rule_by, rate_by, nothing_left, sections_by}
use Rattle.ctrl_syntax.proofs.SectionsAgain.{rest_of}

abbrev pub Outcome : Type 0
Outcome = Result (Unit {0}) Refusal

-- ---- reading on from a place, with the values dropped

abbrev pub from_end : Rest → Outcome
from_end s = nothing_left s

abbrev pub from_rate : Rest → Outcome
from_rate s = titled_by (codes "end") end_at s >>= λ l. from_end l.1

abbrev pub from_window : Rest → Outcome
from_window s = rate_by s >>= λ r. from_rate r.1

abbrev pub behind_rules : Rest → Outcome
behind_rules s = titled_by (codes "window") titled_at s >>= λ w. from_window w.1

abbrev pub more_rules : ℕ → Rest → Outcome
more_rules room s = many_by (codes "rule") rule_by room s >>= λ x. behind_rules x.1

abbrev pub from_rules : ℕ → Rest → Outcome
from_rules n s = sets_by s >>= λ y. more_rules (16 - n) y.1

abbrev pub from_states : ℕ → Rest → Outcome
from_states n s = many_by (codes "state") (line_by state_at) (8 - n) s >>= λ x. more_rules 16 x.1

abbrev pub reading : Section → Rest → Outcome
reading (states n) s = from_states n s
reading (rules n) s = from_rules n s
reading window s = from_window s
reading rate s = from_rate s
reading end s = from_end s

-- ---- what a line does

abbrev pub moves : {X : Type 0} → Result X Refusal → Section → Result Section Refusal
moves read next = read >>= λ x. Ok next

abbrev pub rule_or_window : ℕ → Ahead → Result Section Refusal
rule_or_window n a =
    if says (codes "rule") a.tokens then (if nat_le 16 n then Err (refusal 11 a.line) else moves (head_at a) (rules (suc n)))
    else if says (codes "window") a.tokens then moves (titled_at a) window
    else Err (lacks 3 a)

abbrev pub step : Section → Ahead → Result Section Refusal
step (states n) a =
    if says (codes "state") a.tokens then (if nat_le 8 n then Err (refusal 11 a.line) else moves (state_at a) (states (suc n)))
    else rule_or_window 0 a
step (rules n) a = if says (codes "set") a.tokens then moves (set_at a) (rules n) else rule_or_window n a
step window a =
    if says (codes "rate") a.tokens then moves (titled_at a) rate
    else if says (codes "end") a.tokens then moves (end_at a) end
    else Err (lacks 3 a)
step rate a = if says (codes "end") a.tokens then moves (end_at a) end else Err (lacks 3 a)
step end a = Err (refusal 13 a.line)

-- the walk goes on from where the line led
abbrev pub onward : Result Section Refusal → Rest → Outcome
onward moved s = moved >>= λ next. reading next s

-- ---- reading is the walk

-- what reading goes on with
abbrev pub leaving : {X : Type 0} → Rest → X → Lines X
leaving s x = Ok (x, s)

abbrev pub with_first : {X : Type 0} → X → List X × Rest → Lines (List X)
with_first x xs = Ok (x ∷ xs.0, xs.1)

abbrev pub others : {X : Type 0} → (ℕ → Refusal) → List ℕ → (Rest → Lines X) → ℕ → X × Rest → Lines (List X)
others over title read room x = many_within over title read room x.1 >>= with_first x.0

abbrev pub none_of : (X : Type 0) → Rest → Lines (List X)
none_of X s = Ok ([], s)

abbrev pub full : (X : Type 0) → (ℕ → Refusal) → Rest → Lines (List X)
full X over s = Err (over (number_of_next s.lines s.end))

abbrev pub a_rule_with : Option Condition × ℕ → List SetLine × Rest → Lines Rule
a_rule_with head sets = Ok (record { guard = head.0; sets = sets.0; line = head.1 }, sets.1)

abbrev pub a_rate : RateLine × Rest → Lines (Option RateLine)
a_rate x = Ok (Some x.0, x.1)

abbrev pub no_rate : Rest → Lines (Option RateLine)
no_rate s = Ok (None, s)

abbrev pub on : {X : Type 0} → Lines X → (Rest → Outcome) → Outcome
on read k = read >>= λ x. k x.1

-- a first thing that was read, and what follows it
pub many_onward : {X : Type 0} (over : ℕ → Refusal) (title : List ℕ) (read : Rest → Lines X) (room : ℕ) (s : Rest) (k : Rest → Outcome) → first_says title s.lines ≡ true
    → (many_within over title read (suc room) s >>= λ x. k x.1) ≡ (read s >>= λ x. many_within over title read room x.1 >>= λ y. k y.1)
unfolding many_within
many_onward {X} over title read room s k named =
    ap (λ (b : Bool). on (cond b (read s >>= others over title read room) (none_of X s)) k) named
    ∙ bind_assoc (read s) (others over title read room) (λ x. k x.1)
    ∙ same_then (read s) (λ x. on (others over title read room x) k) (λ x. on (many_within over title read room x.1) k)
    (λ x. bind_assoc (many_within over title read room x.1) (with_first x.0) (λ y. k y.1))
  where
    same_then : (r : Lines X) (f g : X × Rest → Outcome) → ((x : X × Rest) → f x ≡ g x) → (r >>= f) ≡ (r >>= g)
    same_then (Ok x) f g same = same x
    same_then (Err fault) f g same = refl

pub many_over : {X : Type 0} (over : ℕ → Refusal) (title : List ℕ) (read : Rest → Lines X) (room : ℕ) (s : Rest) (k : Rest → Outcome) → first_says title s.lines ≡ false
    → (many_within over title read room s >>= λ x. k x.1) ≡ k s
unfolding many_within
many_over {X} over title read zero s k absent = ap (λ (b : Bool). on (cond b (full X over s) (none_of X s)) k) absent
many_over {X} over title read (suc room) s k absent = ap (λ (b : Bool). on (cond b (read s >>= others over title read room) (none_of X s)) k) absent

pub many_full : {X : Type 0} (over : ℕ → Refusal) (title : List ℕ) (read : Rest → Lines X) (s : Rest) (k : Rest → Outcome) → first_says title s.lines ≡ true
    → (many_within over title read 0 s >>= λ x. k x.1) ≡ Err (over (number_of_next s.lines s.end))
unfolding many_within
many_full {X} over title read s k named = ap (λ (b : Bool). on (cond b (full X over s) (none_of X s)) k) named

-- the next line was read
line_onward : {X : Type 0} (read : Ahead → Result X Refusal) (a : Ahead) (lines : List Ahead) (finish : ℕ) (next : Section) (k : Rest → Outcome)
    → (k (rest_of lines finish) ≡ reading next (rest_of lines finish))
    → (line_by read (rest_of (a ∷ lines) finish) >>= λ x. k x.1) ≡ onward (moves (read a) next) (rest_of lines finish)
unfolding line_by
line_onward {X} read a lines finish next k same = by (read a)
  where
    by : (r : Result X Refusal) → on (r >>= leaving (rest_of lines finish)) k ≡ onward (moves r next) (rest_of lines finish)
    by (Ok x) = same
    by (Err fault) = refl

-- ---- each place

window_steps : (a : Ahead) (lines : List Ahead) (finish : ℕ) → behind_rules (rest_of (a ∷ lines) finish) ≡ onward (cond (says (codes "window") a.tokens) (moves (titled_at a) window) (Err (lacks 3 a))) (rest_of lines finish)
unfolding titled_by
window_steps a lines finish = by (says (codes "window") a.tokens)
  where
    by : (b : Bool) → (cond b (line_by titled_at (rest_of (a ∷ lines) finish)) (Err (lacks 3 a)) >>= λ w. from_window w.1) ≡ onward (cond b (moves (titled_at a) window) (Err (lacks 3 a))) (rest_of lines finish)
    by true = line_onward titled_at a lines finish window from_window refl
    by false = refl

-- a rule, with its assignments behind its line
rule_onward : (a : Ahead) (lines : List Ahead) (finish n : ℕ) → (rule_by (rest_of (a ∷ lines) finish) >>= λ x. more_rules (16 - suc n) x.1) ≡ onward (moves (head_at a) (rules (suc n))) (rest_of lines finish)
unfolding rule_by
rule_onward a lines finish n =
    bind_assoc (line_by head_at (rest_of (a ∷ lines) finish)) head_then (λ x. more_rules (16 - suc n) x.1)
    ∙ heads (line_by head_at (rest_of (a ∷ lines) finish))
    ∙ line_onward head_at a lines finish (rules (suc n)) (from_rules (suc n)) refl
  where
    head_then : (Option Condition × ℕ) × Rest → Lines Rule
    head_then head = sets_by head.1 >>= a_rule_with head.0

    sets_then : (head : Option Condition × ℕ) (r : Lines (List SetLine)) → on (r >>= a_rule_with head) (more_rules (16 - suc n)) ≡ on r (more_rules (16 - suc n))
    sets_then head (Ok x) = refl
    sets_then head (Err fault) = refl

    heads : (r : Lines (Option Condition × ℕ)) → (r >>= λ head. on (head_then head) (more_rules (16 - suc n))) ≡ on r (from_rules (suc n))
    heads (Ok x) = sets_then x.0 (sets_by x.1)
    heads (Err fault) = refl

rules_step : (a : Ahead) (lines : List Ahead) (finish n : ℕ) → n ≤ 16 → more_rules (16 - n) (rest_of (a ∷ lines) finish) ≡ onward (rule_or_window n a) (rest_of lines finish)
rules_step a lines finish n le = by (says (codes "rule") a.tokens) refl
  where
    full : (b : Bool) → leb 16 n ≡ b → says (codes "rule") a.tokens ≡ true
        → more_rules (16 - n) (rest_of (a ∷ lines) finish) ≡ onward (cond b (Err (refusal 11 a.line)) (moves (head_at a) (rules (suc n)))) (rest_of lines finish)
    full true k named =
        let none : 16 - n ≡ 0 = (let up = leb-true 16 n k in omega arith) in
        ap (λ m. more_rules m (rest_of (a ∷ lines) finish)) none ∙ many_full (refusal 11) (codes "rule") rule_by (rest_of (a ∷ lines) finish) behind_rules named
    full false k named =
        let more : 16 - n ≡ suc (16 - suc n) = (let low = leb-false 16 n k in omega arith) in
        ap (λ m. more_rules m (rest_of (a ∷ lines) finish)) more
        ∙ many_onward (refusal 11) (codes "rule") rule_by (16 - suc n) (rest_of (a ∷ lines) finish) behind_rules named
        ∙ rule_onward a lines finish n

    by : (b : Bool) → says (codes "rule") a.tokens ≡ b
        → more_rules (16 - n) (rest_of (a ∷ lines) finish) ≡ onward (cond b (cond (leb 16 n) (Err (refusal 11 a.line)) (moves (head_at a) (rules (suc n)))) (cond (says (codes "window") a.tokens) (moves (titled_at a) window) (Err (lacks 3 a)))) (rest_of lines finish)
    by true named = full (leb 16 n) refl named
    by false absent = many_over (refusal 11) (codes "rule") rule_by (16 - n) (rest_of (a ∷ lines) finish) behind_rules absent ∙ window_steps a lines finish

states_step : (a : Ahead) (lines : List Ahead) (finish n : ℕ) → n ≤ 8 → from_states n (rest_of (a ∷ lines) finish) ≡ onward (step (states n) a) (rest_of lines finish)
states_step a lines finish n le = by (says (codes "state") a.tokens) refl
  where
    s : Rest
    s = rest_of (a ∷ lines) finish

    full : (b : Bool) → leb 8 n ≡ b → says (codes "state") a.tokens ≡ true
        → from_states n s ≡ onward (cond b (Err (refusal 11 a.line)) (moves (state_at a) (states (suc n)))) (rest_of lines finish)
    full true k named =
        let none : 8 - n ≡ 0 = (let up = leb-true 8 n k in omega arith) in
        ap (λ m. many_by (codes "state") (line_by state_at) m s >>= λ x. more_rules 16 x.1) none ∙ many_full (refusal 11) (codes "state") (line_by state_at) s (more_rules 16) named
    full false k named =
        let more : 8 - n ≡ suc (8 - suc n) = (let low = leb-false 8 n k in omega arith) in
        ap (λ m. many_by (codes "state") (line_by state_at) m s >>= λ x. more_rules 16 x.1) more
        ∙ many_onward (refusal 11) (codes "state") (line_by state_at) (8 - suc n) s (more_rules 16) named
        ∙ line_onward state_at a lines finish (states (suc n)) (from_states (suc n)) refl

    by : (b : Bool) → says (codes "state") a.tokens ≡ b
        → from_states n s ≡ onward (cond b (cond (leb 8 n) (Err (refusal 11 a.line)) (moves (state_at a) (states (suc n)))) (rule_or_window 0 a)) (rest_of lines finish)
    by true named = full (leb 8 n) refl named
    by false absent = many_over (refusal 11) (codes "state") (line_by state_at) (8 - n) s (more_rules 16) absent ∙ rules_step a lines finish 0 (omega arith)

sets_step : (a : Ahead) (lines : List Ahead) (finish n : ℕ) → n ≤ 16 → from_rules n (rest_of (a ∷ lines) finish) ≡ onward (step (rules n) a) (rest_of lines finish)
unfolding sets_by
sets_step a lines finish n le = by (says (codes "set") a.tokens) refl
  where
    s : Rest
    s = rest_of (a ∷ lines) finish

    by : (b : Bool) → says (codes "set") a.tokens ≡ b → from_rules n s ≡ onward (cond b (moves (set_at a) (rules n)) (rule_or_window n a)) (rest_of lines finish)
    by true named =
        many_onward (refusal 11) (codes "set") (line_by set_at) (length lines) s (more_rules (16 - n)) named
        ∙ sets_line
      where
        sets_line : (line_by set_at s >>= λ x. many_by (codes "set") (line_by set_at) (length lines) x.1 >>= λ y. more_rules (16 - n) y.1) ≡ onward (moves (set_at a) (rules n)) (rest_of lines finish)
        sets_line = line_onward set_at a lines finish (rules n) (λ t. many_by (codes "set") (line_by set_at) (length lines) t >>= λ y. more_rules (16 - n) y.1) refl
    by false absent = many_over (refusal 11) (codes "set") (line_by set_at) (length (a ∷ lines)) s (more_rules (16 - n)) absent ∙ rules_step a lines finish n le

end_steps : (a : Ahead) (lines : List Ahead) (finish : ℕ) → from_rate (rest_of (a ∷ lines) finish) ≡ onward (cond (says (codes "end") a.tokens) (moves (end_at a) end) (Err (lacks 3 a))) (rest_of lines finish)
unfolding titled_by
end_steps a lines finish = by (says (codes "end") a.tokens)
  where
    by : (b : Bool) → (cond b (line_by end_at (rest_of (a ∷ lines) finish)) (Err (lacks 3 a)) >>= λ l. from_end l.1) ≡ onward (cond b (moves (end_at a) end) (Err (lacks 3 a))) (rest_of lines finish)
    by true = line_onward end_at a lines finish end from_end refl
    by false = refl

rate_steps : (a : Ahead) (lines : List Ahead) (finish : ℕ) → from_window (rest_of (a ∷ lines) finish) ≡ onward (step window a) (rest_of lines finish)
unfolding rate_by
rate_steps a lines finish = by (says (codes "rate") a.tokens)
  where
    s : Rest
    s = rest_of (a ∷ lines) finish

    some_then : (r : Lines RateLine) → on (r >>= a_rate) from_rate ≡ on r from_rate
    some_then (Ok x) = refl
    some_then (Err fault) = refl

    by : (b : Bool) → on (cond b (line_by titled_at s >>= a_rate) (no_rate s)) from_rate
        ≡ onward (cond b (moves (titled_at a) rate) (cond (says (codes "end") a.tokens) (moves (end_at a) end) (Err (lacks 3 a)))) (rest_of lines finish)
    by true = some_then (line_by titled_at s) ∙ line_onward titled_at a lines finish rate from_rate refl
    by false = end_steps a lines finish

behind_steps : (a : Ahead) (lines : List Ahead) (finish : ℕ) → from_end (rest_of (a ∷ lines) finish) ≡ onward (step end a) (rest_of lines finish)
unfolding nothing_left
behind_steps a lines finish = refl

-- a place that can be reached
abbrev pub IsPlace : Section → Type 0
IsPlace (states n) = n ≤ 8
IsPlace (rules n) = n ≤ 16
IsPlace window = Unit {0}
IsPlace rate = Unit {0}
IsPlace end = Unit {0}

-- reading does what the line does, and goes on from where it led
pub reading_steps : (at : Section) (a : Ahead) (lines : List Ahead) (finish : ℕ) → IsPlace at → reading at (rest_of (a ∷ lines) finish) ≡ onward (step at a) (rest_of lines finish)
reading_steps (states n) a lines finish le = states_step a lines finish n le
reading_steps (rules n) a lines finish le = sets_step a lines finish n le
reading_steps window a lines finish le = rate_steps a lines finish
reading_steps rate a lines finish le = end_steps a lines finish
reading_steps end a lines finish le = behind_steps a lines finish

-- ---- the text's end

rest_ended : (room finish : ℕ) → more_rules room (rest_of [] finish) ≡ Err (refusal 14 finish)
unfolding many_within titled_by
rest_ended zero finish = refl
rest_ended (suc room) finish = refl

states_ended : (room finish : ℕ) → (many_by (codes "state") (line_by state_at) room (rest_of [] finish) >>= λ x. more_rules 16 x.1) ≡ Err (refusal 14 finish)
unfolding many_within
states_ended zero finish = rest_ended 16 finish
states_ended (suc room) finish = rest_ended 16 finish

sets_ended : (n finish : ℕ) → from_rules n (rest_of [] finish) ≡ Err (refusal 14 finish)
unfolding sets_by many_within
sets_ended n finish = rest_ended (16 - n) finish

last_ended : (finish : ℕ) → from_rate (rest_of [] finish) ≡ Err (refusal 14 finish)
unfolding titled_by
last_ended finish = refl

window_ended : (finish : ℕ) → from_window (rest_of [] finish) ≡ Err (refusal 14 finish)
unfolding rate_by
window_ended finish = last_ended finish

pub ended_early : (at : Section) (finish : ℕ) → at ≢ end → reading at (rest_of [] finish) ≡ Err (refusal 14 finish)
ended_early (states n) finish before = states_ended (8 - n) finish
ended_early (rules n) finish before = sets_ended n finish
ended_early window finish before = window_ended finish
ended_early rate finish before = last_ended finish
ended_early end finish before = absurd (before refl)

pub ended_well : (finish : ℕ) → reading end (rest_of [] finish) ≡ Ok tt
unfolding nothing_left
ended_well finish = refl

-- ---- the whole

pub chained : {A B : Type 0} (r : Result A Refusal) (f : A → Result B Refusal) (k : B → Outcome) (g : A → Outcome) → ((x : A) → (f x >>= k) ≡ g x) → ((r >>= f) >>= k) ≡ (r >>= g)
chained (Ok x) f k g same = same x
chained (Err fault) f k g same = refl

then_all : (x : Sections) (r : Outcome) → ((r >>= λ done. Ok x) >>= λ y. Ok tt) ≡ r
then_all x (Ok done) = refl
then_all x (Err fault) = refl

-- the walk without the values is the reading
pub sections_walk : (s : Rest) → (sections_by s >>= λ x. Ok tt) ≡ reading (states 0) s
unfolding sections_by
sections_walk s =
    chained (many_by (codes "state") (line_by state_at) 8 s) _ _ _ (λ st.
    chained (many_by (codes "rule") rule_by 16 st.1) _ _ _ (λ ru.
    chained (titled_by (codes "window") titled_at ru.1) _ _ _ (λ wi.
    chained (rate_by wi.1) _ _ _ (λ ra.
    chained (titled_by (codes "end") end_at ra.1) _ _ _ (λ la.
    then_all (record { states = st.0; rules = ru.0; window = wi.0.expr; window_line = wi.0.line; rate = ra.0 }) (nothing_left la.1))))))
