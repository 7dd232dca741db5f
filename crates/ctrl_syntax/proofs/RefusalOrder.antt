-- The first refusal is the one that reading gives.
use Rattle.std.proofs.Common.{◌≡◌, ◌≢◌, ℕ, suc, ◌≤◌, ◌<◌, Bool, true, false, cond, leb, ◌⊎◌, ⊎_elim, inl, inr, Result, Ok, Err, List, [], ◌∷◌, refl, sym, ap, subst, ◌∙◌, arith}
use Rattle.std.specs.Prelude.{codes}
use Rattle.std.proofs.lemmas.Bool.{leb-true, leb-false}
use Rattle.text_lines.specs.Steps.{◌>>=◌}
use Rattle.whole.specs.declared.answers.Refusal.{Refusal}
use Rattle.source_text.specs.Tokens.{Token, word}
use Rattle.source_text.specs.Shown.{Ahead}
use Rattle.condition_syntax.specs.Fronts.{says}
use Rattle.condition_syntax.proofs.FrontLaws.{says_is}
use Rattle.ctrl_syntax.specs.Rest.{behind}
use Rattle.ctrl_syntax.specs.Refused.{Part, name, kind, said, bound, assigned, guard, expression, IsFront, LineGoes, Section, states, rules, window, rate, end, Allows, a_state, first_rule, next_rule, a_set, no_rules, a_window, a_rate, no_rate, an_end, Exceeds, states_full, rules_full, Refuses, malformed, too_many, stray, behind_end, FirstRefused, unfinished, here, further}
use Rattle.ctrl_syntax.specs.Reading.{refusal, rule_at, lacks, name_at, word_at, kind_at, bound_at, assign_at, expr_at, guard_at, done_at, state_at, head_at, set_at, titled_at, end_at}
use Rattle.ctrl_syntax.proofs.LinesAgain.{at}
use Rattle.ctrl_syntax.proofs.SectionsAgain.{rest_of}
use Rattle.ctrl_syntax.proofs.Places.{Outcome, reading, moves, step, onward, IsPlace, chained, reading_steps, ended_early, ended_well}
use Rattle.ctrl_syntax.proofs.PartRefusals.{absent_word, past_leb, err_is, onto, check, line_goes_reads, line_stops_fails, line_read_goes, line_read_stops}

-- ---- a line is read by its parts

onto_chained : {X B : Type 0} (r : Result (X × Ahead) Refusal) (f : X × Ahead → Result B Refusal) (k : B → Outcome) (g : Ahead → Outcome) → ((x : X × Ahead) → (f x >>= k) ≡ g x.1)
    → ((r >>= f) >>= k) ≡ (onto r >>= g)
onto_chained (Ok x) f k g same = same x
onto_chained (Err fault) f k g same = refl

-- dropping a line's value
abbrev pub drop : {X : Type 0} → Result X Refusal → Outcome
drop read = read >>= λ x. Ok tt

last_dropped : {X : Type 0} (x : X) (r : Outcome) → drop (r >>= λ done. Ok x) ≡ r
last_dropped x (Ok done) = refl
last_dropped x (Err fault) = refl

state_checked : (a : Ahead) → drop (state_at a) ≡ check (name 4 ∷ kind ∷ said (codes "init") 4 ∷ bound ∷ bound ∷ []) (behind a)
unfolding state_at
state_checked a =
    onto_chained (name_at 4 (behind a)) _ _ _ (λ n.
    onto_chained (kind_at n.1) _ _ _ (λ k.
    chained (word_at (codes "init") 4 k.1) _ _ _ (λ i.
    onto_chained (bound_at i) _ _ _ (λ lo.
    onto_chained (bound_at lo.1) _ _ _ (λ hi.
    last_dropped (record { name = n.0; count = k.0; lo = lo.0; hi = hi.0; line = a.line }) (done_at hi.1))))))

head_checked : (a : Ahead) → drop (head_at a) ≡ check (guard ∷ []) (behind a)
unfolding head_at
head_checked a = onto_chained (guard_at (behind a)) _ _ _ (λ g. last_dropped (g.0, a.line) (done_at g.1))

set_checked : (a : Ahead) → drop (set_at a) ≡ check (name 6 ∷ assigned ∷ expression ∷ []) (behind a)
unfolding set_at
set_checked a =
    onto_chained (name_at 6 (behind a)) _ _ _ (λ n.
    chained (assign_at n.1) _ _ _ (λ s.
    onto_chained (expr_at s) _ _ _ (λ ts.
    last_dropped (record { name = n.0; expr = record { terms = ts.0 }; line = a.line }) (done_at ts.1))))

titled_checked : (a : Ahead) → drop (titled_at a) ≡ check (expression ∷ []) (behind a)
unfolding titled_at
titled_checked a = onto_chained (expr_at (behind a)) _ _ _ (λ ts. last_dropped (record { expr = record { terms = ts.0 }; line = a.line }) (done_at ts.1))

dropped : (r : Outcome) → drop r ≡ r
dropped (Ok x) = refl
dropped (Err fault) = refl

end_checked : (a : Ahead) → drop (end_at a) ≡ check [] (behind a)
unfolding end_at
end_checked a = dropped (done_at (behind a))

moves_by : {X : Type 0} (r : Result X Refusal) (c : Outcome) (next : Section) → drop r ≡ c → moves r next ≡ moves c next
moves_by (Ok x) c next e = ap (λ (o : Outcome). moves o next) e
moves_by (Err fault) c next e = ap (λ (o : Outcome). moves o next) e

-- ---- the line words of a place

-- a line with a line word that may stand there moves on by its parts
allowed_steps : {p next : Section} {w : List ℕ} {ps : List Part} (line : ℕ) (tokens : List Token) → Allows p w ps next → step p (at line (word w ∷ tokens)) ≡ moves (check ps (at line tokens)) next
unfolding says
allowed_steps line tokens (a_state {n} lt) =
    ap (λ (b : Bool). cond b (Err (refusal 11 line)) (moves (state_at (at line (word (codes "state") ∷ tokens))) (states (suc n)))) (past_leb 8 n lt)
    ∙ moves_by (state_at (at line (word (codes "state") ∷ tokens))) _ (states (suc n)) (state_checked (at line (word (codes "state") ∷ tokens)))
allowed_steps line tokens first_rule = moves_by (head_at (at line (word (codes "rule") ∷ tokens))) _ (rules 1) (head_checked (at line (word (codes "rule") ∷ tokens)))
allowed_steps line tokens (next_rule {n} lt) =
    ap (λ (b : Bool). cond b (Err (refusal 11 line)) (moves (head_at (at line (word (codes "rule") ∷ tokens))) (rules (suc n)))) (past_leb 16 n lt)
    ∙ moves_by (head_at (at line (word (codes "rule") ∷ tokens))) _ (rules (suc n)) (head_checked (at line (word (codes "rule") ∷ tokens)))
allowed_steps line tokens (a_set {n}) = moves_by (set_at (at line (word (codes "set") ∷ tokens))) _ (rules n) (set_checked (at line (word (codes "set") ∷ tokens)))
allowed_steps line tokens no_rules = moves_by (titled_at (at line (word (codes "window") ∷ tokens))) _ window (titled_checked (at line (word (codes "window") ∷ tokens)))
allowed_steps line tokens a_window = moves_by (titled_at (at line (word (codes "window") ∷ tokens))) _ window (titled_checked (at line (word (codes "window") ∷ tokens)))
allowed_steps line tokens a_rate = moves_by (titled_at (at line (word (codes "rate") ∷ tokens))) _ rate (titled_checked (at line (word (codes "rate") ∷ tokens)))
allowed_steps line tokens no_rate = moves_by (end_at (at line (word (codes "end") ∷ tokens))) _ end (end_checked (at line (word (codes "end") ∷ tokens)))
allowed_steps line tokens an_end = moves_by (end_at (at line (word (codes "end") ∷ tokens))) _ end (end_checked (at line (word (codes "end") ∷ tokens)))

exceeded_steps : {p : Section} {w : List ℕ} (line : ℕ) (tokens : List Token) → Exceeds p w → step p (at line (word w ∷ tokens)) ≡ Err (refusal 11 line)
unfolding says
exceeded_steps line tokens states_full = refl
exceeded_steps line tokens rules_full = refl

-- what a line finds at its place
pub data Finds (p : Section) (a : Ahead) : Type 0 where
  allowed : {w : List ℕ} {ps : List Part} {next : Section} (tokens : List Token) → Allows p w ps next → a.tokens ≡ word w ∷ tokens → Finds p a
  exceeded : {w : List ℕ} (tokens : List Token) → Exceeds p w → a.tokens ≡ word w ∷ tokens → Finds p a
  strays : p ≢ end → ((w : List ℕ) (ps : List Part) (next : Section) → Allows p w ps next → says w a.tokens ≡ false) → ((w : List ℕ) → Exceeds p w → says w a.tokens ≡ false)
      → step p a ≡ Err (lacks 3 a) → Finds p a
  is_over : p ≡ end → Finds p a

-- at the limit, or below it
room_left : (n most : ℕ) → n ≤ most → (b : Bool) → leb most n ≡ b → (n < most) ⊎ (n ≡ most)
room_left n most le true e = let up = leb-true most n e in inr (omega arith)
room_left n most le false e = inl (leb-false most n e)

too_many_states : {n : ℕ} {w : List ℕ} (tokens : List Token) → Exceeds (states n) w → says (codes "state") tokens ≡ false → says w tokens ≡ false
too_many_states tokens states_full absent = absent

too_many_rules : {n : ℕ} {w : List ℕ} (tokens : List Token) → Exceeds (rules n) w → says (codes "rule") tokens ≡ false → says w tokens ≡ false
too_many_rules tokens rules_full absent = absent

-- a place at which a test of each line word failed
states_stray : (a : Ahead) (n : ℕ) → says (codes "state") a.tokens ≡ false → says (codes "rule") a.tokens ≡ false → says (codes "window") a.tokens ≡ false → Finds (states n) a
states_stray a n no_state no_rule no_window =
    strays (λ e. absurd (cc)) allows (λ w is. too_many_states a.tokens is no_state) (rw (no_state, no_rule, no_window) refl)
  where
    allows : (w : List ℕ) (ps : List Part) (next : Section) → Allows (states n) w ps next → says w a.tokens ≡ false
    allows w ps next (a_state lt) = no_state
    allows w ps next first_rule = no_rule
    allows w ps next no_rules = no_window

rules_stray : (a : Ahead) (n : ℕ) → says (codes "set") a.tokens ≡ false → says (codes "rule") a.tokens ≡ false → says (codes "window") a.tokens ≡ false → Finds (rules n) a
rules_stray a n no_set no_rule no_window =
    strays (λ e. absurd (cc)) allows (λ w is. too_many_rules a.tokens is no_rule) (rw (no_set, no_rule, no_window) refl)
  where
    allows : (w : List ℕ) (ps : List Part) (next : Section) → Allows (rules n) w ps next → says w a.tokens ≡ false
    allows w ps next (next_rule lt) = no_rule
    allows w ps next a_set = no_set
    allows w ps next a_window = no_window

window_stray : (a : Ahead) → says (codes "rate") a.tokens ≡ false → says (codes "end") a.tokens ≡ false → Finds window a
window_stray a no_rate_word no_end =
    strays (λ e. absurd (cc)) allows exceeds (rw (no_rate_word, no_end) refl)
  where
    allows : (w : List ℕ) (ps : List Part) (next : Section) → Allows window w ps next → says w a.tokens ≡ false
    allows w ps next a_rate = no_rate_word
    allows w ps next no_rate = no_end

    exceeds : (w : List ℕ) → Exceeds window w → says w a.tokens ≡ false
    exceeds w is = elim is [ ]

rate_stray : (a : Ahead) → says (codes "end") a.tokens ≡ false → Finds rate a
rate_stray a no_end =
    strays (λ e. absurd (cc)) allows exceeds (rw no_end refl)
  where
    allows : (w : List ℕ) (ps : List Part) (next : Section) → Allows rate w ps next → says w a.tokens ≡ false
    allows w ps next an_end = no_end

    exceeds : (w : List ℕ) → Exceeds rate w → says w a.tokens ≡ false
    exceeds w is = elim is [ ]

-- a test of a line word, one way or the other
tested : {p : Section} (a : Ahead) (w : List ℕ) → ((tokens : List Token) → a.tokens ≡ word w ∷ tokens → Finds p a) → (says w a.tokens ≡ false → Finds p a) → Finds p a
tested {p} a w present absent = by (says w a.tokens) refl
  where
    by : (b : Bool) → says w a.tokens ≡ b → Finds p a
    by true e = present _ (says_is w a.tokens e)
    by false e = absent e

state_found : (a : Ahead) (n : ℕ) (tokens : List Token) → n ≤ 8 → a.tokens ≡ word (codes "state") ∷ tokens → Finds (states n) a
state_found a n tokens le is = ⊎_elim (λ lt. allowed tokens (a_state lt) is) (λ full. exceeded tokens (subst (λ k. Exceeds (states k) (codes "state")) (sym full) states_full) is) (room_left n 8 le (leb 8 n) refl)

rule_found : (a : Ahead) (n : ℕ) (tokens : List Token) → n ≤ 16 → a.tokens ≡ word (codes "rule") ∷ tokens → Finds (rules n) a
rule_found a n tokens le is = ⊎_elim (λ lt. allowed tokens (next_rule lt) is) (λ full. exceeded tokens (subst (λ k. Exceeds (rules k) (codes "rule")) (sym full) rules_full) is) (room_left n 16 le (leb 16 n) refl)

pub finds : (p : Section) (a : Ahead) → IsPlace p → Finds p a
finds (states n) a le =
    tested a (codes "state") (λ tokens is. state_found a n tokens le is) (λ no_state.
    tested a (codes "rule") (λ tokens is. allowed tokens first_rule is) (λ no_rule.
    tested a (codes "window") (λ tokens is. allowed tokens no_rules is) (λ no_window.
    states_stray a n no_state no_rule no_window)))
finds (rules n) a le =
    tested a (codes "set") (λ tokens is. allowed tokens a_set is) (λ no_set.
    tested a (codes "rule") (λ tokens is. rule_found a n tokens le is) (λ no_rule.
    tested a (codes "window") (λ tokens is. allowed tokens a_window is) (λ no_window.
    rules_stray a n no_set no_rule no_window)))
finds window a le =
    tested a (codes "rate") (λ tokens is. allowed tokens a_rate is) (λ no_rate_word.
    tested a (codes "end") (λ tokens is. allowed tokens no_rate is) (λ no_end.
    window_stray a no_rate_word no_end))
finds rate a le = tested a (codes "end") (λ tokens is. allowed tokens an_end is) (λ no_end. rate_stray a no_end)
finds end a le = is_over refl

-- ---- one line

step_at : (p : Section) (a : Ahead) (tokens : List Token) → a.tokens ≡ tokens → step p a ≡ step p (at a.line tokens)
step_at p a tokens is = ap (λ (ts : List Token). step p (at a.line ts)) is

-- where the line's parts stand, the step leads on
further_steps : {p next : Section} {w : List ℕ} {ps : List Part} (a : Ahead) (tokens : List Token) → Allows p w ps next → a.tokens ≡ word w ∷ tokens → LineGoes ps tokens → step p a ≡ Ok next
further_steps {p} {next} {w} {ps} a tokens allows is stands =
    step_at p a (word w ∷ tokens) is ∙ allowed_steps a.line tokens allows ∙ ap (λ (o : Outcome). moves o next) (line_goes_reads a.line stands)

next_is_place : {p next : Section} {w : List ℕ} {ps : List Part} → Allows p w ps next → IsPlace p → IsPlace next
next_is_place (a_state lt) le = omega arith
next_is_place first_rule le = omega arith
next_is_place (next_rule lt) le = omega arith
next_is_place a_set le = le
next_is_place no_rules le = tt
next_is_place a_window le = tt
next_is_place a_rate le = tt
next_is_place no_rate le = tt
next_is_place an_end le = tt

-- a word that stands first
front_says : (w : List ℕ) (a : Ahead) (tokens : List Token) → a.tokens ≡ word w ∷ tokens → says w a.tokens ≡ false → ⊥
front_says w a tokens is absent = absent_word w a.tokens absent (tokens, is)

stray_fails : (p : Section) (a : Ahead) → IsPlace p → p ≢ end → ((w : List ℕ) (ps : List Part) (next : Section) → Allows p w ps next → IsFront (word w) a.tokens → ⊥)
    → ((w : List ℕ) → Exceeds p w → IsFront (word w) a.tokens → ⊥) → step p a ≡ Err (lacks 3 a)
stray_fails p a le before allows exceeds = by (finds p a le)
  where
    by : Finds p a → step p a ≡ Err (lacks 3 a)
    by (allowed {w} {ps} {next} tokens is there) = absurd (allows w ps next is (tokens, there))
    by (exceeded {w} tokens is there) = absurd (exceeds w is (tokens, there))
    by (strays after_all none_allowed none_exceeds e) = e
    by (is_over over) = absurd (before over)

lacks_is : (own : ℕ) (a : Ahead) → lacks own a ≡ refusal (rule_at own a.tokens) a.line
unfolding lacks
lacks_is own a = refl

refused_there : {p : Section} {tokens : List Token} {n : ℕ} (line : ℕ) → IsPlace p → Refuses p tokens n → step p (at line tokens) ≡ Err (refusal n line)
refused_there line le (malformed {at = p} {next} {w} {ps} {tokens} allows fails) = allowed_steps line tokens allows ∙ ap (λ (o : Outcome). moves o next) (line_stops_fails line fails)
refused_there line le (too_many {at = p} {w} {tokens} exceeds) = exceeded_steps line tokens exceeds
refused_there line le (stray {at = p} {tokens} before allows exceeds) =
    stray_fails p (at line tokens) le before allows exceeds ∙ ap (λ (r : Refusal). failing r) (lacks_is 3 (at line tokens))
  where
    failing : Refusal → Result Section Refusal
    failing r = Err r
refused_there line le behind_end = refl

-- ---- all lines

pub first_is_read : {finish : ℕ} {p : Section} {lines : List Ahead} {r : Refusal} → IsPlace p → FirstRefused finish p lines r → reading p (rest_of lines finish) ≡ Err r
first_is_read {finish} le (unfinished {at = p} before) = ended_early p finish before
first_is_read {finish} le (here {at = p} {a} {lines} refuses) =
    reading_steps p a lines finish le ∙ ap (λ (m : Result Section Refusal). onward m (rest_of lines finish)) (refused_there a.line le refuses)
first_is_read {finish} le (further {at = p} {next} {a} {lines} {w} {ps} {tokens} allows is stands others) =
    reading_steps p a lines finish le ∙ ap (λ (m : Result Section Refusal). onward m (rest_of lines finish)) (further_steps a tokens allows is stands)
    ∙ first_is_read (next_is_place allows le) others

-- what a line does, in the words of the refusals
data Does (p : Section) (a : Ahead) : Result Section Refusal → Type 0 where
  refuses : {n : ℕ} → Refuses p a.tokens n → Does p a (Err (refusal n a.line))
  leads : {next : Section} {w : List ℕ} {ps : List Part} {tokens : List Token} → Allows p w ps next → a.tokens ≡ word w ∷ tokens → LineGoes ps tokens → Does p a (Ok next)

by_parts : {p next : Section} {w : List ℕ} {ps : List Part} (a : Ahead) (tokens : List Token) → Allows p w ps next → a.tokens ≡ word w ∷ tokens → (o : Outcome) → check ps (at a.line tokens) ≡ o → Does p a (moves o next)
by_parts {p} {next} {w} {ps} a tokens allows is (Ok x) e = leads allows is (line_read_goes ps (at a.line tokens) x e)
by_parts {p} {next} {w} {ps} a tokens allows is (Err r) e =
    let stops = line_read_stops ps (at a.line tokens) r e in
    subst (λ (s : Refusal). Does p a (Err s)) (sym stops.is) (refuses (subst (λ (ts : List Token). Refuses p ts stops.number) (sym is) (malformed allows stops.stops_there)))

does : (p : Section) (a : Ahead) → Finds p a → Does p a (step p a)
does p a (allowed {w} {ps} {next} tokens allows is) =
    subst (Does p a) (sym (step_at p a (word w ∷ tokens) is ∙ allowed_steps a.line tokens allows)) (by_parts a tokens allows is (check ps (at a.line tokens)) refl)
does p a (exceeded {w} tokens exceeds is) =
    subst (Does p a) (sym (step_at p a (word w ∷ tokens) is ∙ exceeded_steps a.line tokens exceeds)) (refuses (subst (λ (ts : List Token). Refuses p ts 11) (sym is) (too_many exceeds)))
does p a (strays before allows exceeds e) =
    subst (Does p a) (sym e) (subst (λ (r : Refusal). Does p a (Err r)) (sym (lacks_is 3 a)) (refuses (stray before
    (λ w ps next is front. absent_word w a.tokens (allows w ps next is) front) (λ w is front. absent_word w a.tokens (exceeds w is) front))))
does p a (is_over over) = subst (λ (q : Section). Does q a (step q a)) (sym over) (refuses behind_end)

-- where the text ends before `end`
unfinished_at : (finish : ℕ) (p : Section) (r : Refusal) → p ≢ end → reading p (rest_of [] finish) ≡ Err r → FirstRefused finish p [] r
unfinished_at finish p r before e =
    subst (FirstRefused finish p []) (sym (err_is {A = Unit {0}} (refusal 14 finish) r (sym (ended_early p finish before) ∙ e))) (unfinished before)

text_ends : (finish : ℕ) (p : Section) (r : Refusal) → reading p (rest_of [] finish) ≡ Err r → FirstRefused finish p [] r
text_ends finish (states n) r e = unfinished_at finish (states n) r (λ h. absurd (cc)) e
text_ends finish (rules n) r e = unfinished_at finish (rules n) r (λ h. absurd (cc)) e
text_ends finish window r e = unfinished_at finish window r (λ h. absurd (cc)) e
text_ends finish rate r e = unfinished_at finish rate r (λ h. absurd (cc)) e
text_ends finish end r e = let done = ended_well finish in absurd (cc)

pub read_is_first : (finish : ℕ) (p : Section) (lines : List Ahead) (r : Refusal) → IsPlace p → reading p (rest_of lines finish) ≡ Err r → FirstRefused finish p lines r
read_is_first finish p [] r le e = text_ends finish p r e
read_is_first finish p (a ∷ lines) r le e =
    by (step p a) (does p a (finds p a le)) (sym (reading_steps p a lines finish le) ∙ e) (λ next is_place h. read_is_first finish next lines r is_place h)
  where
    by : (m : Result Section Refusal) → Does p a m → onward m (rest_of lines finish) ≡ Err r → ((next : Section) → IsPlace next → reading next (rest_of lines finish) ≡ Err r → FirstRefused finish next lines r)
        → FirstRefused finish p (a ∷ lines) r
    by m (refuses {n} is) h others = subst (FirstRefused finish p (a ∷ lines)) (sym (err_is {A = Unit {0}} (refusal n a.line) r h)) (here is)
    by m (leads {next} allows is stands) h others = further allows is stands (others next (next_is_place allows le) h)
