-- A line's value stands or is refused as its reading says.
use Rattle.std.proofs.Common.{◌≡◌, ℕ, ◌<◌, Bool, false, cond, leb, ⊎_elim, Option, None, Some, Result, Ok, Err, List, [], ◌∷◌, ◌++◌, refl, sym, ap, subst, ◌∙◌, arith}
use Rattle.std.specs.Prelude.{codes, ◌&&◌}
use Rattle.std.specs.Str.{bytes_eq}
use Rattle.std.proofs.lemmas.Bool.{leb-false, and_cases, and_left, and_right}
use Rattle.text_lines.specs.Steps.{◌>>=◌}
use Rattle.text_lines.proofs.StepLaws.{bind_ok, ok_is}
use Rattle.whole.specs.declared.answers.Pair.{Pair}
use Rattle.whole.specs.declared.answers.Refusal.{Refusal}
use Rattle.source_text.specs.Tokens.{Token, word, number, sign, wrong}
use Rattle.source_text.specs.Shown.{Ahead}
use Rattle.weighing.specs.declared.scales.Num.{Num}
use Rattle.condition_syntax.specs.declared.conditions.Style.TheVariants.{Question}
use Rattle.condition_syntax.specs.declared.faults.Fault.{Fault}
use Rattle.condition_syntax.specs.Fronts.{says}
use Rattle.condition_syntax.specs.RefusalRules.{rule, refused}
use Rattle.condition_syntax.specs.Expressions.{number_of}
use Rattle.condition_syntax.specs.Conditions.{condition_by}
use Rattle.condition_syntax.specs.Trees.{Condition}
use Rattle.condition_syntax.specs.Grammar.{IsNumber}
use Rattle.condition_syntax.proofs.ExpressionsTaken.{number_taken}
use Rattle.condition_syntax.proofs.ConditionsTaken.{condition_taken}
use Rattle.condition_syntax.proofs.ConditionsAgain.{condition_again}
use Rattle.condition_syntax.proofs.ConditionsRefused.{condition_refused}
use Rattle.condition_syntax.proofs.RefusedAgain.{condition_stops}
use Rattle.condition_syntax.proofs.ExpressionsAgain.{number_again}
use Rattle.ctrl_syntax.specs.Reading.{Part, rule_at}
use Rattle.ctrl_syntax.specs.Refused.{IsFront, NoNumber}
use Rattle.ctrl_syntax.proofs.LinesAgain.{at}
use Rattle.ctrl_syntax.proofs.PartRefusals.{absent_word, not_said, past_leb, onto, onto_ok, onto_err, large_number, number_err, none_within, err_is, test_failed}
use Rattle.question_syntax.specs.Grammar.{SpellsCount, count as a_number, pair_of, SpellsRate, rate as some_rate, SpellsBuffer, no_buffer as spelled_none, buffer as some_buffer}
use Rattle.question_syntax.specs.Reading.{refusal, lacks, count_at, positive, rate_at, buffer_at, condition_at, nothing_at, done_or, done_at}
use Rattle.question_syntax.specs.Refused.{Value, count, rate, buffer, condition, nothing, Goes, a_count, a_rate, no_buffer, a_buffer, a_condition, nowhere, NoDigits, IsLarge, Stops, no_count, too_small, too_great, no_rate, large_rate, zero_rate, neither, large_buffer, no_condition, ValueStops, stops, left}
use Rattle.question_syntax.proofs.ValuesTaken.{refused_ok, count_taken, rate_taken, buffer_taken, nothing_taken, done_taken}
use Rattle.question_syntax.proofs.LinesAgain.{count_there, rate_there, none_there, buffer_there, done_again}

-- a value, read for the place behind it
abbrev pub value_at : Value → Ahead → Result Ahead Refusal
value_at (count low high) a = onto (count_at low high a)
value_at rate a = onto (rate_at a)
value_at buffer a = onto (buffer_at a)
value_at condition a = onto (condition_at a)
value_at nothing a = onto (nothing_at a)

-- ---- a value that stands is read

condition_goes : (line : ℕ) (tokens rest : List Token) (c : Condition) → condition_by Question tokens ≡ Ok (c, rest) → onto (condition_at (at line tokens)) ≡ Ok (at line rest)
unfolding condition_at
condition_goes line tokens rest c e = ap (λ r. onto (refused Question line r >>= λ x. Ok (x.0, at line x.1))) e

nothing_goes : (line : ℕ) (tokens : List Token) → onto (nothing_at (at line tokens)) ≡ Ok (at line tokens)
unfolding nothing_at
nothing_goes line tokens = refl

pub goes_reads : {v : Value} {tokens rest : List Token} (line : ℕ) → Goes v tokens rest → value_at v (at line tokens) ≡ Ok (at line rest)
goes_reads line (a_count {low} {high} {n} {rest} from to) = ap onto (count_there low high line n rest from to)
goes_reads line (a_rate {rest = rest} is from) = ap onto (rate_there line rest is from)
goes_reads line (no_buffer {rest}) = ap onto (none_there line rest)
goes_reads line (a_buffer {rest = rest} is) = ap onto (buffer_there line rest is)
goes_reads line (a_condition {tokens} {rest} {c} t) = condition_goes line tokens rest c (ap (condition_by Question) t.parts ∙ condition_again Question t.front c rest t.spelled t.ends)
goes_reads line (nowhere {tokens}) = nothing_goes line tokens

-- ---- a value that is refused isn't read

no_count_fails : (low high line : ℕ) (tokens : List Token) → NoDigits tokens → count_at low high (at line tokens) ≡ Err (refusal (rule_at 4 tokens) line)
unfolding count_at lacks
no_count_fails low high line [] none = refl
no_count_fails low high line (word w ∷ tokens) none = refl
no_count_fails low high line (number n None ∷ tokens) none = absurd (none n (tokens, refl))
no_count_fails low high line (number n (Some d) ∷ tokens) none = refl
no_count_fails low high line (sign s ∷ tokens) none = refl
no_count_fails low high line (wrong ∷ tokens) none = refl

out_of_range : (low high line n : ℕ) (rest : List Token) → (leb low n && leb n high) ≡ false → count_at low high (at line (number n None ∷ rest)) ≡ Err (refusal 6 line)
unfolding count_at
out_of_range low high line n rest e = ap (λ (b : Bool). cond b (Ok (n, at line rest)) (Err (refusal 6 line))) e

no_rate_fails : (line : ℕ) (tokens : List Token) → NoNumber tokens → rate_at (at line tokens) ≡ Err (refusal (rule_at 4 tokens) line)
unfolding rate_at lacks
no_rate_fails line [] none = refl
no_rate_fails line (word w ∷ tokens) none = refl
no_rate_fails line (number n d ∷ tokens) none = absurd (none n d (tokens, refl))
no_rate_fails line (sign s ∷ tokens) none = refl
no_rate_fails line (wrong ∷ tokens) none = refl

-- what a rate's number is read as
abbrev pub rate_of : ℕ → ℕ → List Token → Result Num Fault → Part Pair
rate_of line n tokens r = refused Question line r >>= λ q. positive n q (at line tokens)

large_rate_fails : (line n : ℕ) (d : Option ℕ) (rest : List Token) → IsLarge n d → rate_at (at line (number n d ∷ rest)) ≡ Err (refusal 5 line)
unfolding rate_at
large_rate_fails line n d rest large = ap (rate_of line n (number n d ∷ rest)) (large_number n d large)

zero_rate_fails : (line : ℕ) (d : Option ℕ) (q : Num) (rest : List Token) → IsNumber 0 d q → rate_at (at line (number 0 d ∷ rest)) ≡ Err (refusal 6 line)
unfolding rate_at
zero_rate_fails line d q rest is = ap (rate_of line 0 (number 0 d ∷ rest)) (number_again 0 d q is)

none_fails : (line : ℕ) (w : List ℕ) (tokens : List Token) → says (codes "none") (word w ∷ tokens) ≡ false → buffer_at (at line (word w ∷ tokens)) ≡ Err (refusal 4 line)
unfolding buffer_at lacks says
none_fails line w tokens e = ap (λ (b : Bool). cond b (Ok (None, at line tokens)) (Err (refusal 4 line))) e

neither_fails : (line : ℕ) (tokens : List Token) → NoNumber tokens → (IsFront (word (codes "none")) tokens → ⊥) → buffer_at (at line tokens) ≡ Err (refusal (rule_at 4 tokens) line)
unfolding buffer_at lacks
neither_fails line [] none absent = refl
neither_fails line (word w ∷ tokens) none absent = none_fails line w tokens (not_said (codes "none") (word w ∷ tokens) absent)
neither_fails line (number n d ∷ tokens) none absent = absurd (none n d (tokens, refl))
neither_fails line (sign s ∷ tokens) none absent = refl
neither_fails line (wrong ∷ tokens) none absent = refl

-- what a buffer's number is read as
abbrev pub buffer_of : ℕ → List Token → Result Num Fault → Part (Option Pair)
buffer_of line rest r = refused Question line r >>= λ q. Ok (Some (pair_of q), at line rest)

large_buffer_fails : (line n : ℕ) (d : Option ℕ) (rest : List Token) → IsLarge n d → buffer_at (at line (number n d ∷ rest)) ≡ Err (refusal 5 line)
unfolding buffer_at
large_buffer_fails line n d rest large = ap (buffer_of line rest) (large_number n d large)

no_condition_fails : (line : ℕ) (tokens : List Token) (fault : Fault) → condition_by Question tokens ≡ Err fault → condition_at (at line tokens) ≡ Err (refusal (rule Question fault) line)
unfolding condition_at
no_condition_fails line tokens fault e = ap (λ r. refused Question line r >>= λ x. Ok (x.0, at line x.1)) e

pub stops_fails : {v : Value} {tokens : List Token} {n : ℕ} (line : ℕ) → Stops v tokens n → value_at v (at line tokens) ≡ Err (refusal n line)
stops_fails line (no_count {low} {high} {tokens} none) = ap onto (no_count_fails low high line tokens none)
stops_fails line (too_small {low} {high} {n} {rest} lt) = ap onto (out_of_range low high line n rest (and_left (leb low n) (leb n high) (past_leb low n lt)))
stops_fails line (too_great {low} {high} {n} {rest} lt) = ap onto (out_of_range low high line n rest (and_right (leb low n) (leb n high) (past_leb n high lt)))
stops_fails line (no_rate {tokens} none) = ap onto (no_rate_fails line tokens none)
stops_fails line (large_rate {n} {d} {rest} large) = ap onto (large_rate_fails line n d rest large)
stops_fails line (zero_rate {d} {q} {rest} is) = ap onto (zero_rate_fails line d q rest is)
stops_fails line (neither {tokens} none absent) = ap onto (neither_fails line tokens none absent)
stops_fails line (large_buffer {n} {d} {rest} large) = ap onto (large_buffer_fails line n d rest large)
stops_fails line (no_condition {tokens} {fault} e) = ap onto (no_condition_fails line tokens fault (condition_stops Question tokens fault e))

-- ---- what is read stands

-- the value stands before the place that its reading leaves
pub record GoesTo (v : Value) (a b : Ahead) : Type 0 where
  pub there : Goes v a.tokens b.tokens
  pub line : b.line ≡ a.line

count_stands : {low high n : ℕ} {front : List Token} (rest : List Token) → SpellsCount low high front n → Goes (count low high) (front ++ rest) rest
count_stands rest (a_number from to) = a_count from to

rate_stands : {front : List Token} {p : Pair} (rest : List Token) → SpellsRate front p → Goes rate (front ++ rest) rest
rate_stands rest (some_rate is from) = a_rate is from

buffer_stands : {front : List Token} {p : Option Pair} (rest : List Token) → SpellsBuffer front p → Goes buffer (front ++ rest) rest
buffer_stands rest spelled_none = no_buffer
buffer_stands rest (some_buffer is) = a_buffer is

condition_read_goes : (a : Ahead) (x : Condition × Ahead) → condition_at a ≡ Ok x → GoesTo condition a x.1
unfolding condition_at
condition_read_goes a x e =
    let c = bind_ok (refused Question a.line (condition_by Question a.tokens)) (λ c. Ok (c.0, at a.line c.1)) x e in
    subst (λ (y : Condition × Ahead). GoesTo condition a y.1) (ok_is {E = Refusal} (c.0.0, at a.line c.0.1) x c.2)
    (record { there = a_condition (condition_taken Question a.tokens c.0 (refused_ok a.line (condition_by Question a.tokens) c.0 c.1)); line = refl })

pub read_goes : (v : Value) (a b : Ahead) → value_at v a ≡ Ok b → GoesTo v a b
read_goes (count low high) a b e =
    let r = onto_ok (count_at low high a) b e in
    let t = count_taken low high a (r.value, b) r.was_read in
    record { there = subst (λ (ts : List Token). Goes (count low high) ts b.tokens) (sym t.between.parts) (count_stands b.tokens t.spelled); line = t.between.line }
read_goes rate a b e =
    let r = onto_ok (rate_at a) b e in
    let t = rate_taken a (r.value, b) r.was_read in
    record { there = subst (λ (ts : List Token). Goes rate ts b.tokens) (sym t.between.parts) (rate_stands b.tokens t.spelled); line = t.between.line }
read_goes buffer a b e =
    let r = onto_ok (buffer_at a) b e in
    let t = buffer_taken a (r.value, b) r.was_read in
    record { there = subst (λ (ts : List Token). Goes buffer ts b.tokens) (sym t.between.parts) (buffer_stands b.tokens t.spelled); line = t.between.line }
read_goes condition a b e =
    let r = onto_ok (condition_at a) b e in
    condition_read_goes a (r.value, b) r.was_read
read_goes nothing a b e =
    let r = onto_ok (nothing_at a) b e in
    let t = nothing_taken a (r.value, b) r.was_read in
    record { there = subst (λ (ts : List Token). Goes nothing ts b.tokens) (sym (t.between.parts ∙ ap (λ (f : List Token). f ++ b.tokens) t.spelled)) nowhere; line = t.between.line }

-- ---- what isn't read is refused

-- the value is refused by a rule
pub record StopsAt (v : Value) (a : Ahead) (r : Refusal) : Type 0 where
  pub number : ℕ
  pub there : Stops v a.tokens number
  pub is : r ≡ refusal number a.line

stops_here : (v : Value) (a : Ahead) (r : Refusal) (n : ℕ) (tokens : List Token) → a.tokens ≡ tokens → Stops v tokens n → r ≡ refusal n a.line → StopsAt v a r
stops_here v a r n tokens is there same = record { number = n; there = subst (λ (ts : List Token). Stops v ts n) (sym is) there; is = same }

count_stops : (low high : ℕ) (a : Ahead) (tokens : List Token) (r : Refusal) → a.tokens ≡ tokens → count_at low high (at a.line tokens) ≡ Err r → StopsAt (count low high) a r
unfolding count_at lacks
count_stops low high a [] r is e = stops_here (count low high) a r 4 [] is (no_count (λ n front. let h = front.1 in absurd (cc))) (err_is _ _ e)
count_stops low high a (word w ∷ tokens) r is e = stops_here (count low high) a r 4 (word w ∷ tokens) is (no_count (λ n front. let h = front.1 in absurd (cc))) (err_is _ _ e)
count_stops low high a (number n None ∷ tokens) r is e =
    let t = test_failed (leb low n && leb n high) (n, at a.line tokens) r (refusal 6 a.line) e in
    stops_here (count low high) a r 6 (number n None ∷ tokens) is (⊎_elim small great (and_cases (leb low n) (leb n high) t.0)) t.1
  where
    small : leb low n ≡ false → Stops (count low high) (number n None ∷ tokens) 6
    small under = too_small (leb-false low n under)

    great : leb n high ≡ false → Stops (count low high) (number n None ∷ tokens) 6
    great over = too_great (leb-false n high over)
count_stops low high a (number n (Some d) ∷ tokens) r is e =
    stops_here (count low high) a r 4 (number n (Some d) ∷ tokens) is (no_count (λ m front. let h = front.1 in absurd (cc))) (err_is _ _ e)
count_stops low high a (sign s ∷ tokens) r is e = stops_here (count low high) a r 4 (sign s ∷ tokens) is (no_count (λ n front. let h = front.1 in absurd (cc))) (err_is _ _ e)
count_stops low high a (wrong ∷ tokens) r is e = stops_here (count low high) a r 2 (wrong ∷ tokens) is (no_count (λ n front. let h = front.1 in absurd (cc))) (err_is _ _ e)

zero_stops : (n : ℕ) (d : Option ℕ) (q : Num) (tokens : List Token) → n < 1 → IsNumber n d q → Stops rate (number n d ∷ tokens) 6
zero_stops n d q tokens lt is =
    let none : n ≡ 0 = omega arith in
    subst (λ m. Stops rate (number m d ∷ tokens) 6) (sym none) (zero_rate (subst (λ m. IsNumber m d q) none is))

rate_number_stops : (a : Ahead) (n : ℕ) (d : Option ℕ) (tokens : List Token) (r : Refusal) → a.tokens ≡ number n d ∷ tokens → (num : Result Num Fault) → number_of n d ≡ num
    → rate_of a.line n (number n d ∷ tokens) num ≡ Err r → StopsAt rate a r
rate_number_stops a n d tokens r is (Ok q) was e =
    let t = test_failed (leb 1 n) (pair_of q, at a.line tokens) r (refusal 6 a.line) e in
    stops_here rate a r 6 (number n d ∷ tokens) is (zero_stops n d q tokens (leb-false 1 n t.0) (number_taken n d q was)) t.1
rate_number_stops a n d tokens r is (Err fault) was e =
    stops_here rate a r 5 (number n d ∷ tokens) is (large_rate (none_within n d fault was)) (err_is _ _ e ∙ ap (λ f. refusal (rule Question f) a.line) (sym (number_err n d fault was)))

rate_stops : (a : Ahead) (tokens : List Token) (r : Refusal) → a.tokens ≡ tokens → rate_at (at a.line tokens) ≡ Err r → StopsAt rate a r
unfolding rate_at lacks
rate_stops a [] r is e = stops_here rate a r 4 [] is (no_rate (λ n d front. let h = front.1 in absurd (cc))) (err_is _ _ e)
rate_stops a (word w ∷ tokens) r is e = stops_here rate a r 4 (word w ∷ tokens) is (no_rate (λ n d front. let h = front.1 in absurd (cc))) (err_is _ _ e)
rate_stops a (number n d ∷ tokens) r is e = rate_number_stops a n d tokens r is (number_of n d) refl e
rate_stops a (sign s ∷ tokens) r is e = stops_here rate a r 4 (sign s ∷ tokens) is (no_rate (λ n d front. let h = front.1 in absurd (cc))) (err_is _ _ e)
rate_stops a (wrong ∷ tokens) r is e = stops_here rate a r 2 (wrong ∷ tokens) is (no_rate (λ n d front. let h = front.1 in absurd (cc))) (err_is _ _ e)

buffer_number_stops : (a : Ahead) (n : ℕ) (d : Option ℕ) (tokens : List Token) (r : Refusal) → a.tokens ≡ number n d ∷ tokens → (num : Result Num Fault) → number_of n d ≡ num
    → buffer_of a.line tokens num ≡ Err r → StopsAt buffer a r
buffer_number_stops a n d tokens r is (Ok q) was e = absurd (cc)
buffer_number_stops a n d tokens r is (Err fault) was e =
    stops_here buffer a r 5 (number n d ∷ tokens) is (large_buffer (none_within n d fault was)) (err_is _ _ e ∙ ap (λ f. refusal (rule Question f) a.line) (sym (number_err n d fault was)))

not_none : (w : List ℕ) (tokens : List Token) → bytes_eq w (codes "none") ≡ false → says (codes "none") (word w ∷ tokens) ≡ false
unfolding says
not_none w tokens e = e

buffer_stops : (a : Ahead) (tokens : List Token) (r : Refusal) → a.tokens ≡ tokens → buffer_at (at a.line tokens) ≡ Err r → StopsAt buffer a r
unfolding buffer_at lacks
buffer_stops a [] r is e = stops_here buffer a r 4 [] is (neither (λ n d front. let h = front.1 in absurd (cc)) (λ front. let h = front.1 in absurd (cc))) (err_is _ _ e)
buffer_stops a (word w ∷ tokens) r is e =
    let t = test_failed (bytes_eq w (codes "none")) (None, at a.line tokens) r (refusal 4 a.line) e in
    stops_here buffer a r 4 (word w ∷ tokens) is (neither (λ n d front. let h = front.1 in absurd (cc)) (absent_word (codes "none") (word w ∷ tokens) (not_none w tokens t.0))) t.1
buffer_stops a (number n d ∷ tokens) r is e = buffer_number_stops a n d tokens r is (number_of n d) refl e
buffer_stops a (sign s ∷ tokens) r is e = stops_here buffer a r 4 (sign s ∷ tokens) is (neither (λ n d front. let h = front.1 in absurd (cc)) (λ front. let h = front.1 in absurd (cc))) (err_is _ _ e)
buffer_stops a (wrong ∷ tokens) r is e = stops_here buffer a r 2 (wrong ∷ tokens) is (neither (λ n d front. let h = front.1 in absurd (cc)) (λ front. let h = front.1 in absurd (cc))) (err_is _ _ e)

-- what a condition is read as
abbrev pub condition_read : ℕ → Result (Condition × List Token) Fault → Part Condition
condition_read line r = refused Question line r >>= λ x. Ok (x.0, at line x.1)

condition_result_stops : (a : Ahead) (r : Refusal) (read : Result (Condition × List Token) Fault) → condition_by Question a.tokens ≡ read → condition_read a.line read ≡ Err r → StopsAt condition a r
condition_result_stops a r (Ok c) was e = absurd (cc)
condition_result_stops a r (Err fault) was e = record { number = rule Question fault; there = no_condition (condition_refused Question a.tokens fault was); is = err_is _ _ e }

value_condition_stops : (a : Ahead) (r : Refusal) → condition_at a ≡ Err r → StopsAt condition a r
unfolding condition_at
value_condition_stops a r e = condition_result_stops a r (condition_by Question a.tokens) refl e

nothing_never : (a : Ahead) (r : Refusal) → nothing_at a ≡ Err r → StopsAt nothing a r
unfolding nothing_at
nothing_never a r e = absurd (cc)

pub read_stops : (v : Value) (a : Ahead) (r : Refusal) → value_at v a ≡ Err r → StopsAt v a r
read_stops (count low high) a r e = count_stops low high a a.tokens r refl (onto_err (count_at low high a) r e)
read_stops rate a r e = rate_stops a a.tokens r refl (onto_err (rate_at a) r e)
read_stops buffer a r e = buffer_stops a a.tokens r refl (onto_err (buffer_at a) r e)
read_stops condition a r e = value_condition_stops a r (onto_err (condition_at a) r e)
read_stops nothing a r e = nothing_never a r (onto_err (nothing_at a) r e)

-- ---- up to the line's end

abbrev pub check : Value → Ahead → Result (Unit {0}) Refusal
check v a = value_at v a >>= done_at

token_left : (line : ℕ) (t : Token) (tokens : List Token) → done_at (at line (t ∷ tokens)) ≡ Err (refusal (rule_at 10 (t ∷ tokens)) line)
unfolding done_at lacks
token_left line t tokens = refl

pub goes_checks : {v : Value} {tokens : List Token} (line : ℕ) → Goes v tokens [] → check v (at line tokens) ≡ Ok tt
goes_checks line is = ap (λ r. r >>= done_at) (goes_reads line is) ∙ done_again line

pub stops_checks : {v : Value} {tokens : List Token} {n : ℕ} (line : ℕ) → ValueStops v tokens n → check v (at line tokens) ≡ Err (refusal n line)
stops_checks line (stops is) = ap (λ r. r >>= done_at) (stops_fails line is)
stops_checks line (left {t} {tokens} {rest} is) = ap (λ r. r >>= done_at) (goes_reads line is) ∙ token_left line t rest

pub checked_goes : (v : Value) (a : Ahead) (x : Unit {0}) → check v a ≡ Ok x → Goes v a.tokens []
checked_goes v a x e =
    let b = bind_ok (value_at v a) done_at x e in
    let g = read_goes v a b.0 b.1 in
    subst (Goes v a.tokens) (done_taken b.0 x b.2) g.there

-- behind its word the line is refused by a rule
pub record CheckStops (v : Value) (a : Ahead) (r : Refusal) : Type 0 where
  pub number : ℕ
  pub there : ValueStops v a.tokens number
  pub is : r ≡ refusal number a.line

some_left : (v : Value) (a b : Ahead) (tokens : List Token) (r : Refusal) → GoesTo v a b → b.tokens ≡ tokens → done_or b tokens ≡ Err r → CheckStops v a r
unfolding lacks
some_left v a b [] r g is e = absurd (cc)
some_left v a b (t ∷ tokens) r g is e = record {
  number = rule_at 10 (t ∷ tokens);
  there = left (subst (Goes v a.tokens) is g.there);
  is = err_is _ _ e ∙ ap (λ (ts : List Token). refusal (rule_at 10 ts) b.line) is ∙ ap (refusal (rule_at 10 (t ∷ tokens))) g.line;
}

done_stops : (v : Value) (a b : Ahead) (r : Refusal) → GoesTo v a b → done_at b ≡ Err r → CheckStops v a r
unfolding done_at
done_stops v a b r g e = some_left v a b b.tokens r g refl e

pub checked_stops : (v : Value) (a : Ahead) (r : Refusal) → check v a ≡ Err r → CheckStops v a r
checked_stops v a r e = by (value_at v a) refl e
  where
    by : (read : Result Ahead Refusal) → value_at v a ≡ read → (read >>= done_at) ≡ Err r → CheckStops v a r
    by (Ok b) was h = done_stops v a b r (read_goes v a b was) h
    by (Err s) was h =
        let there = read_stops v a s was in
        record { number = there.number; there = stops there.there; is = err_is {A = Unit {0}} s r h ∙ there.is }
