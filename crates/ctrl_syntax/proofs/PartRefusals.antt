-- A part of a line stands or is refused as its reading says, and so do the parts of a whole line.
use Rattle.std.proofs.Common.{◌≡◌, ℕ, ◌<◌, Bool, true, false, cond, leb, ⊎_elim, Option, None, Some, Result, Ok, Err, List, [], ◌∷◌, ◌++◌, length, refl, sym, ap, subst, ◌∙◌, arith}
use Rattle.std.specs.Prelude.{codes, unwrap_or}
use Rattle.std.proofs.lemmas.Bool.{leb-true, leb-false}
use Rattle.text_lines.specs.Steps.{◌>>=◌}
use Rattle.text_lines.proofs.StepLaws.{bind_ok, ok_is}
use Rattle.whole.specs.declared.answers.Refusal.{Refusal}
use Rattle.source_text.specs.declared.lexemes.Sign.{Sign}
use Rattle.source_text.specs.declared.lexemes.Sign.TheVariants.{Assign, Minus}
use Rattle.source_text.specs.Tokens.{Token, word, number, sign, wrong, after}
use Rattle.source_text.specs.Shown.{Ahead}
use Rattle.weighing.specs.declared.scales.Num.{Num}
use Rattle.condition_syntax.specs.declared.conditions.Style.TheVariants.{Controller}
use Rattle.condition_syntax.specs.declared.expressions.ETerm.{ETerm}
use Rattle.condition_syntax.specs.declared.faults.Fault.{Fault}
use Rattle.condition_syntax.specs.declared.faults.Fault.TheVariants.{Number}
use Rattle.condition_syntax.specs.RefusalRules.{rule}
use Rattle.condition_syntax.specs.Fronts.{stands, says}
use Rattle.condition_syntax.specs.Words.{fraction, signed}
use Rattle.condition_syntax.specs.Expressions.{number_of, is_within, expr_by}
use Rattle.condition_syntax.specs.Conditions.{condition_by}
use Rattle.condition_syntax.specs.Trees.{Condition}
use Rattle.condition_syntax.specs.Grammar.{IsNumber, SpellsExpr, SpellsCond}
use Rattle.condition_syntax.specs.Ends.{Taken, EndsExpr, EndsCond}
use Rattle.condition_syntax.proofs.FrontLaws.{chosen, guard_ok, stands_is, stands_there, says_is, says_there}
use Rattle.condition_syntax.proofs.ExpressionsTaken.{number_taken, expr_taken}
use Rattle.condition_syntax.proofs.ExpressionsAgain.{number_again, expr_again}
use Rattle.condition_syntax.proofs.ConditionsTaken.{condition_taken}
use Rattle.condition_syntax.proofs.ConditionsAgain.{condition_again}
use Rattle.condition_syntax.proofs.RefusedFrom.{expr_refused}
use Rattle.condition_syntax.proofs.ConditionsRefused.{condition_refused}
use Rattle.condition_syntax.proofs.RefusedAgain.{expr_stops, condition_stops}
use Rattle.ctrl_syntax.specs.Rest.{behind}
use Rattle.ctrl_syntax.specs.Grammar.{kind_word}
use Rattle.ctrl_syntax.specs.Refused.{Part, name, kind, said, bound, assigned, guard, expression, Goes, a_name, a_kind, a_word, a_bound, a_sign, otherwise, when, a_sum, IsFront, NoWord, NoNumber, Stops, no_name, long_name, no_kind, no_word, no_bound, no_size, large_bound, large_size, no_sign, no_guard, no_condition, no_sum, LineGoes, ends, goes, LineStops, left, stops, goes_on}
use Rattle.ctrl_syntax.specs.Reading.{refusal, rule_at, lacks, placed, expr_at, condition_at, name_at, word_at, kind_at, number_at, bound_at, assign_at, done_or, done_at, guarded, guard_at}
use Rattle.ctrl_syntax.proofs.PartsTaken.{placed_ok, name_reads, word_reads, assign_reads, kind_reads, bound_reads}
use Rattle.ctrl_syntax.proofs.LinesAgain.{at, name_again, word_again, kind_again, bound_again, assign_again}

-- ---- what stands first

-- a test that failed
pub absent_word : (w : List ℕ) (tokens : List Token) → says w tokens ≡ false → IsFront (word w) tokens → ⊥
absent_word w tokens e front = let there : says w tokens ≡ true = ap (says w) front.1 ∙ says_there w front.0 in absurd (cc)

absent_sign : (s : Sign) (tokens : List Token) → stands s tokens ≡ false → IsFront (sign s) tokens → ⊥
absent_sign s tokens e front = let there : stands s tokens ≡ true = ap (stands s) front.1 ∙ stands_there s front.0 in absurd (cc)

-- what doesn't stand there isn't found there
pub not_said : (w : List ℕ) (tokens : List Token) → (IsFront (word w) tokens → ⊥) → says w tokens ≡ false
not_said w tokens absent = by (says w tokens) refl
  where
    by : (b : Bool) → says w tokens ≡ b → b ≡ false
    by false e = refl
    by true e = absurd (absent (after tokens, says_is w tokens e))

not_signed : (s : Sign) (tokens : List Token) → (IsFront (sign s) tokens → ⊥) → stands s tokens ≡ false
not_signed s tokens absent = by (stands s tokens) refl
  where
    by : (b : Bool) → stands s tokens ≡ b → b ≡ false
    by false e = refl
    by true e = absurd (absent (after tokens, stands_is s tokens e))

-- ---- a part, read for the place behind it

abbrev pub onto : {X : Type 0} → Result (X × Ahead) Refusal → Result Ahead Refusal
onto read = read >>= λ x. Ok x.1

abbrev pub part_at : Part → Ahead → Result Ahead Refusal
part_at (name own) a = onto (name_at own a)
part_at kind a = onto (kind_at a)
part_at (said w own) a = word_at w own a
part_at bound a = onto (bound_at a)
part_at assigned a = assign_at a
part_at guard a = onto (guard_at a)
part_at expression a = onto (expr_at a)

-- ---- a part that stands is read

when_by : (line : ℕ) (tokens rest : List Token) (c : Condition) → condition_by Controller tokens ≡ Ok (c, rest) → onto (guard_at (at line (word (codes "when") ∷ tokens))) ≡ Ok (at line rest)
unfolding guard_at says condition_at
when_by line tokens rest c e = ap (λ r. onto (guarded (placed line r))) e

when_reads : (line : ℕ) (tokens rest : List Token) (c : Condition) → Taken (SpellsCond Controller) (EndsCond Controller) tokens (c, rest) → onto (guard_at (at line (word (codes "when") ∷ tokens))) ≡ Ok (at line rest)
when_reads line tokens rest c t = when_by line tokens rest c (ap (condition_by Controller) t.parts ∙ condition_again Controller t.front c rest t.spelled t.ends)

otherwise_reads : (line : ℕ) (rest : List Token) → onto (guard_at (at line (word (codes "otherwise") ∷ rest))) ≡ Ok (at line rest)
unfolding guard_at says
otherwise_reads line rest = refl

sum_by : (line : ℕ) (tokens rest : List Token) (ts : List ETerm) → expr_by Controller tokens ≡ Ok (ts, rest) → onto (expr_at (at line tokens)) ≡ Ok (at line rest)
unfolding expr_at
sum_by line tokens rest ts e = ap (λ r. onto (placed line r)) e

sum_reads : (line : ℕ) (tokens rest : List Token) (ts : List ETerm) → Taken (SpellsExpr Controller) (EndsExpr Controller) tokens (ts, rest) → onto (expr_at (at line tokens)) ≡ Ok (at line rest)
sum_reads line tokens rest ts t = sum_by line tokens rest ts (ap (expr_by Controller) t.parts ∙ expr_again rest t.spelled t.ends)

pub goes_reads : {p : Part} {tokens rest : List Token} (line : ℕ) → Goes p tokens rest → part_at p (at line tokens) ≡ Ok (at line rest)
goes_reads line (a_name {own} {w} {rest} short) = ap onto (name_again own line w rest short)
goes_reads line (a_kind count {rest}) = ap onto (kind_again count line rest)
goes_reads line (a_word {own} {w} {rest}) = word_again w own line rest
goes_reads line (a_bound {front} {rest} is) = ap onto (bound_again line rest is)
goes_reads line (a_sign {rest}) = assign_again line rest
goes_reads line (otherwise {rest}) = otherwise_reads line rest
goes_reads line (when {tokens} {rest} {c} e) = when_reads line tokens rest c e
goes_reads line (a_sum {tokens} {rest} {ts} e) = sum_reads line tokens rest ts e

-- ---- a part that is refused isn't read

no_name_fails : (own line : ℕ) (tokens : List Token) → NoWord tokens → name_at own (at line tokens) ≡ Err (refusal (rule_at own tokens) line)
unfolding name_at lacks
no_name_fails own line [] none = refl
no_name_fails own line (word w ∷ tokens) none = absurd (none w (tokens, refl))
no_name_fails own line (number n d ∷ tokens) none = refl
no_name_fails own line (sign s ∷ tokens) none = refl
no_name_fails own line (wrong ∷ tokens) none = refl

pub past_leb : (n m : ℕ) → m < n → leb n m ≡ false
past_leb n m lt = by (leb n m) refl
  where
    by : (b : Bool) → leb n m ≡ b → b ≡ false
    by false e = refl
    by true e = let le = leb-true n m e in absurd (omega arith)

long_name_fails : (own line : ℕ) (w : List ℕ) (rest : List Token) → 16 < length w → name_at own (at line (word w ∷ rest)) ≡ Err (refusal 11 line)
unfolding name_at
long_name_fails own line w rest long = ap (λ (b : Bool). cond b (Ok (w, at line rest)) (Err (refusal 11 line))) (past_leb (length w) 16 long)

no_kind_fails : (line : ℕ) (tokens : List Token) → says (codes "data") tokens ≡ false → says (codes "count") tokens ≡ false → kind_at (at line tokens) ≡ Err (refusal (rule_at 4 tokens) line)
unfolding kind_at lacks
no_kind_fails line tokens first second = rw (first, second) refl

no_word_fails : (w : List ℕ) (own line : ℕ) (tokens : List Token) → says w tokens ≡ false → word_at w own (at line tokens) ≡ Err (refusal (rule_at own tokens) line)
unfolding word_at lacks
no_word_fails w own line tokens e = rw e refl

no_sign_fails : (line : ℕ) (tokens : List Token) → stands Assign tokens ≡ false → assign_at (at line tokens) ≡ Err (refusal (rule_at 6 tokens) line)
unfolding assign_at lacks
no_sign_fails line tokens e = rw e refl

no_size_fails : (sg : Bool) (line : ℕ) (tokens : List Token) → NoNumber tokens → number_at sg (at line tokens) ≡ Err (refusal (rule_at 4 tokens) line)
unfolding number_at lacks
no_size_fails sg line [] none = refl
no_size_fails sg line (word w ∷ tokens) none = refl
no_size_fails sg line (number n d ∷ tokens) none = absurd (none n d (tokens, refl))
no_size_fails sg line (sign s ∷ tokens) none = refl
no_size_fails sg line (wrong ∷ tokens) none = refl

pub number_err : (n : ℕ) (d : Option ℕ) (fault : Fault) → number_of n d ≡ Err fault → Number ≡ fault
unfolding number_of
number_err n d fault e = by (is_within n (unwrap_or d 1)) e
  where
    by : (b : Bool) → ◌≡◌ {A = Result Num Fault} (cond b (Ok (fraction n (unwrap_or d 1))) (Err Number)) (Err fault) → Number ≡ fault
    by true e = absurd (cc)
    by false e = cc

-- a number past the limits
pub large_number : (n : ℕ) (d : Option ℕ) → ((q : Num) → IsNumber n d q → ⊥) → number_of n d ≡ Err Number
large_number n d none = by (number_of n d) refl
  where
    failing : Fault → Result Num Fault
    failing fault = Err fault

    by : (r : Result Num Fault) → number_of n d ≡ r → r ≡ Err Number
    by (Ok q) e = absurd (none q (number_taken n d q e))
    by (Err fault) e = ap failing (sym (number_err n d fault e))

large_size_fails : (sg : Bool) (line n : ℕ) (d : Option ℕ) (rest : List Token) → ((q : Num) → IsNumber n d q → ⊥) → number_at sg (at line (number n d ∷ rest)) ≡ Err (refusal 7 line)
unfolding number_at
large_size_fails sg line n d rest none = ap (λ r. placed line (r >>= λ q. Ok (signed sg q, rest))) (large_number n d none)

bound_minus : (line : ℕ) (tokens : List Token) → bound_at (at line (sign Minus ∷ tokens)) ≡ number_at true (at line tokens)
unfolding bound_at stands
bound_minus line tokens = refl

bound_plus : (line : ℕ) (tokens : List Token) → stands Minus tokens ≡ false → bound_at (at line tokens) ≡ number_at false (at line tokens)
unfolding bound_at
bound_plus line tokens e = rw e refl

no_minus : (n : ℕ) (d : Option ℕ) (rest : List Token) → stands Minus (number n d ∷ rest) ≡ false
unfolding stands
no_minus n d rest = refl

no_guard_fails : (line : ℕ) (tokens : List Token) → says (codes "when") tokens ≡ false → says (codes "otherwise") tokens ≡ false → guard_at (at line tokens) ≡ Err (refusal (rule_at 5 tokens) line)
unfolding guard_at lacks
no_guard_fails line tokens first second = rw (first, second) refl

no_condition_fails : (line : ℕ) (tokens : List Token) (fault : Fault) → condition_by Controller tokens ≡ Err fault → guard_at (at line (word (codes "when") ∷ tokens)) ≡ Err (refusal (rule Controller fault) line)
unfolding guard_at says condition_at
no_condition_fails line tokens fault e = ap (λ r. guarded (placed line r)) e

no_sum_fails : (line : ℕ) (tokens : List Token) (fault : Fault) → expr_by Controller tokens ≡ Err fault → expr_at (at line tokens) ≡ Err (refusal (rule Controller fault) line)
unfolding expr_at
no_sum_fails line tokens fault e = ap (λ r. placed line r) e

pub stops_fails : {p : Part} {tokens : List Token} {n : ℕ} (line : ℕ) → Stops p tokens n → part_at p (at line tokens) ≡ Err (refusal n line)
stops_fails line (no_name {own} {tokens} none) = ap onto (no_name_fails own line tokens none)
stops_fails line (long_name {own} {w} {rest} long) = ap onto (long_name_fails own line w rest long)
stops_fails line (no_kind {tokens} first second) = ap onto (no_kind_fails line tokens (not_said (codes "data") tokens first) (not_said (codes "count") tokens second))
stops_fails line (no_word {own} {w} {tokens} none) = no_word_fails w own line tokens (not_said w tokens none)
stops_fails line (no_bound {tokens} none plain) = ap onto (bound_plus line tokens (not_signed Minus tokens plain) ∙ no_size_fails false line tokens none)
stops_fails line (no_size {tokens} none) = ap onto (bound_minus line tokens ∙ no_size_fails true line tokens none)
stops_fails line (large_bound {n} {d} {rest} none) = ap onto (bound_plus line (number n d ∷ rest) (no_minus n d rest) ∙ large_size_fails false line n d rest none)
stops_fails line (large_size {n} {d} {rest} none) = ap onto (bound_minus line (number n d ∷ rest) ∙ large_size_fails true line n d rest none)
stops_fails line (no_sign {tokens} none) = no_sign_fails line tokens (not_signed Assign tokens none)
stops_fails line (no_guard {tokens} first second) = ap onto (no_guard_fails line tokens (not_said (codes "when") tokens first) (not_said (codes "otherwise") tokens second))
stops_fails line (no_condition {tokens} {fault} e) = ap onto (no_condition_fails line tokens fault (condition_stops Controller tokens fault e))
stops_fails line (no_sum {tokens} {fault} e) = ap onto (no_sum_fails line tokens fault (expr_stops e))

-- ---- what is read stands

-- the part stands before the place that its reading leaves
pub record GoesTo (p : Part) (a b : Ahead) : Type 0 where
  pub stands_there : Goes p a.tokens b.tokens
  pub line : b.line ≡ a.line

goes_here : (p : Part) (a b : Ahead) (tokens : List Token) → a.tokens ≡ tokens → Goes p tokens b.tokens → b.line ≡ a.line → GoesTo p a b
goes_here p a b tokens is there same = record { stands_there = subst (λ (ts : List Token). Goes p ts b.tokens) (sym is) there; line = same }

-- what was read, of a part with a value
pub record ReadTo {X : Type 0} (r : Result (X × Ahead) Refusal) (b : Ahead) : Type 0 where
  pub value : X
  pub was_read : r ≡ Ok (value, b)

pub onto_ok : {X : Type 0} (r : Result (X × Ahead) Refusal) (b : Ahead) → onto r ≡ Ok b → ReadTo r b
onto_ok {X} (Ok x) b e = record { value = x.0; was_read = ap reads_to (ok_is {E = Refusal} x.1 b e) }
  where
    reads_to : Ahead → Result (X × Ahead) Refusal
    reads_to c = Ok (x.0, c)
onto_ok (Err fault) b e = absurd (cc)

pub onto_err : {X : Type 0} (r : Result (X × Ahead) Refusal) (refused : Refusal) → onto r ≡ Err refused → r ≡ Err refused
onto_err (Ok x) refused e = absurd (cc)
onto_err (Err fault) refused e = cc

guard_goes : (a b : Ahead) (x : Option Condition) → guard_at a ≡ Ok (x, b) → GoesTo guard a b
unfolding guard_at condition_at
guard_goes a b x e = ⊎_elim tested other (chosen {X = Result (Option Condition × Ahead) Refusal} (says (codes "when") a.tokens) (guarded (condition_at (behind a))) (cond (says (codes "otherwise") a.tokens) (Ok (None, behind a)) (Err (lacks 5 a))) (Ok (x, b)) e)
  where
    tested : (says (codes "when") a.tokens ≡ true) × (guarded (condition_at (behind a)) ≡ Ok (x, b)) → GoesTo guard a b
    tested p =
        let c = bind_ok (condition_at (behind a)) (λ c. Ok (Some c.0, c.1)) (x, b) p.1 in
        let same : c.0.1 ≡ b = ap (λ (y : Option Condition × Ahead). y.1) (ok_is {E = Refusal} (Some c.0.0, c.0.1) (x, b) c.2) in
        let r = placed_ok a.line (condition_by Controller (after a.tokens)) c.0 c.1 in
        subst (GoesTo guard a) same (goes_here guard a c.0.1 (word (codes "when") ∷ after a.tokens) (says_is (codes "when") a.tokens p.0) (when (condition_taken Controller (after a.tokens) (c.0.0, c.0.1.tokens) r.0)) r.1)

    other : (says (codes "when") a.tokens ≡ false) × (◌≡◌ {A = Result (Option Condition × Ahead) Refusal} (cond (says (codes "otherwise") a.tokens) (Ok (None, behind a)) (Err (lacks 5 a))) (Ok (x, b))) → GoesTo guard a b
    other p =
        let g = guard_ok (says (codes "otherwise") a.tokens) (None, behind a) (x, b) (lacks 5 a) p.1 in
        let same : behind a ≡ b = ap (λ (y : Option Condition × Ahead). y.1) g.1 in
        subst (GoesTo guard a) same (goes_here guard a (behind a) (word (codes "otherwise") ∷ after a.tokens) (says_is (codes "otherwise") a.tokens g.0) otherwise refl)

sum_goes : (a b : Ahead) (ts : List ETerm) → expr_at a ≡ Ok (ts, b) → GoesTo expression a b
unfolding expr_at
sum_goes a b ts e =
    let r = placed_ok a.line (expr_by Controller a.tokens) (ts, b) e in
    record { stands_there = a_sum (expr_taken Controller a.tokens (ts, b.tokens) r.0); line = r.1 }

pub read_goes : (p : Part) (a b : Ahead) → part_at p a ≡ Ok b → GoesTo p a b
read_goes (name own) a b e =
    let x = onto_ok (name_at own a) b e in
    let r = name_reads own a (x.value, b) x.was_read in
    goes_here (name own) a b (word x.value ∷ b.tokens) r.between.parts (a_name r.short) r.between.line
read_goes kind a b e =
    let x = onto_ok (kind_at a) b e in
    let r = kind_reads a (x.value, b) x.was_read in
    goes_here kind a b (word (kind_word x.value) ∷ b.tokens) r.parts (a_kind x.value) r.line
read_goes (said w own) a b e =
    let r = word_reads w own a b e in
    goes_here (said w own) a b (word w ∷ b.tokens) r.parts a_word r.line
read_goes bound a b e =
    let x = onto_ok (bound_at a) b e in
    let r = bound_reads a (x.value, b) x.was_read in
    goes_here bound a b (r.front ++ b.tokens) r.between.parts (a_bound r.spelled) r.between.line
read_goes assigned a b e =
    let r = assign_reads a b e in
    goes_here assigned a b (sign Assign ∷ b.tokens) r.parts a_sign r.line
read_goes guard a b e =
    let x = onto_ok (guard_at a) b e in
    guard_goes a b x.value x.was_read
read_goes expression a b e =
    let x = onto_ok (expr_at a) b e in
    sum_goes a b x.value x.was_read

-- ---- what isn't read is refused

-- the part is refused by a rule at the place's line
pub record StopsAt (p : Part) (a : Ahead) (r : Refusal) : Type 0 where
  pub number : ℕ
  pub stops_there : Stops p a.tokens number
  pub is : r ≡ refusal number a.line

stops_here : (p : Part) (a : Ahead) (r : Refusal) (n : ℕ) (tokens : List Token) → a.tokens ≡ tokens → Stops p tokens n → r ≡ refusal n a.line → StopsAt p a r
stops_here p a r n tokens is there same = record { number = n; stops_there = subst (λ (ts : List Token). Stops p ts n) (sym is) there; is = same }

pub err_is : {A : Type 0} (r s : Refusal) → ◌≡◌ {A = Result A Refusal} (Err r) (Err s) → s ≡ r
err_is r s e = cc

placed_err : {X : Type 0} (line : ℕ) (read : Result (X × List Token) Fault) (r : Refusal) → placed line read ≡ Err r → (fault : Fault) × ((read ≡ Err fault) × (r ≡ refusal (rule Controller fault) line))
placed_err line (Ok x) r e = absurd (cc)
placed_err line (Err fault) r e = (fault, (refl, cc))

-- the other branch of a test that gave a refusal
pub test_failed : {X : Type 0} (b : Bool) (x : X) (r s : Refusal) → cond b (Ok x) (Err s) ≡ Err r → (b ≡ false) × (r ≡ s)
test_failed true x r s e = absurd (cc)
test_failed false x r s e = (refl, cc)

name_stops : (own : ℕ) (a : Ahead) (tokens : List Token) (r : Refusal) → a.tokens ≡ tokens → name_at own (at a.line tokens) ≡ Err r → StopsAt (name own) a r
unfolding name_at lacks
name_stops own a [] r is e = stops_here (name own) a r own [] is (no_name (λ w front. let h = front.1 in absurd (cc))) (err_is _ _ e)
name_stops own a (word w ∷ tokens) r is e =
    let t = test_failed (leb (length w) 16) (w, at a.line tokens) r (refusal 11 a.line) e in
    stops_here (name own) a r 11 (word w ∷ tokens) is (long_name (leb-false (length w) 16 t.0)) t.1
name_stops own a (number n d ∷ tokens) r is e = stops_here (name own) a r own (number n d ∷ tokens) is (no_name (λ w front. let h = front.1 in absurd (cc))) (err_is _ _ e)
name_stops own a (sign s ∷ tokens) r is e = stops_here (name own) a r own (sign s ∷ tokens) is (no_name (λ w front. let h = front.1 in absurd (cc))) (err_is _ _ e)
name_stops own a (wrong ∷ tokens) r is e = stops_here (name own) a r 2 (wrong ∷ tokens) is (no_name (λ w front. let h = front.1 in absurd (cc))) (err_is _ _ e)

kind_stops : (a : Ahead) (r : Refusal) → kind_at a ≡ Err r → StopsAt kind a r
unfolding kind_at lacks
kind_stops a r e = ⊎_elim yes no (chosen {X = Result (Bool × Ahead) Refusal} (says (codes "data") a.tokens) (Ok (false, behind a)) (cond (says (codes "count") a.tokens) (Ok (true, behind a)) (Err (lacks 4 a))) (Err r) e)
  where
    yes : (says (codes "data") a.tokens ≡ true) × (◌≡◌ {A = Result (Bool × Ahead) Refusal} (Ok (false, behind a)) (Err r)) → StopsAt kind a r
    yes p = absurd (let h = p.1 in cc)

    no : (says (codes "data") a.tokens ≡ false) × (◌≡◌ {A = Result (Bool × Ahead) Refusal} (cond (says (codes "count") a.tokens) (Ok (true, behind a)) (Err (lacks 4 a))) (Err r)) → StopsAt kind a r
    no p =
        let t = test_failed (says (codes "count") a.tokens) (true, behind a) r (lacks 4 a) p.1 in
        record { number = rule_at 4 a.tokens; stops_there = no_kind (absent_word (codes "data") a.tokens p.0) (absent_word (codes "count") a.tokens t.0); is = t.1 }

word_stops : (w : List ℕ) (own : ℕ) (a : Ahead) (r : Refusal) → word_at w own a ≡ Err r → StopsAt (said w own) a r
unfolding word_at lacks
word_stops w own a r e =
    let t = test_failed (says w a.tokens) (behind a) r (lacks own a) e in
    record { number = rule_at own a.tokens; stops_there = no_word (absent_word w a.tokens t.0); is = t.1 }

assign_stops : (a : Ahead) (r : Refusal) → assign_at a ≡ Err r → StopsAt assigned a r
unfolding assign_at lacks
assign_stops a r e =
    let t = test_failed (stands Assign a.tokens) (behind a) r (lacks 6 a) e in
    record { number = rule_at 6 a.tokens; stops_there = no_sign (absent_sign Assign a.tokens t.0); is = t.1 }

-- why a number isn't read
data SizeStops (line : ℕ) (r : Refusal) : List Token → Type 0 where
  none_there : {tokens : List Token} → NoNumber tokens → r ≡ refusal (rule_at 4 tokens) line → SizeStops line r tokens
  too_large : {n : ℕ} {d : Option ℕ} {tokens : List Token} → ((q : Num) → IsNumber n d q → ⊥) → r ≡ refusal 7 line → SizeStops line r (number n d ∷ tokens)

bind_err : {A B E : Type 0} (read : Result A E) (f : A → B) (fault : E) → (read >>= λ x. Ok (f x)) ≡ Err fault → read ≡ Err fault
bind_err (Ok x) f fault e = absurd (cc)
bind_err (Err d) f fault e = cc

pub none_within : (n : ℕ) (d : Option ℕ) (fault : Fault) → number_of n d ≡ Err fault → (q : Num) → IsNumber n d q → ⊥
none_within n d fault e q is = let there = number_again n d q is in absurd (cc)

size_stops : (sg : Bool) (line : ℕ) (tokens : List Token) (r : Refusal) → number_at sg (at line tokens) ≡ Err r → SizeStops line r tokens
unfolding number_at lacks
size_stops sg line [] r e = none_there (λ n d front. let h = front.1 in absurd (cc)) (err_is _ _ e)
size_stops sg line (word w ∷ tokens) r e = none_there (λ n d front. let h = front.1 in absurd (cc)) (err_is _ _ e)
size_stops sg line (number n d ∷ tokens) r e =
    let p = placed_err line (number_of n d >>= λ q. Ok (signed sg q, tokens)) r e in
    let failed = bind_err (number_of n d) (λ q. (signed sg q, tokens)) p.0 p.1.0 in
    too_large (none_within n d p.0 failed) (p.1.1 ∙ ap (λ f. refusal (rule Controller f) line) (sym (number_err n d p.0 failed)))
size_stops sg line (sign s ∷ tokens) r e = none_there (λ n d front. let h = front.1 in absurd (cc)) (err_is _ _ e)
size_stops sg line (wrong ∷ tokens) r e = none_there (λ n d front. let h = front.1 in absurd (cc)) (err_is _ _ e)

minus_stops : (a : Ahead) (r : Refusal) {tokens : List Token} → a.tokens ≡ sign Minus ∷ tokens → SizeStops a.line r tokens → StopsAt bound a r
minus_stops a r {tokens} is (none_there none same) = stops_here bound a r (rule_at 4 tokens) (sign Minus ∷ tokens) is (no_size none) same
minus_stops a r is (too_large {n} {d} {tokens} none same) = stops_here bound a r 7 (sign Minus ∷ number n d ∷ tokens) is (large_size none) same

plus_stops : (a : Ahead) (r : Refusal) {tokens : List Token} → a.tokens ≡ tokens → stands Minus tokens ≡ false → SizeStops a.line r tokens → StopsAt bound a r
plus_stops a r {tokens} is plain (none_there none same) = stops_here bound a r (rule_at 4 tokens) tokens is (no_bound none (absent_sign Minus tokens plain)) same
plus_stops a r is plain (too_large {n} {d} {tokens} none same) = stops_here bound a r 7 (number n d ∷ tokens) is (large_bound none) same

bound_stops : (a : Ahead) (r : Refusal) → bound_at a ≡ Err r → StopsAt bound a r
unfolding bound_at
bound_stops a r e = ⊎_elim minus plus (chosen (stands Minus a.tokens) (number_at true (behind a)) (number_at false a) (Err r) e)
  where
    minus : (stands Minus a.tokens ≡ true) × (number_at true (behind a) ≡ Err r) → StopsAt bound a r
    minus p = minus_stops a r (stands_is Minus a.tokens p.0) (size_stops true a.line (after a.tokens) r p.1)

    plus : (stands Minus a.tokens ≡ false) × (number_at false a ≡ Err r) → StopsAt bound a r
    plus p = plus_stops a r refl p.0 (size_stops false a.line a.tokens r p.1)

guard_stops : (a : Ahead) (r : Refusal) → guard_at a ≡ Err r → StopsAt guard a r
unfolding guard_at condition_at lacks
guard_stops a r e = ⊎_elim tested other (chosen {X = Result (Option Condition × Ahead) Refusal} (says (codes "when") a.tokens) (guarded (condition_at (behind a))) (cond (says (codes "otherwise") a.tokens) (Ok (None, behind a)) (Err (lacks 5 a))) (Err r) e)
  where
    tested : (says (codes "when") a.tokens ≡ true) × (guarded (condition_at (behind a)) ≡ Err r) → StopsAt guard a r
    tested p =
        let failed = bind_err (condition_at (behind a)) (λ (c : Condition × Ahead). (Some c.0, c.1)) r p.1 in
        let f = placed_err a.line (condition_by Controller (after a.tokens)) r failed in
        stops_here guard a r (rule Controller f.0) (word (codes "when") ∷ after a.tokens) (says_is (codes "when") a.tokens p.0) (no_condition (condition_refused Controller (after a.tokens) f.0 f.1.0)) f.1.1

    other : (says (codes "when") a.tokens ≡ false) × (◌≡◌ {A = Result (Option Condition × Ahead) Refusal} (cond (says (codes "otherwise") a.tokens) (Ok (None, behind a)) (Err (lacks 5 a))) (Err r)) → StopsAt guard a r
    other p =
        let t = test_failed (says (codes "otherwise") a.tokens) (None, behind a) r (lacks 5 a) p.1 in
        record { number = rule_at 5 a.tokens; stops_there = no_guard (absent_word (codes "when") a.tokens p.0) (absent_word (codes "otherwise") a.tokens t.0); is = t.1 }

sum_stops : (a : Ahead) (r : Refusal) → expr_at a ≡ Err r → StopsAt expression a r
unfolding expr_at
sum_stops a r e =
    let f = placed_err a.line (expr_by Controller a.tokens) r e in
    record { number = rule Controller f.0; stops_there = no_sum (expr_refused Controller a.tokens f.0 f.1.0); is = f.1.1 }

pub read_stops : (p : Part) (a : Ahead) (r : Refusal) → part_at p a ≡ Err r → StopsAt p a r
read_stops (name own) a r e = name_stops own a a.tokens r refl (onto_err (name_at own a) r e)
read_stops kind a r e = kind_stops a r (onto_err (kind_at a) r e)
read_stops (said w own) a r e = word_stops w own a r e
read_stops bound a r e = bound_stops a r (onto_err (bound_at a) r e)
read_stops assigned a r e = assign_stops a r e
read_stops guard a r e = guard_stops a r (onto_err (guard_at a) r e)
read_stops expression a r e = sum_stops a r (onto_err (expr_at a) r e)

-- ---- all parts of a line

abbrev pub check : List Part → Ahead → Result (Unit {0}) Refusal
check [] a = done_at a
check (p ∷ ps) a = part_at p a >>= check ps

no_token_left : (line : ℕ) → check [] (at line []) ≡ Ok tt
unfolding done_at
no_token_left line = refl

token_left : (line : ℕ) (t : Token) (tokens : List Token) → check [] (at line (t ∷ tokens)) ≡ Err (refusal (rule_at 12 (t ∷ tokens)) line)
unfolding done_at lacks
token_left line t tokens = refl

pub line_goes_reads : {ps : List Part} {tokens : List Token} (line : ℕ) → LineGoes ps tokens → check ps (at line tokens) ≡ Ok tt
line_goes_reads line ends = no_token_left line
line_goes_reads line (goes {p} {ps} there others) = ap (λ r. r >>= check ps) (goes_reads line there) ∙ line_goes_reads line others

pub line_stops_fails : {ps : List Part} {tokens : List Token} {n : ℕ} (line : ℕ) → LineStops ps tokens n → check ps (at line tokens) ≡ Err (refusal n line)
line_stops_fails line (left {t} {tokens}) = token_left line t tokens
line_stops_fails line (stops {p} {ps} there) = ap (λ r. r >>= check ps) (stops_fails line there)
line_stops_fails line (goes_on {p} {ps} there others) = ap (λ r. r >>= check ps) (goes_reads line there) ∙ line_stops_fails line others

all_read : (a : Ahead) (tokens : List Token) (x : Unit {0}) → a.tokens ≡ tokens → done_or a tokens ≡ Ok x → LineGoes [] tokens
all_read a [] x is e = ends
all_read a (t ∷ tokens) x is e = absurd (cc)

done_goes : (a : Ahead) (x : Unit {0}) → done_at a ≡ Ok x → LineGoes [] a.tokens
unfolding done_at
done_goes a x e = all_read a a.tokens x refl e

pub line_read_goes : (ps : List Part) (a : Ahead) (x : Unit {0}) → check ps a ≡ Ok x → LineGoes ps a.tokens
line_read_goes [] a x e = done_goes a x e
line_read_goes (p ∷ ps) a x e =
    let b = bind_ok (part_at p a) (check ps) x e in
    goes (read_goes p a b.0 b.1).stands_there (line_read_goes ps b.0 x b.2)

-- the line is refused by a rule
pub record LineStopsAt (ps : List Part) (a : Ahead) (r : Refusal) : Type 0 where
  pub number : ℕ
  pub stops_there : LineStops ps a.tokens number
  pub is : r ≡ refusal number a.line

some_left : (a : Ahead) (tokens : List Token) (r : Refusal) → a.tokens ≡ tokens → done_or a tokens ≡ Err r → LineStopsAt [] a r
unfolding lacks
some_left a [] r is e = absurd (cc)
some_left a (t ∷ tokens) r is e = record {
  number = rule_at 12 a.tokens;
  stops_there = subst (λ (ts : List Token). LineStops [] ts (rule_at 12 ts)) (sym is) left;
  is = err_is _ _ e;
}

done_stops : (a : Ahead) (r : Refusal) → done_at a ≡ Err r → LineStopsAt [] a r
unfolding done_at
done_stops a r e = some_left a a.tokens r refl e

pub line_read_stops : (ps : List Part) (a : Ahead) (r : Refusal) → check ps a ≡ Err r → LineStopsAt ps a r
line_read_stops [] a r e = done_stops a r e
line_read_stops (p ∷ ps) a r e = by (part_at p a) refl e (λ b h. line_read_stops ps b r h)
  where
    by : (read : Result Ahead Refusal) → part_at p a ≡ read → (read >>= check ps) ≡ Err r → ((b : Ahead) → check ps b ≡ Err r → LineStopsAt ps b r) → LineStopsAt (p ∷ ps) a r
    by (Ok b) is e further =
        let there = read_goes p a b is in
        let others = further b e in
        record { number = others.number; stops_there = goes_on there.stands_there others.stops_there; is = others.is ∙ ap (refusal others.number) there.line }
    by (Err s) is e further =
        let there = read_stops p a s is in
        record { number = there.number; stops_there = stops there.stops_there; is = err_is {A = Unit {0}} s r e ∙ there.is }
