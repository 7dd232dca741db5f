-- The first refusal is the one that reading gives.
use Rattle.std.proofs.Common.{◌≡◌, ℕ, zero, suc, Bool, true, false, cond, ⊎_elim, Result, Ok, Err, List, [], ◌∷◌, refl, sym, ap, subst, ◌∙◌}
use Rattle.std.specs.Prelude.{codes}
use Rattle.text_lines.specs.Steps.{◌>>=◌}
use Rattle.text_lines.proofs.StepLaws.{ok_is}
use Rattle.whole.specs.declared.answers.Refusal.{Refusal}
use Rattle.source_text.specs.Tokens.{Token, word, after}
use Rattle.source_text.specs.Shown.{Ahead}
use Rattle.condition_syntax.specs.Fronts.{says}
use Rattle.condition_syntax.proofs.FrontLaws.{chosen, says_is, says_there}
use Rattle.ctrl_syntax.specs.Rest.{Rest, behind, first_says, number_of_next}
use Rattle.ctrl_syntax.specs.Reading.{rule_at}
use Rattle.ctrl_syntax.proofs.LinesAgain.{at}
use Rattle.ctrl_syntax.proofs.SectionsAgain.{rest_of, says_front}
use Rattle.ctrl_syntax.proofs.Places.{Outcome}
use Rattle.ctrl_syntax.proofs.PartRefusals.{absent_word, not_said, err_is}
use Rattle.question_syntax.specs.Reading.{refusal, lacks}
use Rattle.question_syntax.specs.Refused.{condition, Kind, LineGoes, ValueStops, LineStops, stray, malformed, setting_kinds, last_kinds, FirstOf, unfinished, here, further, behind as behind_them, AfterEnd, after_end, NoAssume, FirstOfAssumes, too_many, at_one, behind_one, behind_all, FirstRefused}
use Rattle.question_syntax.proofs.ValueRefusals.{check, goes_checks, stops_checks, checked_goes, checked_stops}
use Rattle.question_syntax.proofs.RefusalOrder.{Walk, line_at, walk, behind_end, behind_assumes, assume_kind, assumes_walk}

-- ---- one line

line_read : (k : Kind) (line : ℕ) (front : List Token) (lines : List Ahead) (end : ℕ) → line_at k (at line (word k.title ∷ front) ∷ lines) end ≡ check k.value (at line front) >>= λ x. Ok (rest_of lines end)
line_read k line front lines end = ap (λ (b : Bool). cond b (check k.value (at line front) >>= λ x. Ok (rest_of lines end)) (Err (lacks 3 (at line (word k.title ∷ front))))) (says_there k.title front)

stray_read : (k : Kind) (a : Ahead) (lines : List Ahead) (end : ℕ) → says k.title a.tokens ≡ false → line_at k (a ∷ lines) end ≡ Err (refusal (rule_at 3 a.tokens) a.line)
unfolding lacks
stray_read k a lines end absent = ap (λ (b : Bool). cond b (check k.value (behind a) >>= λ x. Ok (rest_of lines end)) (Err (lacks 3 a))) absent

abbrev pub leaving : Rest → Outcome → Result Rest Refusal
leaving t r = r >>= λ x. Ok t

line_goes : (k : Kind) (a : Ahead) (lines : List Ahead) (end : ℕ) → LineGoes k a.tokens → line_at k (a ∷ lines) end ≡ Ok (rest_of lines end)
line_goes k a lines end is =
    ap (λ (ts : List Token). line_at k (at a.line ts ∷ lines) end) is.tokens_are ∙ line_read k a.line is.front lines end ∙ ap (leaving (rest_of lines end)) (goes_checks a.line is.goes)

line_stops : {tokens : List Token} {n : ℕ} (k : Kind) (line : ℕ) (lines : List Ahead) (end : ℕ) → LineStops k tokens n → line_at k (at line tokens ∷ lines) end ≡ Err (refusal n line)
line_stops k line lines end (stray {tokens} absent) = stray_read k (at line tokens) lines end (not_said k.title tokens absent)
line_stops k line lines end (malformed {tokens} is) = line_read k line tokens lines end ∙ ap (leaving (rest_of lines end)) (stops_checks line is)

-- what a line of a kind leads to
record Led (k : Kind) (a : Ahead) (t u : Rest) : Type 0 where
  goes : LineGoes k a.tokens
  same : t ≡ u

left_ok : (t u : Rest) (r : Outcome) → leaving t r ≡ Ok u → (r ≡ Ok tt) × (t ≡ u)
left_ok t u (Ok x) e = (refl, ok_is {E = Refusal} t u e)
left_ok t u (Err fault) e = absurd (cc)

left_err : (t : Rest) (s : Refusal) (r : Outcome) → leaving t r ≡ Err s → r ≡ Err s
left_err t s (Ok x) e = absurd (cc)
left_err t s (Err fault) e = cc

line_led : (k : Kind) (a : Ahead) (lines : List Ahead) (end : ℕ) (u : Rest) → line_at k (a ∷ lines) end ≡ Ok u → Led k a (rest_of lines end) u
line_led k a lines end u e = ⊎_elim named other (chosen (says k.title a.tokens) (leaving (rest_of lines end) (check k.value (behind a))) (Err (lacks 3 a)) (Ok u) e)
  where
    named : (says k.title a.tokens ≡ true) × (leaving (rest_of lines end) (check k.value (behind a)) ≡ Ok u) → Led k a (rest_of lines end) u
    named p =
        let l = left_ok (rest_of lines end) u (check k.value (behind a)) p.1 in
        record { goes = record { front = after a.tokens; tokens_are = says_is k.title a.tokens p.0; goes = checked_goes k.value (behind a) tt l.0 }; same = l.1 }

    other : (says k.title a.tokens ≡ false) × (◌≡◌ {A = Result Rest Refusal} (Err (lacks 3 a)) (Ok u)) → Led k a (rest_of lines end) u
    other p = absurd (let h = p.1 in cc)

-- the line is refused by a rule
record LineStopsAt (k : Kind) (a : Ahead) (r : Refusal) : Type 0 where
  number : ℕ
  there : LineStops k a.tokens number
  is : r ≡ refusal number a.line

lacks_is : (a : Ahead) → lacks 3 a ≡ refusal (rule_at 3 a.tokens) a.line
unfolding lacks
lacks_is a = refl

line_refused : (k : Kind) (a : Ahead) (lines : List Ahead) (end : ℕ) (r : Refusal) → line_at k (a ∷ lines) end ≡ Err r → LineStopsAt k a r
line_refused k a lines end r e = ⊎_elim named other (chosen (says k.title a.tokens) (leaving (rest_of lines end) (check k.value (behind a))) (Err (lacks 3 a)) (Err r) e)
  where
    named : (says k.title a.tokens ≡ true) × (leaving (rest_of lines end) (check k.value (behind a)) ≡ Err r) → LineStopsAt k a r
    named p =
        let c = checked_stops k.value (behind a) r (left_err (rest_of lines end) r (check k.value (behind a)) p.1) in
        record { number = c.number; there = subst (λ (ts : List Token). LineStops k ts c.number) (sym (says_is k.title a.tokens p.0)) (malformed c.there); is = c.is }

    other : (says k.title a.tokens ≡ false) × (◌≡◌ {A = Result Rest Refusal} (Err (lacks 3 a)) (Err r)) → LineStopsAt k a r
    other p = record { number = rule_at 3 a.tokens; there = stray (absent_word k.title a.tokens p.0); is = err_is {A = Rest} (lacks 3 a) r p.1 ∙ lacks_is a }

-- ---- lines one after another

module _ (end : ℕ) (Behind : List Ahead → Refusal → Type 0) (onward : Walk) where
  pub first_walks : ((lines : List Ahead) (r : Refusal) → Behind lines r → onward lines end ≡ Err r) → {ks : List Kind} {lines : List Ahead} {r : Refusal} → FirstOf end Behind ks lines r
      → walk ks onward lines end ≡ Err r
  first_walks then unfinished = refl
  first_walks then (here {k} {ks} {a} {lines} is) = ap (λ r. r >>= λ t. walk ks onward t.lines t.end) (line_stops k a.line lines end is)
  first_walks then (further {k} {ks} {a} {lines} is others) = ap (λ r. r >>= λ t. walk ks onward t.lines t.end) (line_goes k a lines end is) ∙ first_walks then others
  first_walks then (behind_them {lines} {r} is) = then lines r is

  pub walk_first : ((lines : List Ahead) (r : Refusal) → onward lines end ≡ Err r → Behind lines r) → (ks : List Kind) (lines : List Ahead) (r : Refusal) → walk ks onward lines end ≡ Err r
      → FirstOf end Behind ks lines r
  walk_first then [] lines r e = behind_them (then lines r e)
  walk_first then (k ∷ ks) [] r e = subst (FirstOf end Behind (k ∷ ks) []) (sym (err_is {A = Unit {0}} (refusal 11 end) r e)) unfinished
  walk_first then (k ∷ ks) (a ∷ lines) r e = by (line_at k (a ∷ lines) end) refl e (λ h. walk_first then ks lines r h)
    where
      by : (read : Result Rest Refusal) → line_at k (a ∷ lines) end ≡ read → (read >>= λ t. walk ks onward t.lines t.end) ≡ Err r
          → (walk ks onward lines end ≡ Err r → FirstOf end Behind ks lines r) → FirstOf end Behind (k ∷ ks) (a ∷ lines) r
      by (Ok u) was h others =
          let l = line_led k a lines end u was in
          further l.goes (others (ap (λ (t : Rest). walk ks onward t.lines t.end) l.same ∙ h))
      by (Err s) was h others =
          let l = line_refused k a lines end s was in
          subst (FirstOf end Behind (k ∷ ks) (a ∷ lines)) (sym (err_is {A = Unit {0}} s r h ∙ l.is)) (here l.there)

-- ---- behind `end`

after_walks : (end : ℕ) (lines : List Ahead) (r : Refusal) → AfterEnd lines r → behind_end lines end ≡ Err r
after_walks end _ _ after_end = refl

walk_after : (end : ℕ) (lines : List Ahead) (r : Refusal) → behind_end lines end ≡ Err r → AfterEnd lines r
walk_after end [] r e = absurd (cc)
walk_after end (a ∷ lines) r e = subst (AfterEnd (a ∷ lines)) (sym (err_is {A = Unit {0}} (refusal 10 a.line) r e)) after_end

-- ---- the assumptions

none_first : (lines : List Ahead) → NoAssume lines → first_says (codes "assume") lines ≡ false
none_first [] absent = refl
none_first (a ∷ lines) absent = not_said (codes "assume") a.tokens (λ front. absent a lines front.0 refl front.1)

first_none : (lines : List Ahead) → first_says (codes "assume") lines ≡ false → NoAssume lines
first_none lines e a others tokens is front =
    let there : first_says (codes "assume") lines ≡ true = ap (first_says (codes "assume")) is ∙ says_front (codes "assume") a.tokens tokens front in
    absurd (cc)

one_assume : (room : ℕ) (a : Ahead) (lines : List Ahead) (end : ℕ) → says (codes "assume") a.tokens ≡ true
    → assumes_walk (suc room) (a ∷ lines) end ≡ line_at assume_kind (a ∷ lines) end >>= λ t. assumes_walk room t.lines t.end
one_assume room a lines end named = ap (λ (b : Bool). cond b (line_at assume_kind (a ∷ lines) end >>= λ t. assumes_walk room t.lines t.end) (behind_assumes (a ∷ lines) end)) named

no_assume_left : (room : ℕ) (lines : List Ahead) (end : ℕ) → first_says (codes "assume") lines ≡ false → assumes_walk room lines end ≡ behind_assumes lines end
no_assume_left zero lines end absent = ap (λ (b : Bool). cond b (Err (refusal 9 (number_of_next lines end))) (behind_assumes lines end)) absent
no_assume_left (suc room) lines end absent = ap (λ (b : Bool). cond b (line_at assume_kind lines end >>= λ t. assumes_walk room t.lines t.end) (behind_assumes lines end)) absent

too_many_walks : (a : Ahead) (lines : List Ahead) (end : ℕ) → says (codes "assume") a.tokens ≡ true → assumes_walk 0 (a ∷ lines) end ≡ Err (refusal 9 a.line)
too_many_walks a lines end named = ap (λ (b : Bool). cond b (Err (refusal 9 a.line)) (behind_assumes (a ∷ lines) end)) named

assumes_first_walks : (end : ℕ) {room : ℕ} {lines : List Ahead} {r : Refusal} → FirstOfAssumes end room lines r → assumes_walk room lines end ≡ Err r
assumes_first_walks end (too_many {a} {lines} {tokens} is) = too_many_walks a lines end (says_front (codes "assume") a.tokens tokens is)
assumes_first_walks end (at_one {room} {a} {lines} {tokens} {n} is value) =
    one_assume room a lines end (says_front (codes "assume") a.tokens tokens is)
    ∙ ap (λ r. r >>= λ t. assumes_walk room t.lines t.end) (line_stops assume_kind a.line lines end (subst (λ (ts : List Token). LineStops assume_kind ts n) (sym is) (malformed value)))
assumes_first_walks end (behind_one {room} {a} {lines} is others) =
    one_assume room a lines end (says_front (codes "assume") a.tokens is.front is.tokens_are)
    ∙ ap (λ r. r >>= λ t. assumes_walk room t.lines t.end) (line_goes assume_kind a lines end is) ∙ assumes_first_walks end others
assumes_first_walks end (behind_all {room} {lines} absent others) =
    no_assume_left room lines end (none_first lines absent) ∙ first_walks end AfterEnd behind_end (after_walks end) others

last_first : (end : ℕ) (room : ℕ) (lines : List Ahead) (r : Refusal) → first_says (codes "assume") lines ≡ false → behind_assumes lines end ≡ Err r → FirstOfAssumes end room lines r
last_first end room lines r absent e = behind_all (first_none lines absent) (walk_first end AfterEnd behind_end (walk_after end) last_kinds lines r e)

-- a line that says so is refused behind its word
data AssumeStops (a : Ahead) (r : Refusal) : Type 0 where
  stops_behind : {tokens : List Token} {n : ℕ} → a.tokens ≡ word (codes "assume") ∷ tokens → ValueStops condition tokens n → r ≡ refusal n a.line → AssumeStops a r

assume_stops : (a : Ahead) (lines : List Ahead) (end : ℕ) (r : Refusal) → says (codes "assume") a.tokens ≡ true → line_at assume_kind (a ∷ lines) end ≡ Err r → AssumeStops a r
assume_stops a lines end r named e =
    let one : leaving (rest_of lines end) (check condition (behind a)) ≡ Err r = sym (ap (λ (b : Bool). cond b (leaving (rest_of lines end) (check condition (behind a))) (Err (lacks 3 a))) named) ∙ e in
    let c = checked_stops condition (behind a) r (left_err (rest_of lines end) r (check condition (behind a)) one) in
    stops_behind (says_is (codes "assume") a.tokens named) c.there c.is

walk_assumes_first : (end : ℕ) (room : ℕ) (lines : List Ahead) (r : Refusal) → assumes_walk room lines end ≡ Err r → FirstOfAssumes end room lines r
walk_assumes_first end zero [] r e = last_first end 0 [] r refl e
walk_assumes_first end (suc room) [] r e = last_first end (suc room) [] r refl e
walk_assumes_first end zero (a ∷ lines) r e = ⊎_elim named other (chosen (says (codes "assume") a.tokens) (Err (refusal 9 a.line)) (behind_assumes (a ∷ lines) end) (Err r) e)
  where
    named : (says (codes "assume") a.tokens ≡ true) × (◌≡◌ {A = Outcome} (Err (refusal 9 a.line)) (Err r)) → FirstOfAssumes end 0 (a ∷ lines) r
    named p = subst (FirstOfAssumes end 0 (a ∷ lines)) (sym (err_is {A = Unit {0}} (refusal 9 a.line) r p.1)) (too_many (says_is (codes "assume") a.tokens p.0))

    other : (says (codes "assume") a.tokens ≡ false) × (behind_assumes (a ∷ lines) end ≡ Err r) → FirstOfAssumes end 0 (a ∷ lines) r
    other p = last_first end 0 (a ∷ lines) r p.0 p.1
walk_assumes_first end (suc room) (a ∷ lines) r e =
    ⊎_elim (named (λ h. walk_assumes_first end room lines r h)) other (chosen (says (codes "assume") a.tokens) (line_at assume_kind (a ∷ lines) end >>= λ t. assumes_walk room t.lines t.end) (behind_assumes (a ∷ lines) end) (Err r) e)
  where
    by : (read : Result Rest Refusal) → line_at assume_kind (a ∷ lines) end ≡ read → says (codes "assume") a.tokens ≡ true → (read >>= λ t. assumes_walk room t.lines t.end) ≡ Err r
        → (assumes_walk room lines end ≡ Err r → FirstOfAssumes end room lines r) → FirstOfAssumes end (suc room) (a ∷ lines) r
    by (Ok u) was first h others =
        let l = line_led assume_kind a lines end u was in
        behind_one l.goes (others (ap (λ (t : Rest). assumes_walk room t.lines t.end) l.same ∙ h))
    by (Err s) was first h others = refused_there (assume_stops a lines end s first was)
      where
        refused_there : AssumeStops a s → FirstOfAssumes end (suc room) (a ∷ lines) r
        refused_there (stops_behind is there same) = subst (FirstOfAssumes end (suc room) (a ∷ lines)) (sym (err_is {A = Unit {0}} s r h ∙ same)) (at_one is there)

    named : (assumes_walk room lines end ≡ Err r → FirstOfAssumes end room lines r) → (says (codes "assume") a.tokens ≡ true) × ((line_at assume_kind (a ∷ lines) end >>= λ t. assumes_walk room t.lines t.end) ≡ Err r)
        → FirstOfAssumes end (suc room) (a ∷ lines) r
    named others p = by (line_at assume_kind (a ∷ lines) end) refl p.0 p.1 others

    other : (says (codes "assume") a.tokens ≡ false) × (behind_assumes (a ∷ lines) end ≡ Err r) → FirstOfAssumes end (suc room) (a ∷ lines) r
    other p = last_first end (suc room) (a ∷ lines) r p.0 p.1

-- ---- the whole

pub first_is_read : {lines : List Ahead} {r : Refusal} (end : ℕ) → FirstRefused end lines r → walk setting_kinds (assumes_walk 16) lines end ≡ Err r
first_is_read end is = first_walks end (FirstOfAssumes end 16) (assumes_walk 16) (λ lines r a. assumes_first_walks end a) is

pub read_is_first : (end : ℕ) (lines : List Ahead) (r : Refusal) → walk setting_kinds (assumes_walk 16) lines end ≡ Err r → FirstRefused end lines r
read_is_first end lines r e = walk_first end (FirstOfAssumes end 16) (assumes_walk 16) (λ ls s h. walk_assumes_first end 16 ls s h) setting_kinds lines r e
