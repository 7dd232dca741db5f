-- Journals with one move more, and their counts.
use Rattle.std.proofs.Common.{◌≡◌, ℕ, suc, ◌+◌, Bool, ◌⊎◌, inl, inr, List, [], ◌∷◌, ◌++◌, map, length, Option, None, Some, refl, sym, ◌∙◌, ap, subst, append_assoc, length-append, arith}
use Rattle.std.proofs.lemmas.List.{append-nil, map-append}
use Rattle.std.proofs.lemmas.List.Elements.{filter-append}
use Rattle.std.specs.List.{filter}
use Rattle.whole.specs.Budget.{Counts, charged, conflict_noted, spent}
use Rattle.whole.specs.declared.answers.Stuck.{Stuck}
use Rattle.farkas_cert.specs.declared.certificates.Lemma.{Lemma}
use Rattle.farkas_cert.specs.declared.journals.Move.{Move}
use Rattle.farkas_cert.specs.declared.journals.Move.TheVariants.{Decide, Propagate, Pivot, Conflict}
use Rattle.farkas_cert.specs.declared.literals.Lit.{Lit}
use Rattle.cert_text.specs.Journals.{how_many, is_decide, is_propagate, is_pivot, is_conflict}
use Rattle.clause_form.specs.declared.clauses.Clauses.{Clauses}
use Rattle.clause_form.specs.Journals.{Entry, IsOpen, Last, Leads, Moves, Reached, Reaches, Sticks, cut, exchange, is_charged, literal, nothing, opened}
use Rattle.clause_form.specs.Theories.{PivotsLead, Relations, StuckAfterPivots}
use Rattle.clause_search.specs.Answers.{IsTally, starting_at}
use Rattle.clause_search.specs.Courses.{move_of, place}
use Rattle.clause_search.specs.Lessons.{IsOpenLearning, Learns, MayLearn, ReachesLearning, SticksLearning}
use Rattle.clause_search.specs.Opened.{charge_of}

-- ---- one move more

learns_more : {S : Type 0} (R : Relations S) (c : Clauses) (ms : List Move) (m : Move) (p q r : Reached S) → Learns R c p ms q → MayLearn R c q m
    → Leads R c q m r → Learns R c p (ms ++ m ∷ []) r
learns_more {S} R c [] m p q r e may leads =
    (subst (λ (x : Reached S). MayLearn R c x m) (sym e) may, (r, subst (λ (x : Reached S). Leads R c x m r) (sym e) leads, refl))
learns_more R c (n ∷ ms) m p q r (first, (t, lead, rest)) may leads = (first, (t, lead, learns_more R c ms m t q r rest may leads))

pub reaches_more : {S : Type 0} (R : Relations S) (c : Clauses) (ms : List Move) (m : Move) (q r : Reached S) → ReachesLearning R c ms q → MayLearn R c q m
    → Leads R c q m r → ReachesLearning R c (ms ++ m ∷ []) r
reaches_more R c ms m q r reached may leads = (reached.0, reached.1, learns_more R c ms m (opened reached.0) q r reached.2 may leads)

-- ---- what such journals are besides

moves_of : {S : Type 0} (R : Relations S) (c : Clauses) (ms : List Move) (p q : Reached S) → Learns R c p ms q → Moves R c p ms q
moves_of R c [] p q e = e
moves_of R c (m ∷ ms) p q (may, (r, leads, rest)) = (may.may, (r, leads, moves_of R c ms r q rest))

pub reaches_of : {S : Type 0} (R : Relations S) (c : Clauses) (ms : List Move) (q : Reached S) → ReachesLearning R c ms q → Reaches R c ms q
reaches_of R c ms q (s, opens, learns) = (s, opens, moves_of R c ms (opened s) q learns)

pub open_of : {S : Type 0} (R : Relations S) (c : Clauses) (ms : List Move) → IsOpenLearning R c ms → IsOpen R c ms
open_of R c ms (p, m, reached, charged, may) = (p, m, reaches_of R c ms p reached, charged, may.may)

pub sticks_of : {S : Type 0} (R : Relations S) (c : Clauses) (ms : List Move) (k : Stuck) → SticksLearning R c ms k → Sticks R c ms k
sticks_of R c ms k (inl (p, reached, stuck)) = inl (p, reaches_of R c ms p reached, stuck)
sticks_of R c ms k (inr (front, m, p, is, reached, may, stuck)) = inr (front, m, p, is, reaches_of R c front p reached, may.may, stuck)

-- ---- rows of pivots

abbrev pub pivot_of : ℕ × ℕ → Move
pivot_of p = Pivot p.0 p.1

module _ {S : Type 0} (R : Relations S) (c : Clauses) (s : S) (trail : List Entry) (lemmas : List Lemma) where
  -- the moves reach this state, and a pivot may follow where one is allowed
  pub record IsPivoted (ms : List Move) (t : S) : Type 0 where
    pub last : Last
    pub reached : ReachesLearning (starting_at s R) c ms (place trail lemmas t last)
    pub moved : last ≡ cut → ⊥
    pub calm : last ≡ literal → R.contradicts t → ⊥
    pub turn : (b o : ℕ) → R.allowed_pivot t b o → (last ≡ literal) ⊎ (last ≡ exchange)

not_literal : exchange ≡ literal → ⊥
not_literal e = cc

not_cut : exchange ≡ cut → ⊥
not_cut e = cc

pub literal_not_cut : literal ≡ cut → ⊥
literal_not_cut e = cc

pub nothing_not_cut : nothing ≡ cut → ⊥
nothing_not_cut e = cc

-- a pivot that may be made
pub may_pivot : {S : Type 0} (R : Relations S) (c : Clauses) (s : S) (trail : List Entry) (lemmas : List Lemma) (ms : List Move) (t : S)
    (there : IsPivoted R c s trail lemmas ms t) (b o : ℕ) → R.allowed_pivot t b o → MayLearn (starting_at s R) c (place trail lemmas t there.last) (Pivot b o)
may_pivot R c s trail lemmas ms t there b o allowed =
    record { may = (allowed, (there.calm, there.turn b o allowed)); teaches = tt; heeds = λ e. absurd (there.moved e) }

pub pivots_made : {S : Type 0} (R : Relations S) (c : Clauses) (s : S) (trail : List Entry) (lemmas : List Lemma) (ps : List (ℕ × ℕ)) (ms : List Move)
    (u t : S) → IsPivoted R c s trail lemmas ms u → PivotsLead R u ps t → IsPivoted R c s trail lemmas (ms ++ map pivot_of ps) t
pivots_made {S} R c s trail lemmas [] ms u t before e =
    subst (λ (ns : List Move). IsPivoted R c s trail lemmas ns t) (sym (append-nil ms)) (subst (λ (x : S). IsPivoted R c s trail lemmas ms x) e before)
pivots_made R c s trail lemmas (p ∷ ps) ms u t before (allowed, (v, leads, rest)) =
    subst (λ (ns : List Move). IsPivoted R c s trail lemmas ns t) (append_assoc ms (pivot_of p ∷ []) (map pivot_of ps)) (pivots_made R c s trail lemmas ps (ms ++ pivot_of p ∷ []) v t once rest)
  where
    once : IsPivoted R c s trail lemmas (ms ++ pivot_of p ∷ []) v
    once = record {
      last = exchange;
      reached = reaches_more (starting_at s R) c ms (pivot_of p) (place trail lemmas u before.last) (place trail lemmas v exchange) before.reached (may_pivot R c s trail lemmas ms u before p.0 p.1 allowed) (refl, refl, leads, refl);
      moved = not_cut;
      calm = λ e contradicts. not_literal e;
      turn = λ b o a. inr refl;
    }

pub sticks_after : {S : Type 0} (R : Relations S) (c : Clauses) (s : S) (trail : List Entry) (lemmas : List Lemma) (ps : List (ℕ × ℕ)) (ms : List Move)
    (u : S) (k : Stuck) → IsPivoted R c s trail lemmas ms u → StuckAfterPivots R u ps k → SticksLearning (starting_at s R) c (ms ++ map pivot_of ps) k
sticks_after R c s trail lemmas ps ms u k before (inl (front, last, t, is, leads, allowed, stuck)) =
    let there = pivots_made R c s trail lemmas front ms u t before leads in
    inr (
      ms ++ map pivot_of front,
      pivot_of last,
      place trail lemmas t there.last,
      ap (λ (qs : List (ℕ × ℕ)). ms ++ map pivot_of qs) is ∙ ap (λ (ns : List Move). ms ++ ns) (map-append pivot_of front (last ∷ [])) ∙ sym (append_assoc ms (map pivot_of front) (pivot_of last ∷ [])),
      there.reached,
      may_pivot R c s trail lemmas (ms ++ map pivot_of front) t there last.0 last.1 allowed,
      stuck,
    )
sticks_after R c s trail lemmas ps ms u k before (inr (t, leads, stuck)) =
    let there = pivots_made R c s trail lemmas ps ms u t before leads in
    inl (place trail lemmas t there.last, there.reached, stuck)

-- ---- counts

pub count_more : (test : Move → Bool) (ms ns : List Move) → how_many test (ms ++ ns) ≡ how_many test ms + how_many test ns
count_more test ms ns = ap length (filter-append test ms ns) ∙ length-append (filter test ms) (filter test ns)

count_last : (test : Move → Bool) (ms : List Move) (m : Move) (n k : ℕ) → n ≡ how_many test ms → how_many test (m ∷ []) ≡ k
    → n + k ≡ how_many test (ms ++ m ∷ [])
count_last test ms m n k e f = ap (λ (i : ℕ). i + k) e ∙ ap (λ (i : ℕ). how_many test ms + i) (sym f) ∙ sym (count_more test ms (m ∷ []))

count_same : (test : Move → Bool) (ms : List Move) (m : Move) (n : ℕ) → n ≡ how_many test ms → how_many test (m ∷ []) ≡ 0 → n ≡ how_many test (ms ++ m ∷ [])
count_same test ms m n e f = plus_zero n ∙ count_last test ms m n 0 e f
  where
    plus_zero : (k : ℕ) → k ≡ k + 0
    plus_zero k = omega arith

pub tally_literal : (ms : List Move) (n : Counts) (l : Lit) (by : Option ℕ) → IsTally ms n → IsTally (ms ++ move_of l by ∷ []) (charged (charge_of by) n)
tally_literal ms n l None t = record {
  decisions = count_last is_decide ms (Decide l) n.decisions 1 t.decisions refl;
  propagations = count_same is_propagate ms (Decide l) n.propagations t.propagations refl;
  pivots = count_same is_pivot ms (Decide l) n.pivots t.pivots refl;
  conflicts = count_same is_conflict ms (Decide l) n.conflicts t.conflicts refl;
}
tally_literal ms n l (Some k) t = record {
  decisions = count_same is_decide ms (Propagate l k) n.decisions t.decisions refl;
  propagations = count_last is_propagate ms (Propagate l k) n.propagations 1 t.propagations refl;
  pivots = count_same is_pivot ms (Propagate l k) n.pivots t.pivots refl;
  conflicts = count_same is_conflict ms (Propagate l k) n.conflicts t.conflicts refl;
}

pub tally_conflict : (ms : List Move) (n : Counts) (clause : List Lit) (keep : ℕ) → IsTally ms n → IsTally (ms ++ Conflict clause keep ∷ []) (conflict_noted n)
tally_conflict ms n clause keep t = record {
  decisions = count_same is_decide ms (Conflict clause keep) n.decisions t.decisions refl;
  propagations = count_same is_propagate ms (Conflict clause keep) n.propagations t.propagations refl;
  pivots = count_same is_pivot ms (Conflict clause keep) n.pivots t.pivots refl;
  conflicts = count_last is_conflict ms (Conflict clause keep) n.conflicts 1 t.conflicts refl;
}

abbrev pub with_pivots : Counts → ℕ → Counts
with_pivots n k = record { limit = n.limit; decisions = n.decisions; propagations = n.propagations; pivots = n.pivots + k; conflicts = n.conflicts }

all_pivots : (ps : List (ℕ × ℕ)) → how_many is_pivot (map pivot_of ps) ≡ length ps
all_pivots [] = refl
all_pivots (p ∷ ps) = ap suc (all_pivots ps)

none_more : (test : Move → Bool) (ms : List Move) (ps : List (ℕ × ℕ)) (n : ℕ) → n ≡ how_many test ms → how_many test (map pivot_of ps) ≡ 0
    → n ≡ how_many test (ms ++ map pivot_of ps)
none_more test ms ps n e f = e ∙ plus_zero (how_many test ms) ∙ ap (λ (i : ℕ). how_many test ms + i) (sym f) ∙ sym (count_more test ms (map pivot_of ps))
  where
    plus_zero : (k : ℕ) → k ≡ k + 0
    plus_zero k = omega arith

pub tally_pivots : (ms : List Move) (n : Counts) (ps : List (ℕ × ℕ)) → IsTally ms n → IsTally (ms ++ map pivot_of ps) (with_pivots n (length ps))
tally_pivots ms n ps t = record {
  decisions = none_more is_decide ms ps n.decisions t.decisions (no_decide ps);
  propagations = none_more is_propagate ms ps n.propagations t.propagations (no_propagate ps);
  pivots = ap (λ (i : ℕ). i + length ps) t.pivots ∙ ap (λ (i : ℕ). how_many is_pivot ms + i) (sym (all_pivots ps)) ∙ sym (count_more is_pivot ms (map pivot_of ps));
  conflicts = none_more is_conflict ms ps n.conflicts t.conflicts (no_conflict ps);
}
  where
    no_decide : (qs : List (ℕ × ℕ)) → how_many is_decide (map pivot_of qs) ≡ 0
    no_decide [] = refl
    no_decide (q ∷ qs) = no_decide qs

    no_propagate : (qs : List (ℕ × ℕ)) → how_many is_propagate (map pivot_of qs) ≡ 0
    no_propagate [] = refl
    no_propagate (q ∷ qs) = no_propagate qs

    no_conflict : (qs : List (ℕ × ℕ)) → how_many is_conflict (map pivot_of qs) ≡ 0
    no_conflict [] = refl
    no_conflict (q ∷ qs) = no_conflict qs

pub charged_moves : {S : Type 0} (R : Relations S) (c : Clauses) (ms : List Move)
    → how_many (is_charged R c) ms ≡ how_many is_decide ms + how_many is_propagate ms + how_many is_pivot ms
charged_moves R c [] = refl
charged_moves R c (Decide l ∷ ms) = let rest = charged_moves R c ms in omega arith
charged_moves R c (Propagate l n ∷ ms) = let rest = charged_moves R c ms in omega arith
charged_moves R c (Pivot b o ∷ ms) = let rest = charged_moves R c ms in omega arith
charged_moves R c (Conflict clause keep ∷ ms) = charged_moves R c ms

pub charged_spent : {S : Type 0} (R : Relations S) (c : Clauses) (ms : List Move) (n : Counts) → IsTally ms n → how_many (is_charged R c) ms ≡ spent n
charged_spent R c ms n t = let d = t.decisions in let p = t.propagations in let v = t.pivots in let all = charged_moves R c ms in omega arith

pub spent_charged : (n : Counts) (by : Option ℕ) → spent (charged (charge_of by) n) ≡ spent n + 1
spent_charged n None = omega arith
spent_charged n (Some k) = omega arith

pub limit_charged : (n : Counts) (by : Option ℕ) → (charged (charge_of by) n).limit ≡ n.limit
limit_charged n None = refl
limit_charged n (Some k) = refl

pub conflicts_charged : (n : Counts) (by : Option ℕ) → (charged (charge_of by) n).conflicts ≡ n.conflicts
conflicts_charged n None = refl
conflicts_charged n (Some k) = refl
