-- Drawn sections break no rule.
use Rattle.std.proofs.Common.{◌≡◌, ℕ, zero, suc, ◌+◌, ◌≤◌, Bool, true, false, List, [], ◌∷◌, ◌++◌, Some, None, Ok, refl, ap, ◌∙◌, arith}
use Rattle.std.specs.Prelude.{All, codes, slice_get}
use Rattle.std.specs.Fmt.{digits}
use Rattle.std.specs.List.{list_any}
use Rattle.std.specs.Str.{bytes_eq}
use Rattle.std.proofs.lemmas.Int.{ints}
use Rattle.std.proofs.lemmas.List.Elements.{All-append, All-nil, All-cons, All-head, All-tail}
use Rattle.weighing.specs.First.{and_then, first}
use Rattle.weighing.specs.declared.scales.Num.{Num}
use Rattle.condition_syntax.specs.Trees.{Condition}
use Rattle.ctrl_syntax.specs.declared.syntax.StateLine.{StateLine}
use Rattle.ctrl_syntax.specs.declared.syntax.SetLine.{SetLine}
use Rattle.ctrl_syntax.specs.Sections.{Rule, Sections}
use Rattle.ctrl_types.specs.Names.{has_name, is_among, is_reserved, state_named, signal_named, source_named, source_of, has_unknown, kind_of, names_kind, kind_named, mixes_sides, mixes_set, mixes_bound}
use Rattle.ctrl_types.specs.Statements.{LineContent, state as state_says, rule as rule_says, assignment, window, state_sayings, set_sayings, rule_sayings, sayings, numbers, Statement, placed, statements, unknown_sides, mixed_sides, is_unfit, is_above, is_empty, ends_otherwise, sets_name, takes_name, names_none, mixes_kinds, turns_bounds, sets_again, misplaces_otherwise, delays_unfit, counts, exceeds_limit, IsUnbroken}
use Rattle.ctrl_types.proofs.EndAlike.{judged}
use Rattle.ctrl_types.proofs.FirstLaws.{unbroken}
use Rattle.ctrl_gen.specs.Problems.{over, alone, name_term, sum_of, state_name}
use Rattle.made_problems.proofs.Numbered.{Numbered, none, next}
use Rattle.made_problems.proofs.Shapes.{IsState, state, IsSet, assigned, IsGuard, lost, acked, waits, rule, AreRules, otherwise, before, AreFew, one, two, three, AreSections, sections}
use Rattle.made_problems.proofs.Denominators.{IsSmall, small, common_within}

-- ---- what a line says breaks no rule

pub record IsFine (states : List StateLine) (x : LineContent) : Type 0 where
  pub name_free : takes_name x ≡ false
  pub known : names_none states x ≡ false
  pub one_kind : mixes_kinds states x ≡ false
  pub in_order : turns_bounds x ≡ false
  pub once : sets_again x ≡ false
  pub ends : misplaces_otherwise x ≡ false
  pub fits : delays_unfit x ≡ false
  pub amounts : counts states x ≡ false
  pub each_small : All IsSmall (numbers x)

one_passed : (states : List StateLine) (x : Statement) → IsFine states x.says → All IsSmall x.before → judged states x ≡ Ok tt
unfolding exceeds_limit
one_passed states x fine small =
    let within = common_within (x.before ++ numbers x.says) (All-append IsSmall x.before (numbers x.says) small fine.each_small) in
    rw (fine.name_free, fine.known, fine.one_kind, fine.in_order, fine.once, fine.ends, fine.fits, within, fine.amounts) refl

all_passed : (states : List StateLine) (earlier : List Num) (xs : List LineContent) → All IsSmall earlier → All (IsFine states) xs → first (judged states) (placed earlier xs) ≡ Ok tt
all_passed states earlier [] small fine = refl
all_passed states earlier (x ∷ xs) small fine =
    let here = All-head (IsFine states) x xs fine in
    let one : judged states (record { says = x; before = earlier }) ≡ Ok tt = one_passed states (record { says = x; before = earlier }) here small in
    ap (λ t. and_then t (first (judged states) (placed (earlier ++ numbers x) xs))) one
    ∙ all_passed states (earlier ++ numbers x) xs (All-append IsSmall earlier (numbers x) small here.each_small) (All-tail (IsFine states) x xs fine)

two_small : (p q : Num) → IsSmall p → IsSmall q → All IsSmall (p ∷ q ∷ [])
two_small p q p_is q_is = All-cons IsSmall p (q ∷ []) p_is (All-cons IsSmall q [] q_is (All-nil IsSmall))

-- ---- states

not_above : (lo spread : ℕ) → is_above (over lo 1) (over (lo + spread) 1) ≡ false
unfolding is_above
not_above lo spread = grind (arith, ints)

state_fine : (states earlier : List StateLine) (j : ℕ) (s : StateLine) → is_reserved (state_name j) ≡ false → list_any (has_name (state_name j)) earlier ≡ false → IsState j s → IsFine states (state_says earlier s)
state_fine states earlier j s free new (state lo spread line low wide) = record {
  name_free = rw (free, new) refl;
  known = refl;
  one_kind = refl;
  in_order = not_above lo spread;
  once = refl;
  ends = refl;
  fits = refl;
  amounts = refl;
  each_small = two_small (over lo 1) (over (lo + spread) 1) (small lo 1 (omega arith) (omega arith) (omega arith)) (small (lo + spread) 1 (omega arith) (omega arith) (omega arith));
}

-- ---- what is known where the states are these

-- state j stands at this place, and is an amount
pub record Knows (states : List StateLine) (j i : ℕ) : Type 0 where
  pub state : StateLine
  pub named : state_named states (state_name j) ≡ Some i
  pub found : slice_get states i ≡ Some state
  pub amount : state.count ≡ false

set_fine : (states : List StateLine) (earlier : List SetLine) (j i : ℕ) (s : SetLine) → Knows states j i → list_any (sets_name (state_name j)) earlier ≡ false → IsSet j s → IsFine states (assignment earlier s)
unfolding has_unknown source_of source_named mixes_set kind_named names_kind kind_of
set_fine states earlier j i s knows new (assigned a b c d line is) =
    let a_to = is.a_to in
    let c_to = is.c_to in
    record {
      name_free = refl;
      known = rw knows.named refl;
      one_kind = rw (knows.named, knows.found, knows.amount) refl;
      in_order = refl;
      once = new;
      ends = refl;
      fits = refl;
      amounts = refl;
      each_small = two_small (over a b) (over c d) (small a b (omega arith) is.b_from is.b_to) (small c d (omega arith) is.d_from is.d_to);
    }

record Fits (n : ℕ) (states : List StateLine) : Type 0 where
  states_fine : All (IsFine states) (state_sayings [] states)
  lost_is : state_named states (codes "lost") ≡ None
  acked_is : state_named states (codes "acked") ≡ None
  first : Knows states 1 0
  sets_fine : (sets : List SetLine) → Numbered IsSet 1 n sets → All (IsFine states) (set_sayings [] sets)

-- ---- rules

signal_fine : (states : List StateLine) (is_last : Bool) (sets : List SetLine) (line : ℕ) (guard : Condition) → state_named states (codes "lost") ≡ None → state_named states (codes "acked") ≡ None → IsGuard guard
    → IsFine states (rule_says is_last (record { guard = Some guard; sets = sets; line = line }))
unfolding has_unknown source_of source_named signal_named names_kind kind_of unknown_sides mixed_sides mixes_sides is_unfit
signal_fine states is_last sets line guard no_lost no_acked lost = record {
  name_free = refl;
  known = rw no_lost refl;
  one_kind = rw no_lost refl;
  in_order = refl;
  once = refl;
  ends = refl;
  fits = refl;
  amounts = refl;
  each_small = two_small (over 1 1) (over 0 1) (small 1 1 (omega arith) (omega arith) (omega arith)) (small 0 1 (omega arith) (omega arith) (omega arith));
}
signal_fine states is_last sets line guard no_lost no_acked (acked c to) = record {
  name_free = refl;
  known = rw no_acked refl;
  one_kind = rw no_acked refl;
  in_order = refl;
  once = refl;
  ends = refl;
  fits = refl;
  amounts = refl;
  each_small = two_small (over 1 1) (over c 1) (small 1 1 (omega arith) (omega arith) (omega arith)) (small c 1 (omega arith) (omega arith) (omega arith));
}
signal_fine states is_last sets line guard no_lost no_acked (waits k to) = record {
  name_free = refl;
  known = refl;
  one_kind = refl;
  in_order = refl;
  once = refl;
  ends = refl;
  fits = by k to;
  amounts = refl;
  each_small = All-nil IsSmall;
}
  where
    by : (m : ℕ) → m ≤ 2 → is_unfit (over m 1) ≡ false
    by zero le = refl
    by (suc zero) le = refl
    by (suc (suc zero)) le = refl
    by (suc (suc (suc m))) le = absurd (omega arith)

otherwise_fine : (states : List StateLine) (line : ℕ) → IsFine states (rule_says true (record { guard = None; sets = []; line = line }))
otherwise_fine states line =
    record { name_free = refl; known = refl; one_kind = refl; in_order = refl; once = refl; ends = refl; fits = refl; amounts = refl; each_small = All-nil IsSmall }

rules_fine : {n count : ℕ} {rules : List Rule} (states : List StateLine) → Fits n states → AreRules n count rules → All (IsFine states) (rule_sayings rules)
rules_fine states fits (otherwise line) =
    All-cons (IsFine states) (rule_says true (record { guard = None; sets = []; line = line })) [] (otherwise_fine states line) (All-nil (IsFine states))
rules_fine states fits (before {rules = others} (rule {guard = c} {sets} line guarded sets_are) rest) =
    let r : Rule = record { guard = Some c; sets = sets; line = line } in
    All-cons (IsFine states) (rule_says (is_empty others) r) (set_sayings [] sets ++ rule_sayings others) (signal_fine states (is_empty others) sets line c fits.lost_is fits.acked_is guarded)
    (All-append (IsFine states) (set_sayings [] sets) (rule_sayings others) (fits.sets_fine sets sets_are) (rules_fine states fits rest))

rules_end : {n count : ℕ} {rules : List Rule} → AreRules n count rules → count ≤ 2 → ends_otherwise rules ≡ true
unfolding ends_otherwise
rules_end (otherwise line) to = refl
rules_end (before a (otherwise line)) to = refl
rules_end (before a (before b (otherwise line))) to = refl
rules_end (before a (before b (before c rest))) to = absurd (omega arith)

-- ---- the window

window_fine : (states : List StateLine) (rules : List Rule) (line : ℕ) → Knows states 1 0 → ends_otherwise rules ≡ true → IsFine states (window rules (sum_of (name_term (over 1 1) (alone (state_name 1)) ∷ [])) line)
unfolding has_unknown source_of source_named mixes_bound names_kind kind_of
window_fine states rules line knows ended = record {
  name_free = refl;
  known = rw knows.named refl;
  one_kind = rw (knows.named, knows.found, knows.amount) refl;
  in_order = refl;
  once = refl;
  ends = rw ended refl;
  fits = refl;
  amounts = rw (knows.named, knows.found, knows.amount) refl;
  each_small = All-cons IsSmall (over 1 1) [] (small 1 1 (omega arith) (omega arith) (omega arith)) (All-nil IsSmall);
}

-- ---- one, two and three states

-- state 1 is known, and stands first
first_known : (s : StateLine) (others : List StateLine) → IsState 1 s → Knows (s ∷ others) 1 0
unfolding state_named digits
first_known s others (state lo spread line low wide) = record { state = s; named = refl; found = refl; amount = refl }

second_known : (s t : StateLine) (others : List StateLine) → IsState 1 s → IsState 2 t → Knows (s ∷ t ∷ others) 2 1
unfolding state_named digits
second_known s t others (state lo spread line low wide) (state lo2 spread2 line2 low2 wide2) = record { state = t; named = refl; found = refl; amount = refl }

third_known : (s t u : StateLine) → IsState 1 s → IsState 2 t → IsState 3 u → Knows (s ∷ t ∷ u ∷ []) 3 2
unfolding state_named digits
third_known s t u (state lo spread line low wide) (state lo2 spread2 line2 low2 wide2) (state lo3 spread3 line3 low3 wide3) = record { state = u; named = refl; found = refl; amount = refl }

-- an earlier state has another name
other_state : (j k : ℕ) (s : StateLine) → IsState j s → bytes_eq (state_name j) (state_name k) ≡ false → has_name (state_name k) s ≡ false
other_state j k s (state lo spread line low wide) e = e

other_set : (j k : ℕ) (s : SetLine) → IsSet j s → bytes_eq (state_name j) (state_name k) ≡ false → sets_name (state_name k) s ≡ false
other_set j k s (assigned a b c d line is) e = e

record AreApart : Type 0 where
  free1 : is_reserved (state_name 1) ≡ false
  free2 : is_reserved (state_name 2) ≡ false
  free3 : is_reserved (state_name 3) ≡ false
  apart12 : bytes_eq (state_name 1) (state_name 2) ≡ false
  apart13 : bytes_eq (state_name 1) (state_name 3) ≡ false
  apart23 : bytes_eq (state_name 2) (state_name 3) ≡ false

names : AreApart
unfolding is_reserved is_among digits
names = record { free1 = refl; free2 = refl; free3 = refl; apart12 = refl; apart13 = refl; apart23 = refl }

unnamed : (w : List ℕ) → bytes_eq (state_name 1) w ≡ false → bytes_eq (state_name 2) w ≡ false → bytes_eq (state_name 3) w ≡ false → {n : ℕ} {states : List StateLine} → AreFew n → Numbered IsState 1 n states
    → state_named states w ≡ None
unfolding state_named
unnamed w e1 e2 e3 one (next (state lo spread line low wide) none) = rw e1 refl
unnamed w e1 e2 e3 two (next (state lo spread line low wide) (next (state lo2 spread2 line2 low2 wide2) none)) = rw (e1, e2) refl
unnamed w e1 e2 e3 three (next (state lo spread line low wide) (next (state lo2 spread2 line2 low2 wide2) (next (state lo3 spread3 line3 low3 wide3) none))) = rw (e1, e2, e3) refl

record SignalsFree : Type 0 where
  lost1 : bytes_eq (state_name 1) (codes "lost") ≡ false
  lost2 : bytes_eq (state_name 2) (codes "lost") ≡ false
  lost3 : bytes_eq (state_name 3) (codes "lost") ≡ false
  acked1 : bytes_eq (state_name 1) (codes "acked") ≡ false
  acked2 : bytes_eq (state_name 2) (codes "acked") ≡ false
  acked3 : bytes_eq (state_name 3) (codes "acked") ≡ false

signals : SignalsFree
unfolding digits
signals = record { lost1 = refl; lost2 = refl; lost3 = refl; acked1 = refl; acked2 = refl; acked3 = refl }

states_fine : {n : ℕ} {states : List StateLine} → AreFew n → Numbered IsState 1 n states → All (IsFine states) (state_sayings [] states)
states_fine {states} one (next {x = s} a none) = All-cons (IsFine states) (state_says [] s) [] (state_fine states [] 1 s names.free1 refl a) (All-nil (IsFine states))
states_fine {states} two (next {x = s} a (next {x = t} b none)) =
    All-cons (IsFine states) (state_says [] s) (state_says (s ∷ []) t ∷ []) (state_fine states [] 1 s names.free1 refl a)
    (All-cons (IsFine states) (state_says (s ∷ []) t) [] (state_fine states (s ∷ []) 2 t names.free2 (rw (other_state 1 2 s a names.apart12) refl) b) (All-nil (IsFine states)))
states_fine {states} three (next {x = s} a (next {x = t} b (next {x = u} c none))) =
    All-cons (IsFine states) (state_says [] s) (state_says (s ∷ []) t ∷ state_says (s ∷ t ∷ []) u ∷ []) (state_fine states [] 1 s names.free1 refl a)
    (All-cons (IsFine states) (state_says (s ∷ []) t) (state_says (s ∷ t ∷ []) u ∷ []) (state_fine states (s ∷ []) 2 t names.free2 (rw (other_state 1 2 s a names.apart12) refl) b)
    (All-cons (IsFine states) (state_says (s ∷ t ∷ []) u) []
    (state_fine states (s ∷ t ∷ []) 3 u names.free3 (rw (other_state 1 3 s a names.apart13, other_state 2 3 t b names.apart23) refl) c) (All-nil (IsFine states))))

sets_fine : {n : ℕ} {states : List StateLine} {sets : List SetLine} → AreFew n → Numbered IsState 1 n states → Numbered IsSet 1 n sets → All (IsFine states) (set_sayings [] sets)
sets_fine {states} one (next {x = s} a none) (next {x = p} f none) =
    All-cons (IsFine states) (assignment [] p) [] (set_fine states [] 1 0 p (first_known s [] a) refl f) (All-nil (IsFine states))
sets_fine {states} two (next {x = s} a (next {x = t} b none)) (next {x = p} f (next {x = q} g none)) =
    All-cons (IsFine states) (assignment [] p) (assignment (p ∷ []) q ∷ []) (set_fine states [] 1 0 p (first_known s (t ∷ []) a) refl f)
    (All-cons (IsFine states) (assignment (p ∷ []) q) [] (set_fine states (p ∷ []) 2 1 q (second_known s t [] a b) (rw (other_set 1 2 p f names.apart12) refl) g) (All-nil (IsFine states)))
sets_fine {states} three (next {x = s} a (next {x = t} b (next {x = u} c none))) (next {x = p} f (next {x = q} g (next {x = r} h none))) =
    All-cons (IsFine states) (assignment [] p) (assignment (p ∷ []) q ∷ assignment (p ∷ q ∷ []) r ∷ []) (set_fine states [] 1 0 p (first_known s (t ∷ u ∷ []) a) refl f)
    (All-cons (IsFine states) (assignment (p ∷ []) q) (assignment (p ∷ q ∷ []) r ∷ []) (set_fine states (p ∷ []) 2 1 q (second_known s t (u ∷ []) a b) (rw (other_set 1 2 p f names.apart12) refl) g)
    (All-cons (IsFine states) (assignment (p ∷ q ∷ []) r) []
    (set_fine states (p ∷ q ∷ []) 3 2 r (third_known s t u a b c) (rw (other_set 1 3 p f names.apart13, other_set 2 3 q g names.apart23) refl) h) (All-nil (IsFine states))))

knows_first : {n : ℕ} {states : List StateLine} → AreFew n → Numbered IsState 1 n states → Knows states 1 0
knows_first one (next {x = s} {xs} a rest) = first_known s xs a
knows_first two (next {x = s} {xs} a rest) = first_known s xs a
knows_first three (next {x = s} {xs} a rest) = first_known s xs a

fits : {n : ℕ} {states : List StateLine} → AreFew n → Numbered IsState 1 n states → Fits n states
fits few are = record {
  states_fine = states_fine few are;
  lost_is = unnamed (codes "lost") signals.lost1 signals.lost2 signals.lost3 few are;
  acked_is = unnamed (codes "acked") signals.acked1 signals.acked2 signals.acked3 few are;
  first = knows_first few are;
  sets_fine = λ sets sets_are. sets_fine few are sets_are;
}

-- ---- all sections

pub drawn_unbroken : (s : Sections) → AreSections s → IsUnbroken s
unfolding sayings statements
drawn_unbroken s (sections {states} {rules} line few states_are count_to rules_are) =
    let knows = fits few states_are in
    let Fine : LineContent → Type 0 = IsFine states in
    let at_window : LineContent = window rules (sum_of (name_term (over 1 1) (alone (state_name 1)) ∷ [])) line in
    let all : All Fine (sayings s) =
    All-append Fine (state_sayings [] states) (rule_sayings rules ++ at_window ∷ []) knows.states_fine
    (All-append Fine (rule_sayings rules) (at_window ∷ []) (rules_fine states knows rules_are)
    (All-cons Fine at_window [] (window_fine states rules line knows.first (rules_end rules_are count_to)) (All-nil Fine))) in
    unbroken s (all_passed states [] (sayings s) (All-nil IsSmall) all)
