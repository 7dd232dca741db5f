-- The drawn texts are short.
use Rattle.std.proofs.Common.{ℕ, suc, ◌+◌, ◌*◌, ◌-◌, ◌<◌, ◌≤◌, ◌^◌, Bool, true, false, cond, List, [], ◌∷◌, ◌++◌, length, Option, length-append, arith}
use Rattle.std.specs.Prelude.{codes, flat_map, ◌==◌, pos, int_lt}
use Rattle.std.specs.Fmt.{decimal}
use Rattle.std.proofs.lemmas.Fmt.{length-decimal-le}
use Rattle.condition_syntax.specs.declared.expressions.ETerm.{ETerm}
use Rattle.condition_syntax.specs.Trees.{Condition}
use Rattle.condition_syntax.specs.CanonicalText.{denominator_text, number_text, name_text, is_unit, is_negative, unsigned_text, first_text, later_text, expr_text, condition_text}
use Rattle.ctrl_syntax.specs.declared.syntax.StateLine.{StateLine}
use Rattle.ctrl_syntax.specs.declared.syntax.SetLine.{SetLine}
use Rattle.ctrl_syntax.specs.Sections.{Rule, Sections}
use Rattle.ctrl_syntax.specs.Printed.{bound_text, state_text, set_text, line_text, rule_text, printed}
use Rattle.question_syntax.specs.Printed.{buffer_text, setting_text, printed as question_printed}
use Rattle.ctrl_gen.specs.Problems.{Problem, over, alone, name_term, number_term, state_name, served_by, serves_at_least, pair_if, setting_of, question_of}
use Rattle.made_problems.proofs.Numbered.{Numbered, none, next}
use Rattle.made_problems.proofs.Shapes.{IsState, state, IsSet, assigned, IsGuard, lost, acked, waits, rule, AreRules, otherwise, before, AreFew, one, two, three, AreSections, sections}
use Rattle.made_problems.proofs.Names.{name_is}
use Rattle.made_problems.proofs.Bounds.{IsBuffer, unlimited, limited, IsBounded}
use Rattle.made_problems.proofs.QuestionMeant.{minus_one}

-- ---- parts of lines

either_short : (b : Bool) (xs ys : List ℕ) (m : ℕ) → length xs ≤ m → length ys ≤ m → length (cond b xs ys) ≤ m
either_short true xs ys m x y = x
either_short false xs ys m x y = y

decimal_short : (n : ℕ) → n ≤ 5000 → length (decimal n) ≤ 4
decimal_short n to = length-decimal-le 4 n (omega arith) (omega arith) (omega arith)

number_short : (n d : ℕ) → n ≤ 1000 → d ≤ 1000 → length (number_text (over n d)) ≤ 9
unfolding number_text
number_short n d to small =
    let a = decimal_short n (omega arith) in
    let b = decimal_short d (omega arith) in
    let c : length (denominator_text d) ≤ 5 = either_short (d == 1) [] (47 ∷ decimal d) 5 (omega arith) (omega arith) in
    simp length-append (omega arith)

bound_short : (n : ℕ) → n ≤ 1000 → length (bound_text (over n 1)) ≤ 10
unfolding bound_text
bound_short n to = let s = either_short (int_lt (over n 1).num (pos 0)) (codes "-") [] 1 (omega arith) (omega arith) in let a = number_short n 1 to (omega arith) in simp length-append (omega arith)

name_short : (w : List ℕ) → length w ≤ 16 → length (name_text (alone w)) ≤ 16
unfolding name_text
name_short w short = simp length-append (omega arith)

named_short : (a b : ℕ) (w : List ℕ) → a ≤ 1000 → b ≤ 1000 → length w ≤ 16 → length (unsigned_text (name_term (over a b) (alone w))) ≤ 28
named_short a b w a_to b_to short =
    let n = number_short a b a_to b_to in
    let x = name_short w short in
    let both : length (number_text (over a b) ++ (codes " * " ++ name_text (alone w))) ≤ 28 = simp length-append (omega arith) in
    either_short (is_unit (over a b)) (name_text (alone w)) (number_text (over a b) ++ (codes " * " ++ name_text (alone w))) 28 (omega arith) both

first_short : (t : ETerm) → length (unsigned_text t) ≤ 28 → length (first_text t) ≤ 29
unfolding first_text
first_short t short = let s = either_short (is_negative t) (codes "-") [] 1 (omega arith) (omega arith) in simp length-append (omega arith)

later_short : (t : ETerm) → length (unsigned_text t) ≤ 28 → length (later_text t) ≤ 31
unfolding later_text
later_short t short = let s = either_short (is_negative t) (codes " - ") (codes " + ") 3 (omega arith) (omega arith) in simp length-append (omega arith)

one_short : (t : ETerm) → length (unsigned_text t) ≤ 28 → length (expr_text (t ∷ [])) ≤ 29
unfolding expr_text
one_short t short = let a = first_short t short in simp length-append (omega arith)

two_short : (t u : ETerm) → length (unsigned_text t) ≤ 28 → length (unsigned_text u) ≤ 28 → length (expr_text (t ∷ u ∷ [])) ≤ 60
unfolding expr_text
two_short t u first later = let a = first_short t first in let b = later_short u later in simp length-append (omega arith)

-- ---- the controller's lines

state_short : (j : ℕ) (s : StateLine) → 1 ≤ j → j ≤ 3 → IsState j s → length (line_text state_text s) ≤ 100
unfolding state_text
state_short j s from to (state lo spread line low wide) =
    let name = name_is j from to in
    let short = name.short in
    let a = bound_short lo (omega arith) in
    let b = bound_short (lo + spread) (omega arith) in
    simp length-append (omega arith)

set_short : (j : ℕ) (s : SetLine) → 1 ≤ j → j ≤ 3 → IsSet j s → length (line_text set_text s) ≤ 100
unfolding set_text
set_short j s from to (assigned a b c d line is) =
    let name = name_is j from to in
    let short = name.short in
    let a_to = is.a_to in
    let b_to = is.b_to in
    let c_to = is.c_to in
    let d_to = is.d_to in
    let number : length (number_text (over c d)) ≤ 28 = let n = number_short c d (omega arith) (omega arith) in omega arith in
    let e = two_short (name_term (over a b) (alone (state_name j))) (number_term (over c d)) (named_short a b (state_name j) (omega arith) (omega arith) short) number in
    simp length-append (omega arith)

signal_short : (signal : List ℕ) (n : ℕ) → length signal ≤ 16 → n ≤ 1000
    → length (expr_text (name_term (over 1 1) (alone signal) ∷ []) ++ (codes " > " ++ expr_text (number_term (over n 1) ∷ []))) ≤ 61
signal_short signal n short to =
    let a = one_short (name_term (over 1 1) (alone signal)) (named_short 1 1 signal (omega arith) (omega arith) short) in
    let number : length (number_text (over n 1)) ≤ 28 = let m = number_short n 1 to (omega arith) in omega arith in
    let b = one_short (number_term (over n 1)) number in
    simp length-append (omega arith)

guard_short : (c : Condition) → IsGuard c → length (condition_text c) ≤ 61
unfolding condition_text
guard_short c lost = signal_short (codes "lost") 0 (omega arith) (omega arith)
guard_short c (acked n to) = signal_short (codes "acked") n (omega arith) (omega arith)
guard_short c (waits k to) = let n = number_short k 1 (omega arith) (omega arith) in simp length-append (omega arith)

numbered_short : {X : Type 0} (text : X → List ℕ) (Is : ℕ → X → Type 0) → ((j : ℕ) (x : X) → 1 ≤ j → j ≤ 3 → Is j x → length (text x) ≤ 100)
    → {k n : ℕ} {xs : List X} → 1 ≤ k → k + n ≤ 4 → Numbered Is k n xs → length (flat_map text xs) ≤ n * 100
numbered_short text Is short from to none = omega arith
numbered_short text Is short {k} from to (next {n = n} {x} {xs} first rest) =
    let here = short k x from (omega arith) first in
    let later : suc k + n ≤ 4 = omega arith in
    let others = numbered_short text Is short (omega arith) later rest in
    simp length-append (omega arith)

few_to : {n : ℕ} → AreFew n → n ≤ 3
few_to one = omega arith
few_to two = omega arith
few_to three = omega arith

rules_short : {n count : ℕ} {rules : List Rule} → n ≤ 3 → AreRules n count rules → length (flat_map rule_text rules) ≤ count * 400 + 100
rules_short to (otherwise line) = omega arith
rules_short {n} to (before {count} {rules = others} (rule {guard = c} {sets} line guarded sets_are) rest) =
    let guard = guard_short c guarded in
    let assigned = numbered_short (line_text set_text) IsSet set_short (omega arith) (omega arith) sets_are in
    let later = rules_short to rest in
    simp length-append (omega arith)

pub controller_short : (s : Sections) → AreSections s → length (printed s) < 2 ^ 32 - 1
unfolding printed
controller_short s (sections {n} {count} {states} {rules} line few states_are count_to rules_are) =
    let to = few_to few in
    let a = numbered_short (line_text state_text) IsState state_short (omega arith) (omega arith) states_are in
    let b = rules_short to rules_are in
    let name = name_is 1 (omega arith) (omega arith) in
    let c = one_short (name_term (over 1 1) (alone (state_name 1))) (named_short 1 1 (state_name 1) (omega arith) (omega arith) name.short) in
    simp length-append (omega arith)

-- ---- the question's lines

served_short : (step : ℕ) → step ≤ 32 → length (name_text (served_by step)) ≤ 28
unfolding name_text
served_short step to = let n = decimal_short step (omega arith) in simp length-append (omega arith)

require_short : (steps least : ℕ) → steps ≤ 32 → least ≤ 1000 → length (condition_text (serves_at_least steps least)) ≤ 93
unfolding condition_text
require_short steps least to small =
    let a = served_short steps to in
    let b = served_short 0 (omega arith) in
    let left = two_short (name_term (over 1 1) (served_by steps)) (name_term minus_one (served_by 0)) a b in
    let number : length (number_text (over least 1)) ≤ 28 = let m = number_short least 1 small (omega arith) in omega arith in
    let right = one_short (number_term (over least 1)) number in
    simp length-append (omega arith)

buffer_short : {b : Option ℕ} → IsBuffer b → length (buffer_text (pair_if b)) ≤ 20
buffer_short unlimited = omega arith
buffer_short (limited n to) = let m = number_short n 1 (omega arith) (omega arith) in simp length-append (omega arith)

setting_short : (p : Problem) (steps : ℕ) → IsBounded p → steps ≤ 32 → length (setting_text (setting_of p steps)) ≤ 200
unfolding setting_text
setting_short p steps is to =
    let flows_to = is.flows_to in
    let jitter_to = is.jitter_to in
    let rtt_to = is.rtt_to in
    let flows = decimal_short p.flows (omega arith) in
    let last = decimal_short steps (omega arith) in
    let rate = number_short 1 1 (omega arith) (omega arith) in
    let jitter = decimal_short p.jitter (omega arith) in
    let rtt = decimal_short p.rtt (omega arith) in
    let buffer = buffer_short is.buffer_is in
    let budget = decimal_short 2000 (omega arith) in
    simp length-append (omega arith)

pub question_short : (p : Problem) (steps : ℕ) → IsBounded p → steps ≤ 32 → length (question_printed (question_of p steps)) < 2 ^ 32 - 1
unfolding question_printed
question_short p steps is to =
    let least_to = is.least_to in
    let a = setting_short p steps is to in
    let b = require_short steps p.least to (omega arith) in
    simp length-append (omega arith)
