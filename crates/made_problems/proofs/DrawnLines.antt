-- What is printed for a drawn line is read as tokens that spell it.
use Rattle.std.proofs.Common.{◌≡◌, ℕ, ◌+◌, ◌≤◌, List, [], ◌∷◌, length, true, false, Some, None, refl, arith}
use Rattle.source_text.specs.Spelling.{is_word}
use Rattle.condition_syntax.specs.Words.{is_keyword}
use Rattle.std.specs.Prelude.{codes}
use Rattle.source_text.specs.declared.lexemes.Sign.TheVariants.{Assign, Plus, Times, Above, AtLeast}
use Rattle.source_text.specs.Tokens.{Token, word, number, sign}
use Rattle.condition_syntax.specs.declared.conditions.Style.TheVariants.{Controller}
use Rattle.condition_syntax.specs.Trees.{Condition, delay, comparisons}
use Rattle.condition_syntax.specs.Grammar.{IsNumber, constant, multiple, single, SpellsName, plain, last_term, more_terms, unsigned, SpellsSimple, test, compared, simple, SpellsPart, one, SpellsCond}
use Rattle.ctrl_syntax.specs.declared.syntax.StateLine.{StateLine}
use Rattle.ctrl_syntax.specs.declared.syntax.SetLine.{SetLine}
use Rattle.ctrl_syntax.specs.declared.syntax.RateLine.{RateLine}
use Rattle.ctrl_syntax.specs.Grammar.{unsigned as bound, SpellsGuard, when, otherwise}
use Rattle.ctrl_syntax.specs.Printed.{state_text, guard_text, set_text, titled_text}
use Rattle.ctrl_syntax.proofs.LinesAgain.{at}
use Rattle.ctrl_syntax.proofs.LineTexts.{PrintsLine, StateOn, state_prints, guard_prints, SetOn, set_prints, TitledOn, window_prints}
use Rattle.ctrl_gen.specs.Problems.{over, alone, name_term, sum_of, state_name, signal_above}
use Rattle.made_problems.proofs.Shapes.{IsState, state, IsSet, assigned, IsGuard, lost, acked, waits}
use Rattle.made_problems.proofs.Names.{name_is}

whole_number : (n : ℕ) → n ≤ 1000 → IsNumber n None (over n 1)
whole_number n to = record { value = refl; num_to = omega arith; den_from = omega arith; den_to = omega arith }

fraction : (n d : ℕ) → n ≤ 1000 → 1 ≤ d → d ≤ 1000 → IsNumber n (Some d) (over n d)
fraction n d to from small = record { value = refl; num_to = omega arith; den_from = omega arith; den_to = omega arith }

pub state_shows : (j : ℕ) (s : StateLine) → 1 ≤ j → j ≤ 3 → IsState j s → PrintsLine (state_text s) (StateOn s)
state_shows j s from to (state lo spread line low wide) =
    let name = name_is j from to in
    let tokens : List Token = word (codes "state") ∷ word (state_name j) ∷ word (codes "data") ∷ word (codes "init") ∷ number lo None ∷ number (lo + spread) None ∷ [] in
    state_prints (at line tokens) s
    (record {
      lo = number lo None ∷ [];
      hi = number (lo + spread) None ∷ [];
      tokens_are = refl;
      short = name.short;
      lo_is = bound (whole_number lo (omega arith));
      hi_is = bound (whole_number (lo + spread) (omega arith));
      line_is = refl;
    })
    (refl, (name.spelled, (refl, (refl, (omega arith, (omega arith, tt))))))

-- ---- expressions

named : (j : ℕ) → 1 ≤ j → j ≤ 3 → SpellsName Controller (word (state_name j) ∷ []) (alone (state_name j))
named j from to = let name = name_is j from to in plain (record { free = name.free; short = name.short })

pub set_shows : (j : ℕ) (s : SetLine) → 1 ≤ j → j ≤ 3 → IsSet j s → PrintsLine (set_text s) (SetOn s)
set_shows j s from to (assigned a b c d line is) =
    let name = name_is j from to in
    let a_to = is.a_to in
    let b_to = is.b_to in
    let c_to = is.c_to in
    let d_to = is.d_to in
    let front : List Token = number a (Some b) ∷ sign Times ∷ word (state_name j) ∷ sign Plus ∷ number c (Some d) ∷ [] in
    set_prints (at line (word (codes "set") ∷ word (state_name j) ∷ sign Assign ∷ front)) s
    (record {
      front = front;
      tokens_are = refl;
      short = name.short;
      expr_is = unsigned (more_terms {next = false} (multiple (fraction a b (omega arith) is.b_from (omega arith)) (named j from to)) (last_term (constant (fraction c d (omega arith) is.d_from (omega arith))))) (omega arith);
      line_is = refl;
    })
    (refl, (name.spelled, (tt, ((omega arith, omega arith), (tt, (name.spelled, (tt, ((omega arith, omega arith), tt))))))))

-- ---- guards

-- one comparison alone
alone_is : (front : List Token) (c : Condition) → SpellsSimple Controller front c → comparisons c ≤ 16 → SpellsCond Controller front c
unfolding SpellsPart
alone_is front c is few = record { derived = (c ∷ [], (one (c ∷ [], (one (simple is), refl)), refl)); few = few }

signal_spelled : (signal : List ℕ) (n : ℕ) → is_keyword signal ≡ false → length signal ≤ 16 → n ≤ 1000 → SpellsCond Controller (word signal ∷ sign Above ∷ number n None ∷ []) (signal_above signal n)
signal_spelled signal n free short to =
    alone_is (word signal ∷ sign Above ∷ number n None ∷ []) (signal_above signal n)
    (compared Above (unsigned (last_term (single (plain (record { free = free; short = short })))) (omega arith)) refl (unsigned (last_term (constant (whole_number n to))) (omega arith))) (omega arith)

abbrev GuardShows : Condition → Type 0
GuardShows c = PrintsLine (guard_text (Some c)) (λ front. SpellsGuard front (Some c))

signal_shows : (signal : List ℕ) (n : ℕ) → is_word signal ≡ true → is_keyword signal ≡ false → length signal ≤ 16 → n ≤ 1000 → GuardShows (signal_above signal n)
signal_shows signal n spelled free short to =
    guard_prints (word (codes "rule") ∷ word (codes "when") ∷ word signal ∷ sign Above ∷ number n None ∷ []) (Some (signal_above signal n)) (when (signal_spelled signal n free short to))
    (refl, (refl, (spelled, (tt, (omega arith, tt)))))

pub guard_shows : (c : Condition) → IsGuard c → GuardShows c
unfolding is_keyword
guard_shows c lost = signal_shows (codes "lost") 0 refl refl (omega arith) (omega arith)
guard_shows c (acked n to) = signal_shows (codes "acked") n refl refl (omega arith) (omega arith)
guard_shows c (waits k to) =
    guard_prints (word (codes "rule") ∷ word (codes "when") ∷ word (codes "delay") ∷ sign AtLeast ∷ number k None ∷ []) (Some (delay (over k 1)))
    (when (alone_is (word (codes "delay") ∷ sign AtLeast ∷ number k None ∷ []) (delay (over k 1)) (test (whole_number k (omega arith))) (omega arith)))
    (refl, (refl, (refl, (tt, (omega arith, tt)))))

pub otherwise_shows : PrintsLine (guard_text None) (λ front. SpellsGuard front None)
otherwise_shows = guard_prints (word (codes "rule") ∷ word (codes "otherwise") ∷ []) None otherwise (refl, (refl, tt))

-- ---- the window

abbrev pub window_line : ℕ → RateLine
window_line line = record { expr = sum_of (name_term (over 1 1) (alone (state_name 1)) ∷ []); line = line }

pub window_shows : (line : ℕ) → PrintsLine (titled_text (codes "window ") (window_line line).expr) (TitledOn (codes "window") (window_line line))
window_shows line =
    let name = name_is 1 (omega arith) (omega arith) in
    window_prints (at line (word (codes "window") ∷ word (state_name 1) ∷ [])) (window_line line)
    (record { front = word (state_name 1) ∷ []; tokens_are = refl; expr_is = unsigned (last_term (single (named 1 (omega arith) (omega arith)))) (omega arith); line_is = refl })
    (refl, (name.spelled, tt))
