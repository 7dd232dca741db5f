-- The printed text of drawn sections spells sections of the same shape.
use Rattle.std.proofs.Common.{◌≡◌, ℕ, suc, ◌+◌, ◌≤◌, List, [], ◌∷◌, ◌++◌, map, length, Some, None, refl, sym, ap, subst, ◌∙◌, append_assoc, arith}
use Rattle.std.specs.Prelude.{codes, flat_map}
use Rattle.source_text.specs.Tokens.{Token, word}
use Rattle.source_text.specs.Bytes.{behind_blanks}
use Rattle.source_text.specs.Header.{texts}
use Rattle.source_text.specs.Lines.{source_lines, numbered, is_skipped, text_of, IsPlain, ArePlain}
use Rattle.source_text.specs.Shown.{Ahead}
use Rattle.source_text.proofs.LineLaws.{text_of-append, source_lines_printed}
use Rattle.ctrl_syntax.specs.declared.syntax.StateLine.{StateLine}
use Rattle.ctrl_syntax.specs.declared.syntax.SetLine.{SetLine}
use Rattle.ctrl_syntax.specs.Sections.{Rule, Sections, state_at, set_at}
use Rattle.ctrl_syntax.specs.Grammar.{SpellsState, SpellsGuard, SpellsSet, Each, none, one_more, SpellsRules, no_rule, a_rule, no_rate, Spells, IsText}
use Rattle.ctrl_syntax.specs.Printed.{state_text, guard_text, set_text, titled_text, line_text, rule_text, rate_text, printed}
use Rattle.ctrl_syntax.proofs.LinesAgain.{at}
use Rattle.ctrl_syntax.proofs.LineTexts.{PrintsLine, line_plain, TitledOn, end_prints}
use Rattle.ctrl_syntax.proofs.SectionTexts.{lines_at, lines_at-append, printed_at, Block, plain-append, no_lines_at, text-map, text-nil, text-cons, text-end, numbered-cons}
use Rattle.made_problems.proofs.Numbered.{Numbered, none as no_more, next}
use Rattle.made_problems.proofs.Shapes.{IsState, state, IsSet, assigned, rule, AreRules, otherwise, before, AreFew, one, two, three, AreSections, sections}
use Rattle.made_problems.proofs.DrawnLines.{state_shows, set_shows, guard_shows, otherwise_shows, window_line, window_shows}

-- ---- lines one below the other, wherever they begin

module _ {X : Type 0} (SpellsOne : Ahead → X → Type 0) (text : X → List ℕ) (again : ℕ → X → X) (Is : ℕ → X → Type 0) where
  abbrev OnLine : X → List Token → Type 0
  OnLine x front = (n : ℕ) → SpellsOne (at n front) (again n x)

  numbered_block : ((j : ℕ) (x : X) → 1 ≤ j → j ≤ 3 → Is j x → PrintsLine (text x) (OnLine x)) → ((j n : ℕ) (x : X) → Is j x → Is j (again n x))
      → {k n : ℕ} {xs : List X} → 1 ≤ k → k + n ≤ 4 → Numbered Is k n xs → Block (Each SpellsOne) (Numbered Is k n) (map text xs)
  numbered_block shows stays from to no_more = record {
    plain = tt;
    value = λ m. [];
    spelled = λ m. subst (λ (ls : List Ahead). Each SpellsOne ls []) (sym (no_lines_at m)) none;
    same = λ m. no_more;
  }
  numbered_block shows stays {k} from to (next {n = n} {x} {xs} first others) =
      let p = shows k x from (omega arith) first in
      let later : suc k + n ≤ 4 = omega arith in
      let rest = numbered_block shows stays (omega arith) later others in
      record {
        plain = (line_plain (text x) (OnLine x) p, rest.plain);
        value = λ m. again m x ∷ rest.value (m + 1);
        spelled = λ m. subst (λ (ls : List Ahead). Each SpellsOne ls (again m x ∷ rest.value (m + 1))) (sym (printed_at m (text x) (OnLine x) p (map text xs))) (one_more (p.spelled m) (rest.spelled (m + 1)));
        same = λ m. next (stays k m x first) (rest.same (m + 1));
      }

state_stays : (j n : ℕ) (s : StateLine) → IsState j s → IsState j (state_at n s)
state_stays j n s (state lo spread line low wide) = state lo spread n low wide

set_stays : (j n : ℕ) (s : SetLine) → IsSet j s → IsSet j (set_at n s)
set_stays j n s (assigned a b c d line is) = assigned a b c d n is

few_to : {n : ℕ} → AreFew n → n ≤ 3
few_to one = omega arith
few_to two = omega arith
few_to three = omega arith

states_block : {n : ℕ} {states : List StateLine} → AreFew n → Numbered IsState 1 n states → Block (Each SpellsState) (Numbered IsState 1 n) (map state_text states)
states_block few are = let to = few_to few in numbered_block SpellsState state_text state_at IsState state_shows state_stays (omega arith) (omega arith) are

sets_block : {n : ℕ} {sets : List SetLine} → AreFew n → Numbered IsSet 1 n sets → Block (Each SpellsSet) (Numbered IsSet 1 n) (map set_text sets)
sets_block few are = let to = few_to few in numbered_block SpellsSet set_text set_at IsSet set_shows set_stays (omega arith) (omega arith) are

-- ---- rules

-- a rule's lines
abbrev rule_lines : Rule → List (List ℕ)
rule_lines r = guard_text r.guard ∷ map set_text r.sets

rules_block : {n count : ℕ} {rules : List Rule} → AreFew n → AreRules n count rules → Block SpellsRules (AreRules n count) (flat_map rule_lines rules)
rules_block few (otherwise line) =
    let p = otherwise_shows in
    record {
      plain = (line_plain (guard_text None) (λ front. SpellsGuard front None) p, tt);
      value = λ m. record { guard = None; sets = []; line = m } ∷ [];
      spelled = λ m. subst (λ (ls : List Ahead). SpellsRules ls (record { guard = None; sets = []; line = m } ∷ []))
          (sym (printed_at m (guard_text None) (λ front. SpellsGuard front None) p [] ∙ ap (λ (ls : List Ahead). at m p.front ∷ ls) (no_lines_at (m + 1))))
          (a_rule p.spelled refl none no_rule);
      same = λ m. otherwise m;
    }
rules_block {n} few (before {rules = rs} (rule {guard = c} {sets} line guarded sets_are) others) =
    let p = guard_shows c guarded in
    let inner = sets_block few sets_are in
    let rest = rules_block few others in
    let size : ℕ = length (map set_text sets) in
    let made : ℕ → Rule = λ m. record { guard = Some c; sets = inner.value (m + 1); line = m } in
    record {
      plain = (line_plain (guard_text (Some c)) (λ front. SpellsGuard front (Some c)) p, plain-append (map set_text sets) (flat_map rule_lines rs) inner.plain rest.plain);
      value = λ m. made m ∷ rest.value ((m + 1) + size);
      spelled = λ m. subst (λ (ls : List Ahead). SpellsRules ls (made m ∷ rest.value ((m + 1) + size)))
          (sym (printed_at m (guard_text (Some c)) (λ front. SpellsGuard front (Some c)) p (map set_text sets ++ flat_map rule_lines rs)
          ∙ ap (λ (ls : List Ahead). at m p.front ∷ ls) (lines_at-append (m + 1) (map set_text sets) (flat_map rule_lines rs))))
          (a_rule p.spelled refl (inner.spelled (m + 1)) (rest.spelled ((m + 1) + size)));
      same = λ m. before (rule m guarded (inner.same (m + 1))) (rest.same ((m + 1) + size));
    }

-- ---- all lines

abbrev lines_of : Sections → List (List ℕ)
lines_of s = map state_text s.states ++ (flat_map rule_lines s.rules ++ (titled_text (codes "window ") s.window ∷ codes "end" ∷ []))

-- what the printed lines spell, the first of which has the number 2
record PrintsDrawn (s : Sections) : Type 0 where
  plain : ArePlain (lines_of s)
  read : Sections
  spelled : Spells (lines_at 2 (lines_of s)) read
  shaped : AreSections read

numbered_length : {X : Type 0} {Is : ℕ → X → Type 0} {k n : ℕ} {xs : List X} → Numbered Is k n xs → length xs ≡ n
numbered_length no_more = refl
numbered_length (next first rest) = ap suc (numbered_length rest)

rules_length : {n count : ℕ} {rules : List Rule} → AreRules n count rules → length rules ≡ count + 1
rules_length (otherwise line) = omega arith
rules_length (before first rest) = omega (arith, rules_length rest)

lines_print : {s : Sections} → AreSections s → PrintsDrawn s
lines_print {s} (sections {n} {count} {states = ss} {rules = rs} line few states_are rules_to rules_are) =
    let to = few_to few in
    let states = states_block few states_are in
    let rules = rules_block few rules_are in
    let window = window_shows line in
    let t1 : List (List ℕ) = map state_text ss in
    let t2 : List (List ℕ) = flat_map rule_lines rs in
    let w : List ℕ = titled_text (codes "window ") (window_line line).expr in
    let last : List (List ℕ) = codes "end" ∷ [] in
    let k2 : ℕ = 2 + length t1 in
    let k3 : ℕ = k2 + length t2 in
    let k4 : ℕ = k3 + 1 in
    let read : Sections = record { states = states.value 2; rules = rules.value k2; window = (window_line line).expr; window_line = k3; rate = None } in
    let state_count = numbered_length (states.same 2) in
    let rule_count = rules_length (rules.same k2) in
    record {
      plain = plain-append t1 (t2 ++ (w ∷ last)) states.plain (plain-append t2 (w ∷ last) rules.plain
          (line_plain w (TitledOn (codes "window") (window_line line)) window, (line_plain (codes "end") (λ front. front ≡ word (codes "end") ∷ []) end_prints, tt)));
      read = read;
      spelled = record {
        state_lines = lines_at 2 t1;
        rule_lines = lines_at k2 t2;
        window = at k3 window.front;
        rate_lines = [];
        last = at k4 end_prints.front;
        lines_are = lines_at-append 2 t1 (t2 ++ (w ∷ last))
            ∙ ap (λ (ls : List Ahead). lines_at 2 t1 ++ ls) (lines_at-append k2 t2 (w ∷ last)
            ∙ ap (λ (ls : List Ahead). lines_at k2 t2 ++ ls) (printed_at k3 w (TitledOn (codes "window") (window_line line)) window last
            ∙ ap (λ (ls : List Ahead). at k3 window.front ∷ ls)
            (printed_at k4 (codes "end") (λ front. front ≡ word (codes "end") ∷ []) end_prints [] ∙ ap (λ (ls : List Ahead). at k4 end_prints.front ∷ ls) (no_lines_at (k4 + 1)))));
        states_are = states.spelled 2;
        few_states = omega arith;
        rules_are = rules.spelled k2;
        few_rules = omega arith;
        window_is = window.spelled k3;
        rate_is = no_rate;
        last_is = end_prints.spelled;
      };
      shaped = sections k3 few (states.same 2) rules_to (rules.same k2);
    }

-- ---- the whole text

text-rule : (r : Rule) → text_of (rule_lines r) ≡ rule_text r
text-rule r =
    text-cons (guard_text r.guard) (map set_text r.sets) ∙ ap (λ (bytes : List ℕ). guard_text r.guard ++ (10 ∷ bytes)) (text-map set_text r.sets)
    ∙ sym (append_assoc (guard_text r.guard) (codes "\n") (flat_map (line_text set_text) r.sets))

text-rules : (rs : List Rule) → text_of (flat_map rule_lines rs) ≡ flat_map rule_text rs
text-rules [] = text-nil
text-rules (r ∷ rs) =
    text_of-append (rule_lines r) (flat_map rule_lines rs) ∙ ap (λ (bytes : List ℕ). bytes ++ text_of (flat_map rule_lines rs)) (text-rule r) ∙ ap (λ (bytes : List ℕ). rule_text r ++ bytes) (text-rules rs)

abbrev header_text : List ℕ
header_text = codes "ccac-controller 1"

printed_is : (s : Sections) → s.rate ≡ None → text_of (header_text ∷ lines_of s) ≡ printed s
unfolding printed
printed_is s no_rate_is =
    let t1 : List (List ℕ) = map state_text s.states in
    let t2 : List (List ℕ) = flat_map rule_lines s.rules in
    let w : List ℕ = titled_text (codes "window ") s.window in
    let last : List (List ℕ) = codes "end" ∷ [] in
    let ended : text_of last ≡ rate_text s.rate ++ codes "end\n" = text-end ∙ ap (λ r. rate_text r ++ codes "end\n") (sym no_rate_is) in
    let windowed : text_of (w ∷ last) ≡ line_text (titled_text (codes "window ")) s.window ++ (rate_text s.rate ++ codes "end\n") =
    text-cons w last ∙ ap (λ (bytes : List ℕ). w ++ (10 ∷ bytes)) ended ∙ sym (append_assoc w (codes "\n") (rate_text s.rate ++ codes "end\n")) in
    let ruled : text_of (t2 ++ (w ∷ last)) ≡ flat_map rule_text s.rules ++ (line_text (titled_text (codes "window ")) s.window ++ (rate_text s.rate ++ codes "end\n")) =
    text_of-append t2 (w ∷ last) ∙ ap (λ (bytes : List ℕ). bytes ++ text_of (w ∷ last)) (text-rules s.rules) ∙ ap (λ (bytes : List ℕ). flat_map rule_text s.rules ++ bytes) windowed in
    text-cons header_text (lines_of s) ∙ ap (λ (bytes : List ℕ). header_text ++ (10 ∷ bytes)) (text_of-append t1 (t2 ++ (w ∷ last))
    ∙ ap (λ (bytes : List ℕ). bytes ++ text_of (t2 ++ (w ∷ last))) (text-map state_text s.states) ∙ ap (λ (bytes : List ℕ). flat_map (line_text state_text) s.states ++ bytes) ruled)

header_plain : IsPlain header_text
unfolding is_skipped behind_blanks
header_plain = record { no_end = refl; no_cr = refl; stays = refl }

header_texts : texts header_text ≡ codes "ccac-controller" ∷ codes "1" ∷ []
unfolding texts
header_texts = refl

-- a text that spells sections of the shape
pub record IsDrawnText (bytes : List ℕ) : Type 0 where
  pub read : Sections
  pub spelled : IsText bytes read
  pub shaped : AreSections read

no_rate_there : {s : Sections} → AreSections s → s.rate ≡ None
no_rate_there (sections line few states_are rules_to rules_are) = refl

pub drawn_printed : (s : Sections) → AreSections s → IsDrawnText (printed s)
drawn_printed s are =
    let again = lines_print are in
    let found : source_lines (text_of (header_text ∷ lines_of s)) ≡ record { number = 1; bytes = header_text } ∷ numbered 2 (lines_of s) =
    source_lines_printed (header_text ∷ lines_of s) (header_plain, again.plain) ∙ numbered-cons 1 header_text (lines_of s) in
    record {
      read = again.read;
      spelled = record {
        header = record { number = 1; bytes = header_text };
        lines = numbered 2 (lines_of s);
        lines_are = ap source_lines (sym (printed_is s (no_rate_there are))) ∙ found;
        header_is = header_texts;
        spelled = again.spelled;
      };
      shaped = again.shaped;
    }
