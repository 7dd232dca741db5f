-- The canonical text of what a text spells spells the same but for line numbers.
use Rattle.std.proofs.Common.{◌≡◌, ℕ, ◌+◌, ◌≤◌, Option, None, Some, Result, Ok, Err, List, [], ◌∷◌, ◌++◌, length, map, refl, sym, ap, subst, ◌∙◌, append_assoc, arith}
use Rattle.std.specs.Prelude.{codes, flat_map, IfOk}
use Rattle.std.specs.List.{AllByRecursion}
use Rattle.std.proofs.lemmas.List.{length-map}
use Rattle.source_text.specs.Tokens.{Token, word}
use Rattle.source_text.specs.Bytes.{behind_blanks}
use Rattle.source_text.specs.Cutting.{tokens}
use Rattle.source_text.specs.Header.{texts}
use Rattle.source_text.specs.Lines.{Line, numbered, source_lines, is_skipped, text_of, IsPlain, ArePlain}
use Rattle.source_text.specs.Printed.{AreFromLine}
use Rattle.source_text.specs.Shown.{Ahead}
use Rattle.source_text.proofs.LineLaws.{text_of-append, source_lines_printed}
use Rattle.source_text.proofs.PrintLaws.{tokens_from_line}
use Rattle.ctrl_syntax.specs.declared.syntax.StateLine.{StateLine}
use Rattle.ctrl_syntax.specs.declared.syntax.SetLine.{SetLine}
use Rattle.ctrl_syntax.specs.declared.syntax.RateLine.{RateLine}
use Rattle.ctrl_syntax.specs.Rest.{fronts}
use Rattle.ctrl_syntax.specs.Sections.{Rule, Sections, state_at, set_at, rate_at, rate_without, rule_without, SameButLines}
use Rattle.ctrl_syntax.specs.Grammar.{SpellsState, SpellsGuard, SpellsSet, Each, none, one_more, SpellsRules, no_rule, a_rule, SpellsRate, no_rate, a_rate, Spells, IsText}
use Rattle.ctrl_syntax.specs.Printed.{state_text, guard_text, set_text, titled_text, line_text, rule_text, rate_text, printed, SpellsAgain}
use Rattle.ctrl_syntax.proofs.LinesAgain.{at}
use Rattle.ctrl_syntax.proofs.LineTexts.{PrintsLine, tokens_are, line_plain, state_prints, guard_prints, set_prints, TitledOn, window_prints, rate_prints, end_prints}

-- ---- lines that were cut from a text

abbrev pub AreFromLines : List Ahead → Type 0
AreFromLines lines = AllByRecursion (λ a. AreFromLine a.tokens) lines

pub fronts_from : (lines : List Line) → AreFromLines (fronts lines)
unfolding fronts
fronts_from [] = tt
fronts_from (line ∷ lines) = (tokens_from_line line.bytes, fronts_from lines)

pub from_parts : (front back : List Ahead) → AreFromLines (front ++ back) → AreFromLines front × AreFromLines back
from_parts [] back all = (tt, all)
from_parts (a ∷ front) back all =
    let parts = from_parts front back all.1 in
    ((all.0, parts.0), parts.1)

-- ---- lines that are printed

-- the fronts of these lines, the first of which has this number
abbrev pub lines_at : ℕ → List (List ℕ) → List Ahead
lines_at k texts = fronts (numbered k texts)

pub lines_at-cons : (k : ℕ) (text : List ℕ) (more : List (List ℕ)) → lines_at k (text ∷ more) ≡ at k (tokens text) ∷ lines_at (k + 1) more
unfolding fronts numbered
lines_at-cons k text more = refl

pub lines_at-append : (k : ℕ) (xs ys : List (List ℕ)) → lines_at k (xs ++ ys) ≡ lines_at k xs ++ lines_at (k + length xs) ys
unfolding fronts numbered
lines_at-append k [] ys = ap (λ n. lines_at n ys) (omega arith)
lines_at-append k (x ∷ xs) ys =
    let more : (k + 1) + length xs ≡ k + length (x ∷ xs) = omega arith in
    ap (λ (ls : List Ahead). at k (tokens x) ∷ ls) (lines_at-append (k + 1) xs ys) ∙ ap (λ n. at k (tokens x) ∷ (lines_at (k + 1) xs ++ lines_at n ys)) more

-- a line with its front
pub printed_at : (k : ℕ) (text : List ℕ) (Spelled : List Token → Type 0) (p : PrintsLine text Spelled) (more : List (List ℕ)) → lines_at k (text ∷ more) ≡ at k p.front ∷ lines_at (k + 1) more
printed_at k text Spelled p more = lines_at-cons k text more ∙ ap (λ (ts : List Token). at k ts ∷ lines_at (k + 1) more) (tokens_are text p.front p.shows)

-- These lines are plain, and wherever they stand they spell something that is the same.
pub record Block {X : Type 0} (Spelled : List Ahead → X → Type 0) (Same : X → Type 0) (lines : List (List ℕ)) : Type 0 where
  pub plain : ArePlain lines
  pub value : ℕ → X
  pub spelled : (k : ℕ) → Spelled (lines_at k lines) (value k)
  pub same : (k : ℕ) → Same (value k)

pub plain-append : (xs ys : List (List ℕ)) → ArePlain xs → ArePlain ys → ArePlain (xs ++ ys)
plain-append [] ys p q = q
plain-append (x ∷ xs) ys p q = (p.0, plain-append xs ys p.1 q)

pub no_lines_at : (k : ℕ) → lines_at k [] ≡ []
unfolding fronts numbered
no_lines_at k = refl

abbrev pub SameAs : {X : Type 0} → (ℕ → X → X) → List X → List X → Type 0
SameAs again xs ys = map (again 0) xs ≡ map (again 0) ys

pub each_block : {X : Type 0} (SpellsOne : Ahead → X → Type 0) (text : X → List ℕ) (again : ℕ → X → X) → ((n : ℕ) (x : X) → again 0 (again n x) ≡ again 0 x)
    → ((a : Ahead) (x : X) → SpellsOne a x → AreFromLine a.tokens → PrintsLine (text x) (λ front. (n : ℕ) → SpellsOne (at n front) (again n x)))
    → {lines : List Ahead} {xs : List X} → Each SpellsOne lines xs → AreFromLines lines → Block (Each SpellsOne) (SameAs again xs) (map text xs)
each_block SpellsOne text again twice prints none from = record {
  plain = tt;
  value = λ k. [];
  spelled = λ k. subst (λ (ls : List Ahead). Each SpellsOne ls []) (sym (no_lines_at k)) none;
  same = λ k. refl;
}
each_block {X} SpellsOne text again twice prints (one_more {a} {x} {lines} {xs} is others) from =
    let p = prints a x is from.0 in
    let rest = each_block SpellsOne text again twice prints others from.1 in
    record {
      plain = (line_plain (text x) (λ front. (n : ℕ) → SpellsOne (at n front) (again n x)) p, rest.plain);
      value = λ k. again k x ∷ rest.value (k + 1);
      spelled = λ k. subst (λ (ls : List Ahead). Each SpellsOne ls (again k x ∷ rest.value (k + 1))) (sym (printed_at k (text x) (λ front. (n : ℕ) → SpellsOne (at n front) (again n x)) p (map text xs)))
          (one_more (p.spelled k) (rest.spelled (k + 1)));
      same = λ k. ap (λ (y : X). y ∷ map (again 0) xs) (sym (twice k x)) ∙ ap (λ (ys : List X). again 0 (again k x) ∷ ys) (rest.same (k + 1));
    }

states_block : {lines : List Ahead} {xs : List StateLine} → Each SpellsState lines xs → AreFromLines lines → Block (Each SpellsState) (SameAs state_at xs) (map state_text xs)
states_block is from = each_block SpellsState state_text state_at (λ n x. refl) state_prints is from

sets_block : {lines : List Ahead} {xs : List SetLine} → Each SpellsSet lines xs → AreFromLines lines → Block (Each SpellsSet) (SameAs set_at xs) (map set_text xs)
sets_block is from = each_block SpellsSet set_text set_at (λ n x. refl) set_prints is from

-- a rule's lines
abbrev rule_lines : Rule → List (List ℕ)
rule_lines r = guard_text r.guard ∷ map set_text r.sets

abbrev SameRules : List Rule → List Rule → Type 0
SameRules rs qs = map rule_without rs ≡ map rule_without qs

-- a rule with other sets and another line
same_rule : (r : Rule) (sets : List SetLine) (n : ℕ) → SameAs set_at r.sets sets → rule_without r ≡ rule_without (record { guard = r.guard; sets = sets; line = n })
same_rule r sets n same = ap (λ (xs : List SetLine). record { guard = r.guard; sets = xs; line = 0 }) same

rules_block : {lines : List Ahead} {rs : List Rule} → SpellsRules lines rs → AreFromLines lines → Block SpellsRules (SameRules rs) (flat_map rule_lines rs)
rules_block no_rule from = record {
  plain = tt;
  value = λ k. [];
  spelled = λ k. subst (λ (ls : List Ahead). SpellsRules ls []) (sym (no_lines_at k)) no_rule;
  same = λ k. refl;
}
rules_block (a_rule {a} {sets} {lines} {r} {rs} guard line assigned others) from =
    let parts = from_parts sets lines from.1 in
    let p = guard_prints a.tokens r.guard guard from.0 in
    let inner = sets_block assigned parts.0 in
    let rest = rules_block others parts.1 in
    let size : ℕ = length (map set_text r.sets) in
    let made : ℕ → Rule = λ k. record { guard = r.guard; sets = inner.value (k + 1); line = k } in
    record {
      plain = (line_plain (guard_text r.guard) (λ front. SpellsGuard front r.guard) p, plain-append (map set_text r.sets) (flat_map rule_lines rs) inner.plain rest.plain);
      value = λ k. made k ∷ rest.value ((k + 1) + size);
      spelled = λ k. subst (λ (ls : List Ahead). SpellsRules ls (made k ∷ rest.value ((k + 1) + size)))
          (sym (printed_at k (guard_text r.guard) (λ front. SpellsGuard front r.guard) p (map set_text r.sets ++ flat_map rule_lines rs)
          ∙ ap (λ (ls : List Ahead). at k p.front ∷ ls) (lines_at-append (k + 1) (map set_text r.sets) (flat_map rule_lines rs))))
          (a_rule p.spelled refl (inner.spelled (k + 1)) (rest.spelled ((k + 1) + size)));
      same = λ k. ap (λ (q : Rule). q ∷ map rule_without rs) (same_rule r (inner.value (k + 1)) k (inner.same (k + 1)))
          ∙ ap (λ (qs : List Rule). rule_without (made k) ∷ qs) (rest.same ((k + 1) + size));
    }

abbrev rate_lines : Option RateLine → List (List ℕ)
rate_lines None = []
rate_lines (Some r) = titled_text (codes "rate ") r.expr ∷ []

rate_block : {lines : List Ahead} {rate : Option RateLine} → SpellsRate lines rate → AreFromLines lines → Block SpellsRate (λ other. rate_without rate ≡ rate_without other) (rate_lines rate)
rate_block no_rate from = record {
  plain = tt;
  value = λ k. None;
  spelled = λ k. subst (λ (ls : List Ahead). SpellsRate ls None) (sym (no_lines_at k)) no_rate;
  same = λ k. refl;
}
rate_block (a_rate {a} {r} is) from =
    let p = rate_prints a r is from.0 in
    record {
      plain = (line_plain (titled_text (codes "rate ") r.expr) (TitledOn (codes "rate") r) p, tt);
      value = λ k. Some (rate_at k r);
      spelled = λ k. subst (λ (ls : List Ahead). SpellsRate ls (Some (rate_at k r)))
          (sym (printed_at k (titled_text (codes "rate ") r.expr) (TitledOn (codes "rate") r) p [] ∙ ap (λ (ls : List Ahead). at k p.front ∷ ls) (no_lines_at (k + 1))))
          (a_rate (p.spelled k));
      same = λ k. refl;
    }

-- ---- all lines

-- the lines behind the header
abbrev lines_of : Sections → List (List ℕ)
lines_of s = map state_text s.states ++ (flat_map rule_lines s.rules ++ (titled_text (codes "window ") s.window ∷ (rate_lines s.rate ++ (codes "end" ∷ []))))

pub count_same : {X : Type 0} (f : X → X) (xs ys : List X) (most : ℕ) → map f xs ≡ map f ys → length xs ≤ most → length ys ≤ most
count_same f xs ys most same le = subst (λ n. n ≤ most) (sym (length-map xs f) ∙ ap length same ∙ length-map ys f) le

-- what the printed lines spell, the first of which has the number 2
pub record PrintsAgain (s : Sections) : Type 0 where
  pub plain : ArePlain (lines_of s)
  pub read : Sections
  pub spelled : Spells (lines_at 2 (lines_of s)) read
  pub same : SameButLines s read

-- the same in each section
same_sections : (s t : Sections) → map (state_at 0) s.states ≡ map (state_at 0) t.states → SameRules s.rules t.rules → s.window ≡ t.window → rate_without s.rate ≡ rate_without t.rate → SameButLines s t
same_sections s t states rules window rate = cc

lines_print : (lines : List Ahead) (s : Sections) → Spells lines s → AreFromLines lines → PrintsAgain s
lines_print lines s is from =
    let from_states = from_parts is.state_lines (is.rule_lines ++ (is.window ∷ (is.rate_lines ++ (is.last ∷ [])))) (subst AreFromLines is.lines_are from) in
    let from_rules = from_parts is.rule_lines (is.window ∷ (is.rate_lines ++ (is.last ∷ []))) from_states.1 in
    let from_rate = from_parts is.rate_lines (is.last ∷ []) from_rules.1.1 in
    let title : RateLine = record { expr = s.window; line = s.window_line } in
    let states = states_block is.states_are from_states.0 in
    let rules = rules_block is.rules_are from_rules.0 in
    let window = window_prints is.window title is.window_is from_rules.1.0 in
    let rate = rate_block is.rate_is from_rate.0 in
    let t1 : List (List ℕ) = map state_text s.states in
    let t2 : List (List ℕ) = flat_map rule_lines s.rules in
    let w : List ℕ = titled_text (codes "window ") s.window in
    let t4 : List (List ℕ) = rate_lines s.rate in
    let last : List (List ℕ) = codes "end" ∷ [] in
    let k2 : ℕ = 2 + length t1 in
    let k3 : ℕ = k2 + length t2 in
    let k4 : ℕ = k3 + 1 in
    let k5 : ℕ = k4 + length t4 in
    let read : Sections = record { states = states.value 2; rules = rules.value k2; window = s.window; window_line = k3; rate = rate.value k4 } in
    record {
      plain = plain-append t1 (t2 ++ (w ∷ (t4 ++ last))) states.plain (plain-append t2 (w ∷ (t4 ++ last)) rules.plain
          (line_plain w (TitledOn (codes "window") title) window, plain-append t4 last rate.plain (line_plain (codes "end") (λ front. front ≡ word (codes "end") ∷ []) end_prints, tt)));
      read = read;
      spelled = record {
        state_lines = lines_at 2 t1;
        rule_lines = lines_at k2 t2;
        window = at k3 window.front;
        rate_lines = lines_at k4 t4;
        last = at k5 end_prints.front;
        lines_are = lines_at-append 2 t1 (t2 ++ (w ∷ (t4 ++ last)))
            ∙ ap (λ (ls : List Ahead). lines_at 2 t1 ++ ls) (lines_at-append k2 t2 (w ∷ (t4 ++ last))
            ∙ ap (λ (ls : List Ahead). lines_at k2 t2 ++ ls) (printed_at k3 w (TitledOn (codes "window") title) window (t4 ++ last)
            ∙ ap (λ (ls : List Ahead). at k3 window.front ∷ ls) (lines_at-append k4 t4 last
            ∙ ap (λ (ls : List Ahead). lines_at k4 t4 ++ ls) (printed_at k5 (codes "end") (λ front. front ≡ word (codes "end") ∷ []) end_prints [] ∙ ap (λ (ls : List Ahead). at k5 end_prints.front ∷ ls) (no_lines_at (k5 + 1))))));
        states_are = states.spelled 2;
        few_states = count_same (state_at 0) s.states (states.value 2) 8 (states.same 2) is.few_states;
        rules_are = rules.spelled k2;
        few_rules = rules_count s.rules (rules.value k2) (rules.same k2) is.few_rules;
        window_is = window.spelled k3;
        rate_is = rate.spelled k4;
        last_is = end_prints.spelled;
      };
      same = same_sections s read (states.same 2) (rules.same k2) refl (rate.same k4);
    }
  where
    rules_count : (rs qs : List Rule) → SameRules rs qs → length rs ≤ 16 → length qs ≤ 16
    rules_count rs qs same le = count_same rule_without rs qs 16 same le

-- ---- the whole text

pub text-map : {X : Type 0} (text : X → List ℕ) (xs : List X) → text_of (map text xs) ≡ flat_map (line_text text) xs
unfolding text_of
text-map text [] = refl
text-map text (x ∷ xs) = ap (λ (bytes : List ℕ). text x ++ (10 ∷ bytes)) (text-map text xs) ∙ sym (append_assoc (text x) (codes "\n") (flat_map (line_text text) xs))

text-rule : (r : Rule) → text_of (rule_lines r) ≡ rule_text r
unfolding text_of
text-rule r = ap (λ (bytes : List ℕ). guard_text r.guard ++ (10 ∷ bytes)) (text-map set_text r.sets) ∙ sym (append_assoc (guard_text r.guard) (codes "\n") (flat_map (line_text set_text) r.sets))

pub text-nil : text_of [] ≡ []
unfolding text_of
text-nil = refl

text-rules : (rs : List Rule) → text_of (flat_map rule_lines rs) ≡ flat_map rule_text rs
text-rules [] = text-nil
text-rules (r ∷ rs) = text_of-append (rule_lines r) (flat_map rule_lines rs) ∙ ap (λ (bytes : List ℕ). bytes ++ text_of (flat_map rule_lines rs)) (text-rule r) ∙ ap (λ (bytes : List ℕ). rule_text r ++ bytes) (text-rules rs)

text-rate : (rate : Option RateLine) → text_of (rate_lines rate) ≡ rate_text rate
unfolding text_of
text-rate None = refl
text-rate (Some r) = refl

abbrev header_text : List ℕ
header_text = codes "ccac-controller 1"

pub text-cons : (line : List ℕ) (lines : List (List ℕ)) → text_of (line ∷ lines) ≡ line ++ (10 ∷ text_of lines)
unfolding text_of
text-cons line lines = refl

pub text-end : text_of (codes "end" ∷ []) ≡ codes "end\n"
unfolding text_of
text-end = refl

printed_is : (s : Sections) → text_of (header_text ∷ lines_of s) ≡ printed s
unfolding printed
printed_is s =
    let t1 : List (List ℕ) = map state_text s.states in
    let t2 : List (List ℕ) = flat_map rule_lines s.rules in
    let w : List ℕ = titled_text (codes "window ") s.window in
    let t4 : List (List ℕ) = rate_lines s.rate in
    let last : List (List ℕ) = codes "end" ∷ [] in
    let tail : text_of (t4 ++ last) ≡ rate_text s.rate ++ codes "end\n" = text_of-append t4 last ∙ ap (λ (bytes : List ℕ). bytes ++ text_of last) (text-rate s.rate) ∙ ap (λ (bytes : List ℕ). rate_text s.rate ++ bytes) text-end in
    let windowed : text_of (w ∷ (t4 ++ last)) ≡ line_text (titled_text (codes "window ")) s.window ++ (rate_text s.rate ++ codes "end\n") =
    text-cons w (t4 ++ last) ∙ ap (λ (bytes : List ℕ). w ++ (10 ∷ bytes)) tail ∙ sym (append_assoc w (codes "\n") (rate_text s.rate ++ codes "end\n")) in
    let ruled : text_of (t2 ++ (w ∷ (t4 ++ last))) ≡ flat_map rule_text s.rules ++ (line_text (titled_text (codes "window ")) s.window ++ (rate_text s.rate ++ codes "end\n")) =
    text_of-append t2 (w ∷ (t4 ++ last)) ∙ ap (λ (bytes : List ℕ). bytes ++ text_of (w ∷ (t4 ++ last))) (text-rules s.rules) ∙ ap (λ (bytes : List ℕ). flat_map rule_text s.rules ++ bytes) windowed in
    text-cons header_text (lines_of s) ∙ ap (λ (bytes : List ℕ). header_text ++ (10 ∷ bytes)) (text_of-append t1 (t2 ++ (w ∷ (t4 ++ last)))
    ∙ ap (λ (bytes : List ℕ). bytes ++ text_of (t2 ++ (w ∷ (t4 ++ last)))) (text-map state_text s.states) ∙ ap (λ (bytes : List ℕ). flat_map (line_text state_text) s.states ++ bytes) ruled)

header_plain : IsPlain header_text
unfolding is_skipped behind_blanks
header_plain = record { no_end = refl; no_cr = refl; stays = refl }

pub numbered-cons : (k : ℕ) (line : List ℕ) (lines : List (List ℕ)) → numbered k (line ∷ lines) ≡ record { number = k; bytes = line } ∷ numbered (k + 1) lines
unfolding numbered
numbered-cons k line lines = refl

header_texts : texts header_text ≡ codes "ccac-controller" ∷ codes "1" ∷ []
unfolding texts
header_texts = refl

pub text_printed : (bytes : List ℕ) (s : Sections) → IsText bytes s → SpellsAgain (printed s) s
text_printed bytes s is =
    let again = lines_print (fronts is.lines) s is.spelled (fronts_from is.lines) in
    let found : source_lines (text_of (header_text ∷ lines_of s)) ≡ record { number = 1; bytes = header_text } ∷ numbered 2 (lines_of s) =
    source_lines_printed (header_text ∷ lines_of s) (header_plain, again.plain) ∙ numbered-cons 1 header_text (lines_of s) in
    record {
      read = again.read;
      spelled = record {
        header = record { number = 1; bytes = header_text };
        lines = numbered 2 (lines_of s);
        lines_are = ap source_lines (sym (printed_is s)) ∙ found;
        header_is = header_texts;
        spelled = again.spelled;
      };
      same = again.same;
    }

-- a call that gives the printed text, if memory lasts
pub prints_again : {X E : Type 0} (items : X → List ℕ) (bytes : List ℕ) (s : Sections) → IsText bytes s → (result : Result X E) → IfOk result (λ out. items out ≡ printed s) → IfOk result (λ out. SpellsAgain (items out) s)
prints_again items bytes s is (Ok out) exact = subst (λ (text : List ℕ). SpellsAgain text s) (sym exact) (text_printed bytes s is)
prints_again items bytes s is (Err fault) exact = tt
