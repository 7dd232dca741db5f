-- A text that is read is spelled by its lines.
use Rattle.std.proofs.Common.{◌≡◌, ℕ, zero, suc, ◌≤◌, true, false, ⊎_elim, Option, None, Some, Result, Ok, Err, List, [], ◌∷◌, ◌++◌, length, refl, sym, ap, subst, ◌∙◌, append_assoc, arith}
use Rattle.std.specs.Prelude.{codes}
use Rattle.std.specs.Str.{bytes_eq}
use Rattle.std.proofs.lemmas.Slice.Eq.{bytes_eq-Decides}
use Rattle.std.proofs.lemmas.Bool.{and_parts}
use Rattle.text_lines.specs.Steps.{◌>>=◌}
use Rattle.text_lines.proofs.StepLaws.{bind_ok, ok_is}
use Rattle.whole.specs.declared.answers.Refusal.{Refusal}
use Rattle.source_text.specs.Shown.{Ahead}
use Rattle.source_text.specs.Lines.{Line, source_lines, end_number}
use Rattle.source_text.specs.Header.{texts}
use Rattle.condition_syntax.specs.Fronts.{says}
use Rattle.condition_syntax.proofs.FrontLaws.{chosen}
use Rattle.ctrl_syntax.specs.declared.syntax.SetLine.{SetLine}
use Rattle.ctrl_syntax.specs.declared.syntax.RateLine.{RateLine}
use Rattle.ctrl_syntax.specs.Rest.{Rest, fronts, first_says, number_of_next}
use Rattle.ctrl_syntax.specs.Sections.{Rule, Sections}
use Rattle.ctrl_syntax.specs.Grammar.{SpellsState, SpellsSet, Each, none, one_more, SpellsRules, no_rule, a_rule, SpellsRate, no_rate, a_rate, Spells, IsText}
use Rattle.ctrl_syntax.specs.Reading.{refusal, state_at, head_at, set_at, titled_at, end_at, Lines, stray, line_or, line_by, titled_by, many_within, many_by, sets_by, rule_by, rate_by, nothing_or, nothing_left, sections_by, names_controller, text_by, text_of}
use Rattle.ctrl_syntax.proofs.LinesTaken.{state_spelled, head_spelled, set_spelled, titled_spelled, end_spelled}

-- ---- one line

-- a line was taken and read
pub record ReadsLine {X : Type 0} (read : Ahead → Result X Refusal) (s : Rest) (x : X × Rest) : Type 0 where
  pub line : Ahead
  pub lines : s.lines ≡ line ∷ x.1.lines
  pub was_read : read line ≡ Ok x.0

by_lines : {X : Type 0} (read : Ahead → Result X Refusal) (s : Rest) (lines : List Ahead) (x : X × Rest) → s.lines ≡ lines → line_or read lines s.end ≡ Ok x → ReadsLine read s x
by_lines read s [] x is e = absurd (cc)
by_lines {X} read s (a ∷ lines) x is e =
    let y = bind_ok (read a) (λ y. Ok (y, record { lines = lines; end = s.end })) x e in
    subst (ReadsLine read s) {x = (y.0, record { lines = lines; end = s.end })} (ok_is {E = Refusal} (y.0, record { lines = lines; end = s.end }) x y.2)
    (record { line = a; lines = is; was_read = y.1 })

pub line_read : {X : Type 0} (read : Ahead → Result X Refusal) (s : Rest) (x : X × Rest) → line_by read s ≡ Ok x → ReadsLine read s x
unfolding line_by
line_read read s x e = by_lines read s s.lines x refl e

-- a line that begins with this word
pub first_line_says : (w : List ℕ) (a : Ahead) (lines all : List Ahead) → all ≡ a ∷ lines → first_says w all ≡ true → says w a.tokens ≡ true
first_line_says w a lines all is e = sym (ap (first_says w) is) ∙ e

pub titled_read : {X : Type 0} (title : List ℕ) (read : Ahead → Result X Refusal) (s : Rest) (x : X × Rest) → titled_by title read s ≡ Ok x
    → (first_says title s.lines ≡ true) × ReadsLine read s x
unfolding titled_by
titled_read title read s x e = ⊎_elim yes no (chosen (first_says title s.lines) (line_by read s) (Err (stray s.lines s.end)) (Ok x) e)
  where
    yes : (first_says title s.lines ≡ true) × (line_by read s ≡ Ok x) → (first_says title s.lines ≡ true) × ReadsLine read s x
    yes p = (p.0, line_read read s x p.1)

    no : (first_says title s.lines ≡ false) × (Err (stray s.lines s.end) ≡ Ok x) → (first_says title s.lines ≡ true) × ReadsLine read s x
    no p = absurd (let h = p.1 in cc)

-- ---- one thing after another

-- the lines in front spell what was read, and are before those that are left
pub record TakesLines {X : Type 0} (Spelled : List Ahead → X → Type 0) (s : Rest) (x : X × Rest) : Type 0 where
  pub front : List Ahead
  pub lines : s.lines ≡ front ++ x.1.lines
  pub spelled : Spelled front x.0

-- what one step takes goes before what the others take
abbrev pub Prepends : {X : Type 0} → List ℕ → (List Ahead → List X → Type 0) → (Rest → Lines X) → Type 0
Prepends {X} title Spelled read = (s : Rest) (x : X × Rest) → first_says title s.lines ≡ true → read s ≡ Ok x
    → TakesLines (λ front y. (lines : List Ahead) (xs : List X) → Spelled lines xs → Spelled (front ++ lines) (y ∷ xs)) s x

pub record TakesMany {X : Type 0} (Spelled : List Ahead → List X → Type 0) (room : ℕ) (s : Rest) (x : List X × Rest) : Type 0 where
  pub taken : TakesLines Spelled s x
  pub few : length x.0 ≤ room

pub many_taken : {X : Type 0} (over : ℕ → Refusal) (title : List ℕ) (Spelled : List Ahead → List X → Type 0) (read : Rest → Lines X) → Spelled [] [] → Prepends title Spelled read
    → (room : ℕ) (s : Rest) (x : List X × Rest) → many_within over title read room s ≡ Ok x → TakesMany Spelled room s x
unfolding many_within
many_taken {X} over title Spelled read nil step zero s x e = ⊎_elim full done (chosen (first_says title s.lines) (Err (over (number_of_next s.lines s.end))) (Ok ([], s)) (Ok x) e)
  where
    full : (first_says title s.lines ≡ true) × (◌≡◌ {A = Lines (List X)} (Err (over (number_of_next s.lines s.end))) (Ok x)) → TakesMany Spelled 0 s x
    full p = absurd (let h = p.1 in cc)

    done : (first_says title s.lines ≡ false) × (◌≡◌ {A = Lines (List X)} (Ok ([], s)) (Ok x)) → TakesMany Spelled 0 s x
    done p = subst (TakesMany Spelled 0 s) {x = ([], s)} (ok_is {E = Refusal} ([], s) x p.1) (record { taken = record { front = []; lines = refl; spelled = nil }; few = omega arith })
many_taken {X} over title Spelled read nil step (suc room) s x e =
    ⊎_elim (another (λ t ys h. many_taken over title Spelled read nil step room t ys h)) done (chosen (first_says title s.lines) (read s >>= λ y. many_within over title read room y.1 >>= λ ys. Ok (y.0 ∷ ys.0, ys.1)) (Ok ([], s)) (Ok x) e)
  where
    done : (first_says title s.lines ≡ false) × (◌≡◌ {A = Lines (List X)} (Ok ([], s)) (Ok x)) → TakesMany Spelled (suc room) s x
    done p = subst (TakesMany Spelled (suc room) s) {x = ([], s)} (ok_is {E = Refusal} ([], s) x p.1) (record { taken = record { front = []; lines = refl; spelled = nil }; few = omega arith })

    another : ((t : Rest) (ys : List X × Rest) → many_within over title read room t ≡ Ok ys → TakesMany Spelled room t ys) → (first_says title s.lines ≡ true) × ((read s >>= λ y. many_within over title read room y.1 >>= λ ys. Ok (y.0 ∷ ys.0, ys.1)) ≡ Ok x) → TakesMany Spelled (suc room) s x
    another further p =
        let y = bind_ok (read s) (λ y. many_within over title read room y.1 >>= λ ys. Ok (y.0 ∷ ys.0, ys.1)) x p.1 in
        let ys = bind_ok (many_within over title read room y.0.1) (λ ys. Ok (y.0.0 ∷ ys.0, ys.1)) x y.2 in
        let one = step s y.0 p.0 y.1 in
        let others = further y.0.1 ys.0 ys.1 in
        subst (TakesMany Spelled (suc room) s) {x = (y.0.0 ∷ ys.0.0, ys.0.1)} (ok_is {E = Refusal} (y.0.0 ∷ ys.0.0, ys.0.1) x ys.2) (record {
          taken = record {
            front = one.front ++ others.taken.front;
            lines = one.lines ∙ ap (λ (ls : List Ahead). one.front ++ ls) others.taken.lines ∙ sym (append_assoc one.front others.taken.front ys.0.1.lines);
            spelled = one.spelled others.taken.front ys.0.0 others.taken.spelled;
          };
          few = omega (arith, others.few);
        })

-- lines of one kind
line_prepends : {X : Type 0} (title : List ℕ) (Spells : Ahead → X → Type 0) (read : Ahead → Result X Refusal)
    → ((a : Ahead) (x : X) → says title a.tokens ≡ true → read a ≡ Ok x → Spells a x) → Prepends title (Each Spells) (line_by read)
line_prepends title Spells read spelled s x named e =
    let r = line_read read s x e in
    record {
      front = r.line ∷ [];
      lines = r.lines;
      spelled = λ lines xs each. one_more (spelled r.line x.0 (first_line_says title r.line x.1.lines s.lines r.lines named) r.was_read) each;
    }

pub sets_taken : (s : Rest) (x : List SetLine × Rest) → sets_by s ≡ Ok x → TakesLines (Each SpellsSet) s x
unfolding sets_by
sets_taken s x e = (many_taken (refusal 11) (codes "set") (Each SpellsSet) (line_by set_at) none (line_prepends (codes "set") SpellsSet set_at set_spelled) (length s.lines) s x e).taken

rule_prepends : Prepends (codes "rule") SpellsRules rule_by
unfolding rule_by
rule_prepends s x named e =
    let head = bind_ok (line_by head_at s) _ x e in
    let sets = bind_ok (sets_by head.0.1) _ x head.2 in
    let r = line_read head_at s head.0 head.1 in
    let h = head_spelled r.line head.0.0 (first_line_says (codes "rule") r.line head.0.1.lines s.lines r.lines named) r.was_read in
    let t = sets_taken head.0.1 sets.0 sets.1 in
    let made : Rule = record { guard = head.0.0.0; sets = sets.0.0; line = head.0.0.1 } in
    subst (TakesLines (λ front y. (lines : List Ahead) (xs : List Rule) → SpellsRules lines xs → SpellsRules (front ++ lines) (y ∷ xs)) s) {x = (made, sets.0.1)}
    (ok_is {E = Refusal} (made, sets.0.1) x sets.2) (record {
      front = r.line ∷ t.front;
      lines = r.lines ∙ ap (λ (ls : List Ahead). r.line ∷ ls) t.lines;
      spelled = λ lines xs others. subst (λ (ls : List Ahead). SpellsRules ls (made ∷ xs)) (refl) (a_rule h.spelled h.line_is t.spelled others);
    })

-- ---- the whole

rate_taken : (s : Rest) (x : Option RateLine × Rest) → rate_by s ≡ Ok x → TakesLines SpellsRate s x
unfolding rate_by
rate_taken s x e = ⊎_elim rated other (chosen (first_says (codes "rate") s.lines) (line_by titled_at s >>= λ r. Ok (Some r.0, r.1)) (Ok (None, s)) (Ok x) e)
  where
    rated : (first_says (codes "rate") s.lines ≡ true) × ((line_by titled_at s >>= λ r. Ok (Some r.0, r.1)) ≡ Ok x) → TakesLines SpellsRate s x
    rated p =
        let y = bind_ok (line_by titled_at s) (λ r. Ok (Some r.0, r.1)) x p.1 in
        let r = line_read titled_at s y.0 y.1 in
        subst (TakesLines SpellsRate s) {x = (Some y.0.0, y.0.1)} (ok_is {E = Refusal} (Some y.0.0, y.0.1) x y.2) (record {
          front = r.line ∷ [];
          lines = r.lines;
          spelled = a_rate (titled_spelled (codes "rate") r.line y.0.0 (first_line_says (codes "rate") r.line y.0.1.lines s.lines r.lines p.0) r.was_read);
        })

    other : (first_says (codes "rate") s.lines ≡ false) × (◌≡◌ {A = Lines (Option RateLine)} (Ok (None, s)) (Ok x)) → TakesLines SpellsRate s x
    other p = subst (TakesLines SpellsRate s) {x = (None, s)} (ok_is {E = Refusal} (None, s) x p.1) (record { front = []; lines = refl; spelled = no_rate })

no_lines : (lines : List Ahead) (x : Unit {0}) → nothing_or lines ≡ Ok x → lines ≡ []
no_lines [] x e = refl
no_lines (a ∷ lines) x e = absurd (cc)

nothing_is_left : (s : Rest) (x : Unit {0}) → nothing_left s ≡ Ok x → s.lines ≡ []
unfolding nothing_left
nothing_is_left s x e = no_lines s.lines x e

pub sections_spelled : (s : Rest) (x : Sections) → sections_by s ≡ Ok x → Spells s.lines x
unfolding sections_by
sections_spelled s x e =
    let st = bind_ok (many_by (codes "state") (line_by state_at) 8 s) _ x e in
    let ru = bind_ok (many_by (codes "rule") rule_by 16 st.0.1) _ x st.2 in
    let wi = bind_ok (titled_by (codes "window") titled_at ru.0.1) _ x ru.2 in
    let ra = bind_ok (rate_by wi.0.1) _ x wi.2 in
    let la = bind_ok (titled_by (codes "end") end_at ra.0.1) _ x ra.2 in
    let no = bind_ok (nothing_left la.0.1) _ x la.2 in
    let states = many_taken (refusal 11) (codes "state") (Each SpellsState) (line_by state_at) none (line_prepends (codes "state") SpellsState state_at state_spelled) 8 s st.0 st.1 in
    let rules = many_taken (refusal 11) (codes "rule") SpellsRules rule_by no_rule rule_prepends 16 st.0.1 ru.0 ru.1 in
    let window = titled_read (codes "window") titled_at ru.0.1 wi.0 wi.1 in
    let rate = rate_taken wi.0.1 ra.0 ra.1 in
    let last = titled_read (codes "end") end_at ra.0.1 la.0 la.1 in
    let none_left = nothing_is_left la.0.1 no.0 no.1 in
    let made : Sections = record { states = st.0.0; rules = ru.0.0; window = wi.0.0.expr; window_line = wi.0.0.line; rate = ra.0.0 } in
    let last_lines : ra.0.1.lines ≡ last.1.line ∷ [] = last.1.lines ∙ ap (λ (ls : List Ahead). last.1.line ∷ ls) none_left in
    subst (Spells s.lines) (ok_is {E = Refusal} made x no.2) (record {
      state_lines = states.taken.front;
      rule_lines = rules.taken.front;
      window = window.1.line;
      rate_lines = rate.front;
      last = last.1.line;
      lines_are = states.taken.lines ∙ ap (λ (ls : List Ahead). states.taken.front ++ ls) (rules.taken.lines
          ∙ ap (λ (ls : List Ahead). rules.taken.front ++ ls) (window.1.lines ∙ ap (λ (ls : List Ahead). window.1.line ∷ ls) (rate.lines ∙ ap (λ (ls : List Ahead). rate.front ++ ls) last_lines)));
      states_are = states.taken.spelled;
      few_states = states.few;
      rules_are = rules.taken.spelled;
      few_rules = rules.few;
      window_is = titled_spelled (codes "window") window.1.line wi.0.0 (first_line_says (codes "window") window.1.line wi.0.1.lines ru.0.1.lines window.1.lines window.0) window.1.was_read;
      rate_is = rate.spelled;
      last_is = end_spelled last.1.line la.0.0 (first_line_says (codes "end") last.1.line la.0.1.lines ra.0.1.lines last.1.lines last.0) last.1.was_read;
    })

-- ---- the header

pub header_named : (ts : List (List ℕ)) → names_controller ts ≡ true → ts ≡ codes "ccac-controller" ∷ codes "1" ∷ []
header_named [] e = absurd (cc)
header_named (a ∷ []) e = absurd (cc)
header_named (a ∷ b ∷ []) e =
    let both = and_parts (bytes_eq a (codes "ccac-controller")) (bytes_eq b (codes "1")) e in
    let one : a ≡ codes "ccac-controller" = (bytes_eq-Decides a (codes "ccac-controller")).0 both.0 in
    let two : b ≡ codes "1" = (bytes_eq-Decides b (codes "1")).0 both.1 in
    ap (λ (t : List ℕ). t ∷ b ∷ []) one ∙ ap (λ (t : List ℕ). codes "ccac-controller" ∷ t ∷ []) two
header_named (a ∷ b ∷ c ∷ ts) e = absurd (cc)

by_source : (bytes : List ℕ) (lines : List Line) (x : Sections) → source_lines bytes ≡ lines → text_by lines (end_number bytes) ≡ Ok x → IsText bytes x
by_source bytes [] x is e = absurd (cc)
by_source bytes (header ∷ lines) x is e =
    let g = ⊎_elim yes no (chosen (names_controller (texts header.bytes)) (sections_by (record { lines = fronts lines; end = end_number bytes })) (Err (refusal 1 1)) (Ok x) e) in
    record { header = header; lines = lines; lines_are = is; header_is = header_named (texts header.bytes) g.0; spelled = sections_spelled (record { lines = fronts lines; end = end_number bytes }) x g.1 }
  where
    Found : Type 0
    Found = (names_controller (texts header.bytes) ≡ true) × (sections_by (record { lines = fronts lines; end = end_number bytes }) ≡ Ok x)

    yes : Found → Found
    yes p = p

    no : (names_controller (texts header.bytes) ≡ false) × (◌≡◌ {A = Result Sections Refusal} (Err (refusal 1 1)) (Ok x)) → Found
    no p = absurd (let h = p.1 in cc)

pub text_spelled : (bytes : List ℕ) (x : Sections) → text_of bytes ≡ Ok x → IsText bytes x
unfolding text_of
text_spelled bytes x e = by_source bytes (source_lines bytes) x refl e
