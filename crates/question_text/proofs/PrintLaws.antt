-- The printed text of a question that has a text is a text of it.
use Rattle.std.proofs.Common.{◌≡◌, ℕ, Bool, true, false, Option, Some, None, Result, Ok, Err, List, [], ◌∷◌, ◌++◌, map, refl, sym, ap, subst, ◌∙◌, arith}
use Rattle.std.specs.Prelude.{IfOk, codes, unsigned_abs}
use Rattle.std.proofs.lemmas.List.{length-map}
use Rattle.text_lines.specs.Steps.{◌>>=◌}
use Rattle.text_lines.proofs.StepLaws.{bind_ok}
use Rattle.whole.specs.declared.answers.Refusal.{Refusal}
use Rattle.source_text.specs.Tokens.{word}
use Rattle.source_text.specs.Shown.{Ahead}
use Rattle.source_text.specs.Printed.{AreFromLine}
use Rattle.weighing.specs.declared.scales.Num.{Num}
use Rattle.path_server.specs.declared.settings.Setting.{Setting}
use Rattle.condition_syntax.specs.Trees as written
use Rattle.ctrl_syntax.specs.Rest.{fronts}
use Rattle.ctrl_syntax.specs.Grammar.{Each, none, one_more}
use Rattle.ctrl_syntax.proofs.SectionTexts.{AreFromLines, fronts_from, from_parts}
use Rattle.ctrl_types.specs.Denominators.{with_numbers}
use Rattle.ctrl_types.specs.Limits.{IsController}
use Rattle.ctrl_types.specs.Statements.{condition_numbers}
use Rattle.ctrl_types.specs.declared.controllers.Controller.{Controller}
use Rattle.ctrl_types.specs.declared.controllers.State.{State}
use Rattle.question_syntax.specs.Grammar.{Spells, SpellsSetting, SpellsWanted}
use Rattle.question_syntax.specs.Printed.{printed}
use Rattle.question_syntax.specs.Sections.{Sections, Wanted, SameButLines, wanted_at}
use Rattle.question_syntax.proofs.ConditionLimits.{question_within}
use Rattle.question_syntax.proofs.Texts.{lines_printed}
use Rattle.question_text.specs.Conditions.{Condition}
use Rattle.question_text.specs.NamedValues.{each_found, in_front}
use Rattle.question_text.specs.StatementRules.{SeenQuestion, against, buffer_numbers, meant, number_of}
use Rattle.question_text.specs.Resolution.{mixes, numbers_by, resolved_by, wanted, wanted_by, wanteds_by}
use Rattle.question_text.specs.Texts.{HasText, IsTextOf, sections_written, wanted_written}
use Rattle.question_text.proofs.CanonLaws.{canon, canon_short, condition_is_written, means_same}
use Rattle.question_text.proofs.MeaningLaws.{means_it, meant_again}
use Rattle.question_text.proofs.Respelling.{cond_by, condition_again, same_numbers}
use Rattle.question_text.proofs.TextLaws.{controller_scale, given, given_again}

module _ (states : List State) (s : Setting) where
  -- ---- the canonical text of the same

  abbrev canonical : written.Condition → written.Condition
  canonical c = cond_by (canon states s) (canon_short states s) c

  abbrev pub wanted_by_name : Wanted → Wanted
  wanted_by_name w = record { cond = canonical w.cond; line = 0 }

  -- a line without its number
  abbrev bare : Ahead → Ahead
  bare a = record { line = 0; tokens = a.tokens }

  record OnLine (title : List ℕ) (w : Wanted) : Type 0 where
    line : Ahead
    spelled : SpellsWanted title line w
    from : AreFromLine line.tokens

  wanted_spelled : (title : List ℕ) (a : Ahead) (w : Wanted) → SpellsWanted title a w → AreFromLine a.tokens → OnLine title (wanted_by_name w)
  wanted_spelled title a w is from =
      let cond = is.cond_is in
      let other = condition_again (canon states s) (canon_short states s) cond.front w.cond cond.spelled in
      let words = subst AreFromLine cond.tokens_are from in
      record {
        line = record { line = 0; tokens = word title ∷ other.tokens };
        spelled = record { cond_is = record { front = other.tokens; tokens_are = refl; spelled = other.spelled }; line_is = refl };
        from = (words.0, other.from words.1);
      }

  record OnLines (ws : List Wanted) : Type 0 where
    lines : List Ahead
    spelled : Each (SpellsWanted (codes "assume")) lines ws
    from : AreFromLines lines

  assumes_spelled : {lines : List Ahead} {ws : List Wanted} → Each (SpellsWanted (codes "assume")) lines ws → AreFromLines lines → OnLines (map wanted_by_name ws)
  assumes_spelled none from = record { lines = []; spelled = none; from = tt }
  assumes_spelled (one_more {a} {x} is rest) from =
      let here = wanted_spelled (codes "assume") a x is from.0 in
      let later = assumes_spelled rest from.1 in
      record { lines = here.line ∷ later.lines; spelled = one_more here.spelled later.spelled; from = (here.from, later.from) }

  abbrev pub sections_by_name : Sections → Sections
  sections_by_name t = record { setting = t.setting; rate_line = 0; buffer_line = 0; assumes = map wanted_by_name t.assumes; require = wanted_by_name t.require }

  lines_from : (front back : List Ahead) → AreFromLines front → AreFromLines back → AreFromLines (front ++ back)
  lines_from [] back first rest = rest
  lines_from (a ∷ front) back first rest = (first.0, lines_from front back first.1 rest)

  record OnSetting (set : Setting) : Type 0 where
    lines : List Ahead
    spelled : SpellsSetting lines set 0 0
    from : AreFromLines lines

  setting_spelled : (lines : List Ahead) (set : Setting) (r b : ℕ) → SpellsSetting lines set r b → AreFromLines lines → OnSetting set
  setting_spelled lines set r b is from =
      let each : AreFromLines (is.flows ∷ is.steps ∷ is.rate ∷ is.jitter ∷ is.rtt ∷ is.buffer ∷ is.budget ∷ []) = subst AreFromLines is.lines_are from in
      record {
        lines = bare is.flows ∷ bare is.steps ∷ bare is.rate ∷ bare is.jitter ∷ bare is.rtt ∷ bare is.buffer ∷ bare is.budget ∷ [];
        spelled = record {
          flows = bare is.flows;
          steps = bare is.steps;
          rate = bare is.rate;
          jitter = bare is.jitter;
          rtt = bare is.rtt;
          buffer = bare is.buffer;
          budget = bare is.budget;
          lines_are = refl;
          flows_is = record { front = is.flows_is.front; tokens_are = is.flows_is.tokens_are; spelled = is.flows_is.spelled };
          steps_is = record { front = is.steps_is.front; tokens_are = is.steps_is.tokens_are; spelled = is.steps_is.spelled };
          rate_is = record { front = is.rate_is.front; tokens_are = is.rate_is.tokens_are; spelled = is.rate_is.spelled };
          rate_line_is = refl;
          jitter_is = record { front = is.jitter_is.front; tokens_are = is.jitter_is.tokens_are; spelled = is.jitter_is.spelled };
          rtt_is = record { front = is.rtt_is.front; tokens_are = is.rtt_is.tokens_are; spelled = is.rtt_is.spelled };
          buffer_is = record { front = is.buffer_is.front; tokens_are = is.buffer_is.tokens_are; spelled = is.buffer_is.spelled };
          buffer_line_is = refl;
          budget_is = record { front = is.budget_is.front; tokens_are = is.budget_is.tokens_are; spelled = is.budget_is.spelled };
        };
        from = each;
      }

  record OnAllLines (t : Sections) : Type 0 where
    lines : List Ahead
    spelled : Spells lines t
    from : AreFromLines lines

  text_spelled : (lines : List Ahead) (t : Sections) → Spells lines t → AreFromLines lines → OnAllLines (sections_by_name t)
  text_spelled lines t is from =
      let all = from_parts is.setting_lines (is.assume_lines ++ (is.require ∷ is.last ∷ [])) (subst AreFromLines is.lines_are from) in
      let behind = from_parts is.assume_lines (is.require ∷ is.last ∷ []) all.1 in
      let set = setting_spelled is.setting_lines t.setting t.rate_line t.buffer_line is.setting_is all.0 in
      let assumes = assumes_spelled is.assumes_are behind.0 in
      let require = wanted_spelled (codes "require") is.require t.require is.require_is behind.1.0 in
      let count = length-map t.assumes wanted_by_name in
      let few = is.few in
      let last : List Ahead = require.line ∷ is.last ∷ [] in
      record {
        lines = set.lines ++ (assumes.lines ++ last);
        spelled = record {
          setting_lines = set.lines;
          assume_lines = assumes.lines;
          require = require.line;
          last = is.last;
          lines_are = refl;
          setting_is = set.spelled;
          assumes_are = assumes.spelled;
          few = omega arith;
          require_is = require.spelled;
          last_is = is.last_is;
        };
        from = lines_from set.lines (assumes.lines ++ last) set.from (lines_from assumes.lines last assumes.from (require.from, (behind.1.1.0, tt)));
      }

  -- ---- it means the same

  line_by : ℕ → Option Condition → Option ℕ → Result (Condition × ℕ) Refusal
  line_by line m f = wanted m 12 line >>= λ c. against (mixes states c) 13 line >>= λ _. wanted f 14 line >>= λ next. Ok (c, next)

  line_is : (w : Wanted) (d : ℕ) → wanted_by states s w d ≡ line_by w.line (meant states s w.cond) (with_numbers (Some d) (condition_numbers w.cond))
  unfolding wanted_by numbers_by line_by
  line_is w d = refl

  record IsMade (line : ℕ) (m : Option Condition) (f : Option ℕ) (x : Condition × ℕ) : Type 0 where
    means : m ≡ Some x.0
    same : (k : ℕ) → line_by k m f ≡ Ok x

  line_made : (line : ℕ) (m : Option Condition) (f : Option ℕ) (x : Condition × ℕ) → line_by line m f ≡ Ok x → IsMade line m f x
  unfolding line_by
  line_made line None f x e = absurd (cc)
  line_made line (Some c) f x e = by (mixes states c) refl f e
    where
      by : (b : Bool) → mixes states c ≡ b → (g : Option ℕ) → (against b 13 line >>= λ _. wanted g 14 line >>= λ next. Ok (c, next)) ≡ Ok x → IsMade line (Some c) g x
      by true p g e = absurd (cc)
      by false p None e = absurd (cc)
      by false p (Some n) e =
          let same : (c, n) ≡ x = cc in
          record {
            means = ap (λ (y : Condition × ℕ). Some y.0) same;
            same = λ k. ap (λ (b : Bool). against b 13 k >>= λ _. Ok (c, n)) p ∙ ap (λ (y : Condition × ℕ). Ok y) same;
          }

  wanted_same : (w v : Wanted) (d : ℕ) (x : Condition × ℕ) → v.cond ≡ canonical w.cond → wanted_by states s w d ≡ Ok x → wanted_by states s v d ≡ Ok x
  wanted_same w v d x e read =
      let made = line_made w.line (meant states s w.cond) (with_numbers (Some d) (condition_numbers w.cond)) x (sym (line_is w d) ∙ read) in
      let means : meant states s v.cond ≡ meant states s w.cond =
      ap (meant states s) e ∙ meant_again states s (means_same states s (means_it states s w.cond x.0 made.means)) ∙ sym made.means in
      let nums : condition_numbers v.cond ≡ condition_numbers w.cond = ap condition_numbers e ∙ same_numbers (canon states s) (canon_short states s) w.cond in
      line_is v d ∙ ap (λ (m : Option Condition). line_by v.line m (with_numbers (Some d) (condition_numbers v.cond))) means
      ∙ ap (λ (ns : List Num). line_by v.line (meant states s w.cond) (with_numbers (Some d) ns)) nums ∙ made.same v.line

  abbrev conds : List Wanted → List written.Condition
  conds ws = map (λ (w : Wanted). w.cond) ws

  wanteds_same : (ws vs : List Wanted) (d : ℕ) (x : List Condition × ℕ) → conds vs ≡ map canonical (conds ws) → wanteds_by states s ws d ≡ Ok x → wanteds_by states s vs d ≡ Ok x
  unfolding wanteds_by
  wanteds_same [] [] d x e read = read
  wanteds_same [] (v ∷ vs) d x e read = absurd (cc)
  wanteds_same (w ∷ ws) [] d x e read = absurd (cc)
  wanteds_same (w ∷ ws) (v ∷ vs) d x e read =
      let head : v.cond ≡ canonical w.cond = cc in
      let tail : conds vs ≡ map canonical (conds ws) = cc in
      let one = bind_ok (wanted_by states s w d) _ x read in
      let rest = bind_ok (wanteds_by states s ws one.0.1) _ x one.2 in
      let here = wanted_same w v d one.0 head one.1 in
      let later = wanteds_same ws vs one.0.1 rest.0 tail rest.1 in
      ap (λ (r : Result (Condition × ℕ) Refusal). r >>= λ c. wanteds_by states s vs c.1 >>= λ cs. Ok (c.0 ∷ cs.0, cs.1)) here
      ∙ ap (λ (r : Result (List Condition × ℕ) Refusal). r >>= λ cs. Ok (one.0.0 ∷ cs.0, cs.1)) later ∙ rest.2

  numbers_same : (l k : ℕ) (ns : List Num) (d e : ℕ) → numbers_by l ns d ≡ Ok e → numbers_by k ns d ≡ Ok e
  unfolding numbers_by
  numbers_same l k ns d e read = by (with_numbers (Some d) ns) read
    where
      by : (f : Option ℕ) → wanted f 14 l ≡ Ok e → wanted f 14 k ≡ Ok e
      by None p = absurd (cc)
      by (Some n) p = p

  -- the assumptions as they are written
  assumes_written : (ws : List Wanted) (xs : List Condition) → each_found (meant states s) (conds ws) ≡ Some xs → map (wanted_written states s) xs ≡ map wanted_by_name ws
  unfolding each_found
  assumes_written [] xs e = let none : [] ≡ xs = cc in ap (map (wanted_written states s)) (sym none)
  assumes_written (w ∷ ws) xs e = by (meant states s w.cond) (each_found (meant states s) (conds ws)) refl refl e (λ ys p. assumes_written ws ys p)
    where
      by : (o : Option Condition) (os : Option (List Condition)) → meant states s w.cond ≡ o → each_found (meant states s) (conds ws) ≡ os → in_front o os ≡ Some xs
          → ((ys : List Condition) → each_found (meant states s) (conds ws) ≡ Some ys → map (wanted_written states s) ys ≡ map wanted_by_name ws)
          → map (wanted_written states s) xs ≡ wanted_by_name w ∷ map wanted_by_name ws
      by None os p q f rest = absurd (cc)
      by (Some x) None p q f rest = absurd (cc)
      by (Some x) (Some ys) p q f rest =
          let same : x ∷ ys ≡ xs = cc in
          ap (map (wanted_written states s)) (sym same) ∙ ap (λ (c : written.Condition). (record { cond = c; line = 0 }) ∷ map (wanted_written states s) ys) (condition_is_written states s (means_it states s w.cond x p))
          ∙ ap (λ (us : List Wanted). wanted_by_name w ∷ us) (rest ys q)

  bare_conds : (ws : List Wanted) → conds (map wanted_by_name ws) ≡ map canonical (conds ws)
  bare_conds [] = refl
  bare_conds (w ∷ ws) = ap (λ (cs : List written.Condition). canonical w.cond ∷ cs) (bare_conds ws)

  numberless_conds : (ws : List Wanted) → conds (map (wanted_at 0) ws) ≡ conds ws
  numberless_conds [] = refl
  numberless_conds (w ∷ ws) = ap (λ (cs : List written.Condition). w.cond ∷ cs) (numberless_conds ws)

  -- what is read again has the canonical conditions
  same_conds : (ws vs : List Wanted) → map (wanted_at 0) (map wanted_by_name ws) ≡ map (wanted_at 0) vs → conds vs ≡ map canonical (conds ws)
  same_conds ws vs e = sym (numberless_conds vs) ∙ ap conds (sym e) ∙ numberless_conds (map wanted_by_name ws) ∙ bare_conds ws

-- ---- the whole question

written_is : (states : List State) (t : Sections) (q : SeenQuestion) → q.setting ≡ t.setting → each_found (meant states t.setting) (map (λ (w : Wanted). w.cond) t.assumes) ≡ Some q.assumes
    → meant states t.setting t.require.cond ≡ Some q.require → sections_written states q ≡ sections_by_name states t.setting t
unfolding sections_written
written_is states t q same assumes require =
    ap (λ (s : Setting). record { setting = s; rate_line = 0; buffer_line = 0; assumes = map (wanted_written states s) q.assumes; require = wanted_written states s q.require }) same
    ∙ ap (λ (ws : List Wanted). record { setting = t.setting; rate_line = 0; buffer_line = 0; assumes = ws; require = wanted_written states t.setting q.require }) (assumes_written states t.setting t.assumes q.assumes assumes)
    ∙ ap (λ (c : written.Condition). record { setting = t.setting; rate_line = 0; buffer_line = 0; assumes = map (wanted_by_name states t.setting) t.assumes; require = record { cond = c; line = 0 } })
    (condition_is_written states t.setting (means_it states t.setting t.require.cond q.require require))

record AreSame (states : List State) (t u : Sections) : Type 0 where
  setting : u.setting ≡ t.setting
  assumes : map (λ (w : Wanted). w.cond) u.assumes ≡ map (λ (c : written.Condition). cond_by (canon states t.setting) (canon_short states t.setting) c) (map (λ (w : Wanted). w.cond) t.assumes)
  require : u.require.cond ≡ cond_by (canon states t.setting) (canon_short states t.setting) t.require.cond

are_same : (states : List State) (t u : Sections) → SameButLines (sections_by_name states t.setting t) u → AreSame states t u
are_same states t u same = record {
  setting = ap (λ (x : Sections). x.setting) (sym same);
  assumes = same_conds states t.setting t.assumes u.assumes (ap (λ (x : Sections). x.assumes) same);
  require = ap (λ (x : Sections). x.require.cond) (sym same);
}

read_same : (c : Controller) (t u : Sections) (q : SeenQuestion) → AreSame c.states t u → resolved_by c t ≡ Ok q → resolved_by c u ≡ Ok q
unfolding resolved_by
read_same c t u q same read =
    let s : Setting = t.setting in
    let rate = bind_ok (numbers_by t.rate_line (number_of s.path.rate ∷ []) (unsigned_abs c.den)) _ q read in
    let buffer = bind_ok (numbers_by t.buffer_line (buffer_numbers s.path.buffer) rate.0) _ q rate.2 in
    let assumes = bind_ok (wanteds_by c.states s t.assumes buffer.0) _ q buffer.2 in
    let require = bind_ok (wanted_by c.states s t.require assumes.0.1) _ q assumes.2 in
    let one = numbers_same c.states s t.rate_line u.rate_line (number_of s.path.rate ∷ []) (unsigned_abs c.den) rate.0 rate.1 in
    let two = numbers_same c.states s t.buffer_line u.buffer_line (buffer_numbers s.path.buffer) rate.0 buffer.0 buffer.1 in
    let three = wanteds_same c.states s t.assumes u.assumes buffer.0 assumes.0 same.assumes assumes.1 in
    let four = wanted_same c.states s t.require u.require assumes.0.1 require.0 same.require require.1 in
    ap (whole u.assumes u.require) same.setting
    ∙ ap (λ (r : Result ℕ Refusal). r >>= λ d. numbers_by u.buffer_line (buffer_numbers s.path.buffer) d >>= λ e. last e) one
    ∙ ap (λ (r : Result ℕ Refusal). r >>= λ e. last e) two
    ∙ ap (λ (r : Result (List Condition × ℕ) Refusal). r >>= λ xs. wanted_by c.states s u.require xs.1 >>= λ r. Ok (record { setting = s; assumes = xs.0; require = r.0 })) three
    ∙ ap (λ (r : Result (Condition × ℕ) Refusal). r >>= λ r. Ok (record { setting = s; assumes = assumes.0.0; require = r.0 })) four
    ∙ require.2
  where
    last : ℕ → Result SeenQuestion Refusal
    last e = wanteds_by c.states t.setting u.assumes e >>= λ xs. wanted_by c.states t.setting u.require xs.1 >>= λ r. Ok (record { setting = t.setting; assumes = xs.0; require = r.0 })

    whole : List Wanted → Wanted → Setting → Result SeenQuestion Refusal
    whole ws w s =
        numbers_by u.rate_line (number_of s.path.rate ∷ []) (unsigned_abs c.den) >>= λ d. numbers_by u.buffer_line (buffer_numbers s.path.buffer) d
        >>= λ e. wanteds_by c.states s ws e >>= λ xs. wanted_by c.states s w xs.1 >>= λ r. Ok (record { setting = s; assumes = xs.0; require = r.0 })

pub printed_text : (c : Controller) → IsController c → (q : SeenQuestion) → HasText c q → IsTextOf c (printed (sections_written c.states q)) q
printed_text c controller q (bytes, is) =
    let t : Sections = is.sections in
    let s : Setting = t.setting in
    let lines = text_spelled c.states s (fronts is.spelled.lines) t is.spelled.spelled (fronts_from is.spelled.lines) in
    let again = lines_printed lines.lines (sections_by_name c.states s t) lines.spelled lines.from in
    let u : Sections = again.read in
    let same = are_same c.states t u again.same in
    let read = given_again c (controller_scale c controller) t q (question_within bytes t is.spelled) is.unbroken is.resolved in
    let found = given c (controller_scale c controller) u q (question_within (printed (sections_by_name c.states s t)) u again.spelled) (read_same c t u q same read) in
    subst (λ (v : Sections). IsTextOf c (printed v) q) (sym (written_is c.states t q is.resolved.setting is.resolved.assumes is.resolved.require))
    (record { sections = u; spelled = again.spelled; unbroken = found.unbroken; resolved = found.resolved })

-- a call that gives the printed text, if memory lasts
pub prints_again : {X E : Type 0} (items : X → List ℕ) (c : Controller) → IsController c → (q : SeenQuestion) → HasText c q → (result : Result X E)
    → IfOk result (λ out. items out ≡ printed (sections_written c.states q)) → IfOk result (λ out. IsTextOf c (items out) q)
prints_again items c controller q has (Ok out) exact = subst (λ (text : List ℕ). IsTextOf c text q) (sym exact) (printed_text c controller q has)
prints_again items c controller q has (Err fault) exact = tt
