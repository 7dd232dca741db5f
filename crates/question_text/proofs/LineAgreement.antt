-- What is read of a line and what is asked of its statement end alike, and so do the whole text and all its statements.
use Rattle.std.proofs.Common.{◌≡◌, ℕ, Bool, true, false, Option, Some, None, Result, Ok, Err, List, [], ◌∷◌, ◌++◌, map, refl, sym, ap, subst, ◌∙◌, arith, append_assoc}
use Rattle.std.specs.Prelude.{All, is_none, unsigned_abs, nat_lt}
use Rattle.std.specs.List.{fold}
use Rattle.std.proofs.lemmas.Int.{ints}
use Rattle.std.proofs.lemmas.Grind.{common_steps}
use Rattle.std.proofs.lemmas.List.{append-nil}
use Rattle.std.proofs.lemmas.List.Elements.{All-nil, All-cons, All-map}
use Rattle.text_lines.specs.Steps.{◌>>=◌}
use Rattle.whole.specs.declared.answers.Pair.{Pair}
use Rattle.whole.specs.declared.answers.Refusal.{Refusal}
use Rattle.weighing.specs.First.{and_then, first}
use Rattle.weighing.specs.Scaled.{IsNum, common}
use Rattle.weighing.specs.declared.scales.Num.{Num}
use Rattle.path_server.specs.declared.settings.Setting.{Setting}
use Rattle.path_server.specs.Limits.{IsNumber, IsBuffer, IsSetting}
use Rattle.condition_syntax.specs.Trees as written
use Rattle.condition_syntax.specs.Trees.{EachExpr}
use Rattle.question_syntax.specs.Limits.{IsPlacedExpr, IsPlacedTerm}
use Rattle.condition_syntax.specs.declared.expressions.ETerm.{ETerm}
use Rattle.ctrl_types.specs.Denominators.{IsScale, with_numbers}
use Rattle.ctrl_types.specs.Statements.{any_comparison, coefs, condition_numbers}
use Rattle.ctrl_types.specs.declared.controllers.Controller.{Controller}
use Rattle.ctrl_types.proofs.EndAlike.{Agrees, fine, stops, agrees_then, agrees_map, agrees_weaker}
use Rattle.ctrl_types.proofs.DenominatorLaws.{IsLimited, past, within, limited, each_expr_gives, numbers_are}
use Rattle.question_syntax.specs.Reading.{refusal}
use Rattle.question_syntax.specs.Sections.{Sections, Wanted}
use Rattle.question_text.specs.Conditions.{Condition}
use Rattle.question_text.specs.NamedValues.{each_found, in_front}
use Rattle.question_text.specs.StatementRules.{LineContent, SeenQuestion, Statement, path, wanted as wanted_saying, against, buffer_numbers, judged, line_of, meant, mixed_sides, number_of, numbers, exceeds_limit, placed, sayings, statements, unknown_sides}
use Rattle.question_text.specs.Resolution.{IsAsked, mixes, numbers_by, resolved_by, wanted, wanted_by, wanteds_by}
use Rattle.question_text.proofs.MeaningLaws.{kinds_mix, means_it, unknown_is}

-- ---- rules

against_agrees : (broken same : Bool) (n line : ℕ) → broken ≡ same → Agrees (λ _. same ≡ false) (against broken n line) (against same n line)
against_agrees broken same n line e = subst (λ (b : Bool). Agrees (λ _. same ≡ false) (against b n line) (against same n line)) (sym e) (by same)
  where
    by : (b : Bool) → Agrees (λ _. b ≡ false) (against b n line) (against b n line)
    by true = stops (refusal n line)
    by false = fine tt refl

wanted_agrees : {X : Type 0} (found : Option X) (broken : Bool) (n line : ℕ) → broken ≡ is_none found → Agrees (λ x. found ≡ Some x) (wanted found n line) (against broken n line)
wanted_agrees None true n line e = stops (refusal n line)
wanted_agrees None false n line e = absurd (cc)
wanted_agrees (Some x) true n line e = absurd (cc)
wanted_agrees (Some x) false n line e = fine x refl

-- ---- denominators

module _ (c : Controller) where
  -- the least common multiple of the controller's denominators and these, within the limit
  pub record IsTotal (nums : List Num) (d : ℕ) : Type 0 where
    pub is : d ≡ fold common (unsigned_abs c.den) nums
    pub scale : IsScale d

  total-append : (before nums : List Num) → fold common (unsigned_abs c.den) (before ++ nums) ≡ fold common (fold common (unsigned_abs c.den) before) nums
  total-append before nums = by before (unsigned_abs c.den)
    where
      by : (xs : List Num) (d : ℕ) → fold common d (xs ++ nums) ≡ fold common (fold common d xs) nums
      by [] d = refl
      by (x ∷ xs) d = by xs (common d x)

  numbers_agree : (x : Statement) (den : ℕ) → IsTotal x.before den → All IsNum (numbers x.says)
      → Agrees (λ next. IsTotal (x.before ++ numbers x.says) next) (numbers_by (line_of x.says) (numbers x.says) den) (against (exceeds_limit c x) 14 (line_of x.says))
  unfolding numbers_by exceeds_limit
  numbers_agree x den is each =
      let all : fold common (unsigned_abs c.den) (x.before ++ numbers x.says) ≡ fold common den (numbers x.says) =
      total-append x.before (numbers x.says) ∙ ap (λ (d : ℕ). fold common d (numbers x.says)) (sym is.is) in
      by (with_numbers (Some den) (numbers x.says)) (fold common den (numbers x.says)) (limited (numbers x.says) den is.scale each) all
    where
      tested : (t : Bool) (l : ℕ) → nat_lt 1000000 (fold common (unsigned_abs c.den) (x.before ++ numbers x.says)) ≡ t → (found : Option ℕ) → t ≡ is_none found
          → ((next : ℕ) → found ≡ Some next → IsTotal (x.before ++ numbers x.says) next)
          → Agrees (λ next. IsTotal (x.before ++ numbers x.says) next) (wanted found 14 (line_of x.says)) (against (nat_lt 1000000 (fold common (unsigned_abs c.den) (x.before ++ numbers x.says))) 14 (line_of x.says))
      tested t l e found none gives = agrees_weaker (wanted_agrees found _ 14 (line_of x.says) (e ∙ none)) gives

      by : (found : Option ℕ) (l : ℕ) → IsLimited l found → fold common (unsigned_abs c.den) (x.before ++ numbers x.says) ≡ l
          → Agrees (λ next. IsTotal (x.before ++ numbers x.says) next) (wanted found 14 (line_of x.says)) (against (nat_lt 1000000 (fold common (unsigned_abs c.den) (x.before ++ numbers x.says))) 14 (line_of x.says))
      by _ l (past large) e = tested true l (rw e (grind (arith, common_steps))) None refl (λ next q. absurd (cc))
      by _ l (within scale) e =
          let small = scale.to in
          tested false l (rw e (grind (arith, common_steps))) (Some l) refl (λ next q. let same : next ≡ l = cc in record { is = same ∙ sym e; scale = subst IsScale (sym same) scale })

  coefs_are : (terms : List ETerm) → All IsPlacedTerm terms → All IsNum (coefs terms)
  coefs_are terms each = All-map IsNum (λ (t : ETerm). t.coef) terms (λ k d inside. (each k d inside).coef)

  pub condition_nums : (w : written.Condition) → EachExpr IsPlacedExpr w → All IsNum (condition_numbers w)
  condition_nums w each = numbers_are IsNum w (each_expr_gives IsPlacedExpr (λ expr. All IsNum (coefs expr.terms)) (λ expr is. coefs_are expr.terms is.each_term) w each)

  -- ---- the line of a condition

  module _ (s : Setting) where
    -- what a line gives, behind these numbers
    pub record IsLine (w : Wanted) (before : List Num) (x : Condition × ℕ) : Type 0 where
      pub means : meant c.states s w.cond ≡ Some x.0
      pub total : IsTotal (before ++ condition_numbers w.cond) x.1

    abbrev said : List Num → LineContent → Statement
    said before x = record { says = x; before = before }

    line_agrees : (w : Wanted) (before : List Num) (den : ℕ) → IsAsked w.cond → IsTotal before den
        → Agrees (IsLine w before) (wanted_by c.states s w den) (judged c s (said before (wanted_saying w)))
    unfolding wanted_by judged
    line_agrees w before den asked is =
        agrees_then (wanted_agrees (meant c.states s w.cond) (any_comparison (unknown_sides c.states s) w.cond) 12 w.line (unknown_is c.states s w.cond asked.1))
        (λ x found. agrees_then (against_agrees (mixes c.states x) (any_comparison (mixed_sides c.states s) w.cond) 13 w.line (kinds_mix c.states s (means_it c.states s w.cond x found)))
        (λ _ one_kind. agrees_map (numbers_agree (said before (wanted_saying w)) den is (condition_nums w.cond asked.0))
        (λ next total. fine (x, next) (record { means = found; total = total }))))

    path_agrees : (ns : List Num) (line : ℕ) (before : List Num) (den : ℕ) → All IsNum ns → IsTotal before den
        → Agrees (λ next. IsTotal (before ++ ns) next) (numbers_by line ns den) (judged c s (said before (path ns line)))
    unfolding judged
    path_agrees ns line before den each is = by (against (exceeds_limit c (said before (path ns line))) 14 line) (numbers_agree (said before (path ns line)) den is each)
      where
        by : (t : Result (Unit {0}) Refusal) → Agrees (λ next. IsTotal (before ++ ns) next) (numbers_by line ns den) t
            → Agrees (λ next. IsTotal (before ++ ns) next) (numbers_by line ns den) t
        by t agrees = agrees

    -- ---- the assumptions, and what is behind them

    abbrev pub EachAskedWanted : List Wanted → Type 0
    EachAskedWanted [] = Unit {0}
    EachAskedWanted (w ∷ ws) = IsAsked w.cond × EachAskedWanted ws

    abbrev pub all_numbers : List Wanted → List Num
    all_numbers [] = []
    all_numbers (w ∷ ws) = condition_numbers w.cond ++ all_numbers ws

    -- each condition is within the total that is reached behind it
    abbrev pub conds : List Wanted → List written.Condition
    conds ws = map (λ (w : Wanted). w.cond) ws

    bind_assoc : {A B D E : Type 0} (r : Result A E) (f : A → Result B E) (g : B → Result D E) → ((r >>= f) >>= g) ≡ (r >>= λ x. f x >>= g)
    bind_assoc (Ok x) f g = refl
    bind_assoc (Err e) f g = refl

    pub record AreLines (ws : List Wanted) (before : List Num) (x : List Condition × ℕ) : Type 0 where
      pub mean : each_found (meant c.states s) (conds ws) ≡ Some x.0
      pub total : IsTotal (before ++ all_numbers ws) x.1

    found_more : (w : Wanted) (ws : List Wanted) (x : Condition) (xs : List Condition) → meant c.states s w.cond ≡ Some x → each_found (meant c.states s) (conds ws) ≡ Some xs
        → each_found (meant c.states s) (conds (w ∷ ws)) ≡ Some (x ∷ xs)
    unfolding each_found
    found_more w ws x xs one others = ap (λ (o : Option Condition). in_front o (each_found (meant c.states s) (conds ws))) one ∙ ap (in_front (Some x)) others

    lines_agree : {Y : Type 0} (P : Y → Type 0) (ws : List Wanted) (rest : List LineContent) (k : List Condition × ℕ → Result Y Refusal) (before : List Num) (den : ℕ)
        → EachAskedWanted ws → IsTotal before den
        → ((x : List Condition × ℕ) → AreLines ws before x → Agrees P (k x) (first (judged c s) (placed (before ++ all_numbers ws) rest)))
        → Agrees P (wanteds_by c.states s ws den >>= k) (first (judged c s) (placed before (map wanted_saying ws ++ rest)))
    unfolding wanteds_by each_found
    lines_agree P [] rest k before den asked is next =
        let none : before ++ [] ≡ before = append-nil before in
        subst (λ (ns : List Num). Agrees P (k ([], den)) (first (judged c s) (placed ns rest))) none
        (next ([], den) (record { mean = refl; total = subst (λ (ns : List Num). IsTotal ns den) (sym none) is }))
    lines_agree {Y} P (w ∷ ws) rest k before den asked is next =
        subst (λ r. Agrees P r (first (judged c s) (placed before (map wanted_saying (w ∷ ws) ++ rest)))) (sym regrouped)
        (agrees_then (line_agrees w before den asked.0 is)
        (λ x one. lines_agree P ws rest (λ xs. k (x.0 ∷ xs.0, xs.1)) (before ++ condition_numbers w.cond) x.1 asked.1 one.total
        (λ xs others. subst (λ (ns : List Num). Agrees P (k (x.0 ∷ xs.0, xs.1)) (first (judged c s) (placed ns rest))) (sym (append_assoc before (condition_numbers w.cond) (all_numbers ws)))
        (next (x.0 ∷ xs.0, xs.1) (record {
          mean = found_more w ws x.0 xs.0 one.means others.mean;
          total = subst (λ (ns : List Num). IsTotal ns xs.1) (append_assoc before (condition_numbers w.cond) (all_numbers ws)) others.total;
        })))))
      where
        regrouped : (wanteds_by c.states s (w ∷ ws) den >>= k) ≡ (wanted_by c.states s w den >>= λ x. wanteds_by c.states s ws x.1 >>= λ xs. k (x.0 ∷ xs.0, xs.1))
        regrouped = bind_assoc (wanted_by c.states s w den) _ k ∙ by (wanted_by c.states s w den)
          where
            by : (r : Result (Condition × ℕ) Refusal)
                → (r >>= λ x. (wanteds_by c.states s ws x.1 >>= λ xs. Ok (x.0 ∷ xs.0, xs.1)) >>= k) ≡ (r >>= λ x. wanteds_by c.states s ws x.1 >>= λ xs. k (x.0 ∷ xs.0, xs.1))
            by (Ok x) = bind_assoc (wanteds_by c.states s ws x.1) _ k
            by (Err e) = refl

    -- ---- the whole text

    pub record IsAskedWanted (t : Sections) : Type 0 where
      pub assumes : EachAskedWanted t.assumes
      pub require : IsAsked t.require.cond

  fraction_num : (p : Pair) → IsNumber p → IsNum (number_of p)
  fraction_num p is =
      let from = is.num_from in
      let to = is.num_to in
      record { num_to = omega (arith, ints); den_from = is.den_from; den_to = is.den_to }

  buffer_nums : (p : Option Pair) → IsBuffer p → All IsNum (buffer_numbers p)
  buffer_nums None is = All-nil IsNum
  buffer_nums (Some p) is = All-cons IsNum (number_of p) [] (fraction_num p is) (All-nil IsNum)

  -- the numbers of the lines of the path
  abbrev pub path_numbers : Setting → List Num
  path_numbers s = number_of s.path.rate ∷ buffer_numbers s.path.buffer

  pub path_nums : (s : Setting) → IsSetting s → All IsNum (path_numbers s)
  path_nums s set = All-cons IsNum (number_of s.path.rate) (buffer_numbers s.path.buffer) (fraction_num s.path.rate set.path.rate) (buffer_nums s.path.buffer set.path.buffer)

  -- what the text gives, with the multiples that its lines reach
  pub record IsRead (t : Sections) (q : SeenQuestion) : Type 0 where
    pub setting : q.setting ≡ t.setting
    pub last : ℕ
    pub assumes : AreLines t.setting t.assumes (path_numbers t.setting) (q.assumes, last)
    pub den : ℕ
    pub require : IsLine t.setting t.require (path_numbers t.setting ++ all_numbers t.setting t.assumes) (q.require, den)

  pub text_agrees : (t : Sections) → IsScale (unsigned_abs c.den) → IsSetting t.setting → IsAskedWanted t.setting t
      → Agrees (IsRead t) (resolved_by c t) (first (judged c t.setting) (statements t))
  unfolding resolved_by statements sayings
  text_agrees t scale set asked =
      let s : Setting = t.setting in
      let rate : List Num = number_of s.path.rate ∷ [] in
      let start : IsTotal [] (unsigned_abs c.den) = record { is = refl; scale = scale } in
      agrees_then (path_agrees s rate t.rate_line [] (unsigned_abs c.den) (All-cons IsNum (number_of s.path.rate) [] (fraction_num s.path.rate set.path.rate) (All-nil IsNum)) start)
      (λ d one. agrees_then (path_agrees s (buffer_numbers s.path.buffer) t.buffer_line rate d (buffer_nums s.path.buffer set.path.buffer) one)
      (λ e two. lines_agree s (IsRead t) t.assumes (wanted_saying t.require ∷ []) _ (path_numbers s) e asked.assumes two
      (λ xs lines. last_agrees t s refl xs lines asked.require)))
    where
      last_agrees : (u : Sections) (s : Setting) → s ≡ u.setting → (xs : List Condition × ℕ) → AreLines s u.assumes (path_numbers s) xs → IsAsked u.require.cond
          → Agrees (IsRead u) (wanted_by c.states s u.require xs.1 >>= λ r. Ok (record { setting = s; assumes = xs.0; require = r.0 }))
          (and_then (judged c s (record { says = wanted_saying u.require; before = path_numbers s ++ all_numbers s u.assumes })) (Ok tt))
      last_agrees u s same xs lines asked =
          agrees_then (line_agrees s u.require (path_numbers s ++ all_numbers s u.assumes) xs.1 asked lines.total)
          (λ r line. fine (record { setting = s; assumes = xs.0; require = r.0 }) (record {
            setting = same;
            last = xs.1;
            assumes = subst (λ (v : Setting). AreLines v u.assumes (path_numbers v) xs) same lines;
            den = r.1;
            require = subst (λ (v : Setting). IsLine v u.require (path_numbers v ++ all_numbers v u.assumes) r) same line;
          }))
