-- A drawn question breaks no rule, whatever controller it is about.
use Rattle.std.proofs.Common.{◌≡◌, ℕ, ◌≤◌, pos, negsuc, true, false, List, [], ◌∷◌, ◌++◌, map, Option, Some, Ok, refl, sym, ap, subst, ◌∙◌, arith, unsigned_abs}
use Rattle.std.specs.Prelude.{All, nat_lt, nat_le}
use Rattle.std.specs.Int.{◌∣◌}
use Rattle.std.specs.List.{fold}
use Rattle.std.proofs.lemmas.Grind.{common_steps}
use Rattle.std.proofs.lemmas.Int.{ints}
use Rattle.std.proofs.lemmas.List.Elements.{All-append, All-nil, All-cons, All-weaker}
use Rattle.std.proofs.lemmas.Nat.Gcd.{dvd_refl, le_of_dvd}
use Rattle.std.proofs.Math.Nat.{one-dvd}
use Rattle.weighing.specs.Scaled.{IsNum, common, den_of}
use Rattle.weighing.specs.declared.scales.Num.{Num}
use Rattle.weighing.specs.declared.weighings.Rel5.TheVariants.{AtLeast}
use Rattle.condition_syntax.specs.Trees as written
use Rattle.path_server.specs.declared.settings.Setting.{Setting}
use Rattle.ctrl_types.specs.Denominators.{IsScale}
use Rattle.ctrl_types.specs.Statements.{any_comparison, condition_numbers}
use Rattle.ctrl_types.specs.declared.controllers.Controller.{Controller}
use Rattle.ctrl_types.specs.declared.controllers.State.{State}
use Rattle.ctrl_types.proofs.DenominatorLaws.{least_over}
use Rattle.question_syntax.specs.Sections.{Sections, Wanted, SameButLines, wanted_at}
use Rattle.question_text.specs.Conditions.{comparison}
use Rattle.question_text.specs.NamedValues.{count_named, step_in, flow_or_all, count_of, of_named, of_written, each_found, lin_meant}
use Rattle.question_text.specs.StatementRules.{path, wanted, sayings, buffer_numbers, Statement, statements, kind_of, names_kind, unknown_sides, mixed_sides, exceeds_limit, judged, IsUnbroken, SeenQuestion, meant, Resolves}
use Rattle.question_text.specs.declared.conditions.Of.TheVariants.{One, S}
use Rattle.question_text.specs.declared.conditions.QLin.{QLin}
use Rattle.ctrl_gen.specs.Problems.{Problem, over, pair_if, serves_at_least, setting_of, question_of}
use Rattle.made_problems.proofs.Bounds.{IsBuffer, unlimited, limited, IsBounded}

-- ---- denominators of 1 leave the scale

record IsEntire (q : Num) : Type 0 where
  size : IsNum q
  one : den_of q ≡ 1

entire : (n : ℕ) → n ≤ 1000 → IsEntire (over n 1)
entire n to = record { size = record { num_to = omega (arith, ints); den_from = omega (arith, ints); den_to = omega (arith, ints) }; one = refl }

within : (l d : ℕ) → l ≤ d → d ≤ 1000000 → nat_lt 1000000 l ≡ false
within l d le to = grind (arith, common_steps)

scale_within : (d : ℕ) (nums : List Num) → IsScale d → All IsEntire nums → nat_lt 1000000 (fold common d nums) ≡ false
scale_within d nums scale each =
    let from = scale.from in
    let least = least_over nums d from (All-weaker IsEntire IsNum (λ q is. is.size) nums each) in
    let divides : fold common d nums ∣ d =
    least.least d (dvd_refl d) (All-weaker IsEntire (λ (q : Num). den_of q ∣ d) (λ q is. subst (λ n. n ∣ d) (sym is.one) (one-dvd d)) nums each) in
    within (fold common d nums) d (le_of_dvd (omega arith) divides) scale.to

-- ---- the requirement

step_known : (s : Setting) (t : ℕ) → t ≤ s.steps → step_in s (Some t) ≡ Some t
unfolding step_in
step_known s t to = let e : nat_le t s.steps ≡ true = grind (arith, common_steps) in rw e refl

abbrev pub minus_one : Num
minus_one = record { num = negsuc 0; den = pos 1 }

abbrev left_meant : ℕ → QLin
left_meant steps = record { terms = record { coef = over 1 1; of = S 0 steps } ∷ record { coef = minus_one; of = S 0 0 } ∷ [] }

abbrev right_meant : ℕ → QLin
right_meant least = record { terms = record { coef = over least 1; of = One } ∷ [] }

module _ (states : List State) (s : Setting) (steps least : ℕ) (last_is : step_in s (Some steps) ≡ Some steps) (first_is : step_in s (Some 0) ≡ Some 0) where
  require_known : any_comparison (unknown_sides states s) (serves_at_least steps least) ≡ false
  unfolding unknown_sides of_written of_named count_named count_of flow_or_all
  require_known = rw (last_is, first_is) refl

  require_kinds : any_comparison (mixed_sides states s) (serves_at_least steps least) ≡ false
  unfolding mixed_sides names_kind kind_of of_written of_named count_named count_of flow_or_all
  require_kinds = rw (last_is, first_is) refl

  require_meant : meant states s (serves_at_least steps least) ≡ Some (comparison (left_meant steps) AtLeast (right_meant least))
  unfolding meant lin_meant each_found of_written of_named count_named count_of flow_or_all
  require_meant = rw (last_is, first_is) refl

-- ---- all lines

one_entire : (n : ℕ) → n ≤ 1000 → All IsEntire (over n 1 ∷ [])
one_entire n to = All-cons IsEntire (over n 1) [] (entire n to) (All-nil IsEntire)

buffer_entire : {b : Option ℕ} → IsBuffer b → All IsEntire (buffer_numbers (pair_if b))
buffer_entire unlimited = All-nil IsEntire
buffer_entire (limited n to) = one_entire n (omega arith)

require_entire : (steps least : ℕ) → least ≤ 1000 → All IsEntire (condition_numbers (serves_at_least steps least))
require_entire steps least to =
    All-cons IsEntire (over 1 1) (minus_one ∷ over least 1 ∷ []) (entire 1 (omega arith))
    (All-cons IsEntire minus_one (over least 1 ∷ [])
    (record { size = record { num_to = omega (arith, ints); den_from = omega (arith, ints); den_to = omega (arith, ints) }; one = refl }) (one_entire least to))

module _ (c : Controller) (scale : IsScale (unsigned_abs c.den)) (p : Problem) (steps : ℕ) (is : IsBounded p) where
  -- the question on whatever lines
  abbrev on_lines : ℕ → ℕ → ℕ → Sections
  on_lines rate_line buffer_line line = record {
    setting = setting_of p steps;
    rate_line = rate_line;
    buffer_line = buffer_line;
    assumes = [];
    require = record { cond = serves_at_least steps p.least; line = line };
  }

  path_judged : (line : ℕ) (ns before : List Num) → All IsEntire ns → All IsEntire before → judged c (setting_of p steps) (record { says = path ns line; before = before }) ≡ Ok tt
  unfolding judged exceeds_limit
  path_judged line ns before here earlier = let e = scale_within (unsigned_abs c.den) (before ++ ns) scale (All-append IsEntire before ns earlier here) in rw e refl

  require_judged : (line : ℕ) (before : List Num) → All IsEntire before
      → judged c (setting_of p steps) (record { says = wanted (record { cond = serves_at_least steps p.least; line = line }); before = before }) ≡ Ok tt
  unfolding judged exceeds_limit
  require_judged line before earlier =
      let least_to = is.least_to in
      let last_is = step_known (setting_of p steps) steps (omega arith) in
      let first_is = step_known (setting_of p steps) 0 (omega arith) in
      let ns : List Num = condition_numbers (serves_at_least steps p.least) in
      let e = scale_within (unsigned_abs c.den) (before ++ ns) scale (All-append IsEntire before ns earlier (require_entire steps p.least (omega arith))) in
      let known = require_known c.states (setting_of p steps) steps p.least last_is first_is in
      let kinds = require_kinds c.states (setting_of p steps) steps p.least last_is first_is in
      rw (known, kinds, e) refl

  lines_unbroken : (rate_line buffer_line line : ℕ) → IsUnbroken c (on_lines rate_line buffer_line line)
  unfolding statements sayings
  lines_unbroken rate_line buffer_line line =
      let Passed : Statement → Type 0 = λ (x : Statement). judged c (setting_of p steps) x ≡ Ok tt in
      let rates : List Num = over 1 1 ∷ [] in
      let buffers : List Num = buffer_numbers (pair_if p.buffer) in
      let first : Statement = record { says = path rates rate_line; before = [] } in
      let second : Statement = record { says = path buffers buffer_line; before = rates } in
      let third : Statement = record { says = wanted (record { cond = serves_at_least steps p.least; line = line }); before = rates ++ buffers } in
      let rates_entire = one_entire 1 (omega arith) in
      let buffers_entire = buffer_entire is.buffer_is in
      All-cons Passed first (second ∷ third ∷ []) (path_judged rate_line rates [] rates_entire (All-nil IsEntire))
      (All-cons Passed second (third ∷ []) (path_judged buffer_line buffers rates buffers_entire rates_entire)
      (All-cons Passed third [] (require_judged line (rates ++ buffers) (All-append IsEntire rates buffers rates_entire buffers_entire)) (All-nil Passed)))

  abbrev meant_question : SeenQuestion
  meant_question = record { setting = setting_of p steps; assumes = []; require = comparison (left_meant steps) AtLeast (right_meant p.least) }

  lines_resolved : (rate_line buffer_line line : ℕ) → Resolves c (on_lines rate_line buffer_line line) meant_question
  unfolding each_found
  lines_resolved rate_line buffer_line line = record {
    setting = refl;
    assumes = refl;
    require = require_meant c.states (setting_of p steps) steps p.least (step_known (setting_of p steps) steps (omega arith)) (step_known (setting_of p steps) 0 (omega arith));
  }

  none_left : (ws : List Wanted) → [] ≡ map (wanted_at 0) ws → ws ≡ []
  none_left [] e = refl
  none_left (w ∷ ws) e = absurd (cc)

  -- what is read again stands on some lines
  same_lines : (t : Sections) → SameButLines (question_of p steps) t → t ≡ on_lines t.rate_line t.buffer_line t.require.line
  same_lines t same =
      let setting : t.setting ≡ setting_of p steps = ap (λ (s : Sections). s.setting) (sym same) in
      let assumes : t.assumes ≡ [] = none_left t.assumes (ap (λ (s : Sections). s.assumes) same) in
      let require : t.require.cond ≡ serves_at_least steps p.least = ap (λ (s : Sections). s.require.cond) (sym same) in
      let made : Setting → List Wanted → written.Condition → Sections = λ s ws d. record { setting = s; rate_line = t.rate_line; buffer_line = t.buffer_line; assumes = ws; require = record { cond = d; line = t.require.line } } in
      ap (λ (s : Setting). made s t.assumes t.require.cond) setting ∙ ap (λ (ws : List Wanted). made (setting_of p steps) ws t.require.cond) assumes
      ∙ ap (λ (d : written.Condition). made (setting_of p steps) [] d) require

  pub same_unbroken : (t : Sections) → SameButLines (question_of p steps) t → IsUnbroken c t
  same_unbroken t same = subst (λ (s : Sections). IsUnbroken c s) (sym (same_lines t same)) (lines_unbroken t.rate_line t.buffer_line t.require.line)

  pub same_resolved : (t : Sections) → SameButLines (question_of p steps) t → (q : SeenQuestion) × Resolves c t q
  same_resolved t same = (meant_question, subst (λ (s : Sections). Resolves c s meant_question) (sym (same_lines t same)) (lines_resolved t.rate_line t.buffer_line t.require.line))
