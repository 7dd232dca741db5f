-- One line that is resolved, and what is asked of its statement.
use Rattle.std.proofs.Common.{◌≡◌, ℕ, Bool, true, false, ◌||◌, ◌&&◌, not, Option, Some, None, Result, Ok, List, [], ◌∷◌, ◌++◌, map, refl, sym, ap, subst, ◌∙◌}
use Rattle.std.specs.Prelude.{All, is_none, is_some, slice_get, slice_set}
use Rattle.std.specs.List.{list_any}
use Rattle.std.proofs.lemmas.List.Elements.{All-nil, All-cons}
use Rattle.weighing.specs.First.{and_then}
use Rattle.weighing.specs.Scaled.{IsNum}
use Rattle.weighing.specs.declared.scales.Num.{Num}
use Rattle.condition_syntax.specs.Trees.{Condition, EachExpr}
use Rattle.condition_syntax.specs.declared.expressions.Expr.{Expr}
use Rattle.ctrl_syntax.specs.Limits.{IsExpr, IsGuardWithin, IsSetLine, IsStateLine}
use Rattle.ctrl_syntax.specs.declared.syntax.StateLine.{StateLine}
use Rattle.ctrl_syntax.specs.declared.syntax.SetLine.{SetLine}
use Rattle.ctrl_syntax.specs.declared.syntax.RateLine.{RateLine}
use Rattle.ctrl_syntax.specs.Sections.{Rule}
use Rattle.ctrl_types.specs.declared.breaches.Breach.{Breach}
use Rattle.ctrl_types.specs.declared.breaches.Breach.TheVariants.{Reserved, Unknown, Kinds, Bounds, Twice, Otherwise, Delay, Denominators, Count}
use Rattle.ctrl_types.specs.declared.controllers.State.{State}
use Rattle.ctrl_types.specs.declared.controllers.Kind.TheVariants as kinds
use Rattle.ctrl_types.specs.declared.expressions.Lin.{Lin}
use Rattle.ctrl_types.specs.declared.surveys.Totals.{Totals}
use Rattle.ctrl_types.specs.Tests as tests
use Rattle.ctrl_types.specs.Tests.{Test}
use Rattle.ctrl_types.specs.Names.{has_name, is_reserved, state_named, has_unknown, lin_of, mixes_set, mixes_bound, names_kind}
use Rattle.ctrl_types.specs.Denominators.{with_numbers}
use Rattle.ctrl_types.specs.Resolved.{GuardMeans, guard_delay, greatest_delay, place_of}
use Rattle.ctrl_types.specs.Resolving.{Places, bound_by, condition_by, demand, guard_by, is_filled, lin_has, lin_numbers, set_by, set_mixes, state_by, state_of, surveyed, survey_from, wanted, with_lin}
use Rattle.ctrl_types.specs.Statements.{LineContent, Statement, state, rule, assignment, window, rate, any_comparison, any_delay, coefs, condition_numbers, ends_otherwise, guard_numbers, in_guard, is_above, is_unfit, mixed_sides, numbers, exceeds_limit, sets_name}
use Rattle.ctrl_types.proofs.EndAlike.{Agrees, fine, agrees_then, agrees_map, agrees_wanted, agrees_weaker, agrees_demand, agrees_same, agrees_or, verdict}
use Rattle.ctrl_types.proofs.DenominatorLaws.{IsDen, is_joined, each_expr_gives, numbers_are}
use Rattle.ctrl_types.proofs.NameLaws.{unknown_is, lin_is_found, found_numbers, kinds_are, sets_mix, bounds_mix, coefs_are}
use Rattle.ctrl_types.proofs.GuardLaws.{gate_agrees}
use Rattle.ctrl_types.proofs.StateLaws.{AreDistinct, AreResolved, filled_is, filled_with, resolved_push}

abbrev pub said : LineContent → List Num → Statement
said says before = record { says = says; before = before }

-- the denominators of a line
limit_agrees : (x : Statement) (den : ℕ) → IsDen x.before den → All IsNum (numbers x.says)
    → Agrees (λ next. IsDen (x.before ++ numbers x.says) next) (wanted (with_numbers (Some den) (numbers x.says)) Denominators) (demand (exceeds_limit x) Denominators)
unfolding exceeds_limit
limit_agrees x den is each =
    let joined = is_joined x.before (numbers x.says) den is each in
    agrees_weaker (agrees_wanted (with_numbers (Some den) (numbers x.says)) _ Denominators joined.exceeds) (λ next found. joined.gives next found.0)

-- the same of an expression that is found
lin_limit_agrees : (x : Statement) (den : ℕ) (lin : Lin) → lin_numbers lin ≡ numbers x.says → IsDen x.before den → All IsNum (numbers x.says)
    → Agrees (λ next. IsDen (x.before ++ numbers x.says) next) (wanted (with_lin (Some den) lin) Denominators) (demand (exceeds_limit x) Denominators)
unfolding with_lin
lin_limit_agrees x den lin same is each =
    subst (λ (nums : List Num). Agrees (λ next. IsDen (x.before ++ numbers x.says) next) (wanted (with_numbers (Some den) nums) Denominators) (demand (exceeds_limit x) Denominators)) (sym same)
    (limit_agrees x den is each)

two_nums : (a b : Num) → IsNum a → IsNum b → All IsNum (a ∷ b ∷ [])
two_nums a b one two = All-cons IsNum a (b ∷ []) one (All-cons IsNum b [] two (All-nil IsNum))

-- ---- a state

pub record IsState (earlier : List StateLine) (s : StateLine) (before : List Num) (x : State × ℕ) : Type 0 where
  pub made : x.0 ≡ state_of s
  pub free : (is_reserved s.name || list_any (has_name s.name) earlier) ≡ false
  pub den : IsDen (before ++ (s.lo ∷ s.hi ∷ [])) x.1

pub state_agrees : (states earlier : List StateLine) (s : StateLine) (before : List Num) (den : ℕ) → IsStateLine s → IsDen before den
    → Agrees (IsState earlier s before) (state_by (list_any (has_name s.name) earlier) s den) (verdict states (said (state earlier s) before))
unfolding state_by
state_agrees states earlier s before den line is =
    agrees_then (agrees_demand (is_reserved s.name || list_any (has_name s.name) earlier) Reserved)
    (λ _ free. agrees_then (agrees_demand (is_above s.lo s.hi) Bounds)
    (λ _ ordered. agrees_then (limit_agrees (said (state earlier s) before) den is (two_nums s.lo s.hi line.lo line.hi))
    (λ next joined. fine (state_of s, next) (record { made = refl; free = free; den = joined }))))

-- ---- an assignment

pub record IsSet (states : List StateLine) (earlier : List SetLine) (s : SetLine) (before : List Num) (x : Places × ℕ) : Type 0 where
  pub places : x.0 ≡ map (place_of states (earlier ++ s ∷ [])) states
  pub resolved : AreResolved states (earlier ++ s ∷ [])
  pub known : is_none (state_named states s.name) ≡ false
  pub once : list_any (sets_name s.name) earlier ≡ false
  pub den : IsDen (before ++ coefs s.expr.terms) x.1

pub set_agrees : (states : List StateLine) (earlier : List SetLine) (s : SetLine) (places : Places) (before : List Num) (den : ℕ)
    → AreDistinct states → AreResolved states earlier → places ≡ map (place_of states earlier) states → IsSetLine s → IsDen before den
    → Agrees (IsSet states earlier s before) (set_by states s places den) (verdict states (said (assignment earlier s) before))
unfolding set_by
set_agrees states earlier s places before den apart are filled line is =
    agrees_or (is_none (state_named states s.name)) (has_unknown states true s.expr.terms) Unknown _
    (agrees_wanted (state_named states s.name) (is_none (state_named states s.name)) Unknown refl)
    (λ j named. agrees_then (agrees_wanted (lin_of states true s.expr) (has_unknown states true s.expr.terms) Unknown (unknown_is states true s.expr))
    (λ lin found. let terms = lin_is_found states true s.expr lin found.0 in
    agrees_then (agrees_same (set_mixes states j lin) (mixes_set states s.name s.expr.terms) Kinds (sym (sets_mix states s.name j s.expr lin named.0 terms)))
    (λ _ one_kind. agrees_then (agrees_same (is_filled (slice_get places j)) (list_any (sets_name s.name) earlier) Twice
    (ap (λ (ps : Places). is_filled (slice_get ps j)) filled ∙ filled_is states earlier s.name j are named.0))
    (λ _ once. agrees_then (lin_limit_agrees (said (assignment earlier s) before) den lin (found_numbers terms) is (coefs_are s.expr.terms line.expr.each_term))
    (λ next joined. fine (slice_set places j (Some lin), next) (record {
      places = ap (λ (ps : Places). slice_set ps j (Some lin)) filled ∙ filled_with states earlier s j lin apart named.0 once found.0;
      resolved = resolved_push states earlier s are (ap is_some found.0);
      known = named.1;
      once = once;
      den = joined;
    }))))))

-- ---- a guard

pub record IsGuarded (states : List StateLine) (g : Option Condition) (totals : Totals) (before : List Num) (x : Test × Totals) : Type 0 where
  pub means : GuardMeans states g x.0
  pub fits : in_guard (any_delay is_unfit) g ≡ false
  pub delay_max : x.1.delay_max ≡ guard_delay totals.delay_max g
  pub den : IsDen (before ++ guard_numbers g) x.1.den

cond_numbers : (c : Condition) → EachExpr IsExpr c → All IsNum (condition_numbers c)
cond_numbers c each = numbers_are IsNum c (each_expr_gives IsExpr (λ expr. All IsNum (coefs expr.terms)) (λ expr is. coefs_are expr.terms is.each_term) c each)

-- what a survey in which nothing is wrong leaves
record IsLeft (tree : Condition) (totals : Totals) (before : List Num) (x : Totals) : Type 0 where
  fits : any_delay is_unfit tree ≡ false
  delay_max : x.delay_max ≡ greatest_delay totals.delay_max tree
  den : IsDen (before ++ condition_numbers tree) x.den

-- a line without numbers exceeds no limit
no_limit : (x : Statement) (den : ℕ) → numbers x.says ≡ [] → IsDen x.before den → Agrees {X = ℕ} (λ next. IsDen (x.before ++ numbers x.says) next) (Ok den) (demand (exceeds_limit x) Denominators)
unfolding with_numbers
no_limit x den none is =
    subst (λ (nums : List Num). Agrees (λ next. IsDen (x.before ++ numbers x.says) next) (wanted (with_numbers (Some den) nums) Denominators) (demand (exceeds_limit x) Denominators)) none
    (limit_agrees x den is (subst (All IsNum) (sym none) (All-nil IsNum)))

pub guard_agrees : (states : List StateLine) (is_last : Bool) (g : Option Condition) (sets : List SetLine) (line : ℕ) (before : List Num) (totals : Totals) → IsGuardWithin g → IsDen before totals.den
    → Agrees (IsGuarded states g totals before) (guard_by states is_last g totals) (verdict states (said (rule is_last (record { guard = g; sets = sets; line = line })) before))
unfolding guard_by condition_by surveyed
guard_agrees states is_last None sets line before totals within is =
    agrees_then (agrees_demand (not is_last) Otherwise)
    (λ _ last. kept totals.den _ refl (no_limit (said (rule is_last (record { guard = None; sets = sets; line = line })) before) totals.den refl is))
  where
    kept : (d : ℕ) (t : Result (Unit {0}) Breach) → d ≡ totals.den → Agrees {X = ℕ} (λ next. IsDen (before ++ []) next) (Ok d) t
        → Agrees (IsGuarded states None totals before) (Ok (tests.always, totals)) (and_then t (Ok tt))
    kept d _ same (fine _ den) = fine (tests.always, totals) (record { means = refl; fits = refl; delay_max = refl; den = subst (IsDen (before ++ [])) same den })
guard_agrees states is_last (Some c) sets line before totals within is =
    let x : Statement = said (rule is_last (record { guard = Some c; sets = sets; line = line })) before in
    agrees_then (gate_agrees states c (survey_from totals))
    (λ t seen. agrees_map {P = IsLeft c totals before}
    (agrees_then (agrees_same t.1.mixed (any_comparison (mixed_sides states) c) Kinds seen.mixed)
    (λ _ one_kind. agrees_then (agrees_same t.1.unfit (any_delay is_unfit c) Delay seen.unfit)
    (λ _ fits. agrees_then (subst (λ d. Agrees (λ next. IsDen (before ++ condition_numbers c) next) (wanted d Denominators) (demand (exceeds_limit x) Denominators)) (sym seen.den)
    (limit_agrees x totals.den is (cond_numbers c within.each_expr)))
    (λ next den. fine (record { delay_max = t.1.delay_max; den = next }) (record { fits = fits; delay_max = seen.delay_max; den = den })))))
    (λ left come. fine (t.0, left) (record { means = seen.means; fits = come.fits; delay_max = come.delay_max; den = come.den })))

-- ---- the window and the rate

pub record IsBound (states : List StateLine) (expr : Expr) (before : List Num) (x : Lin × ℕ) : Type 0 where
  pub found : lin_of states false expr ≡ Some x.0
  pub den : IsDen (before ++ coefs expr.terms) x.1

pub record IsWindow (states : List StateLine) (rules : List Rule) (expr : Expr) (before : List Num) (x : Lin × ℕ) : Type 0 where
  pub found : lin_of states false expr ≡ Some x.0
  pub ended : not (ends_otherwise rules) ≡ false
  pub den : IsDen (before ++ coefs expr.terms) x.1

pub window_agrees : (states : List StateLine) (rules : List Rule) (expr : Expr) (line : ℕ) (before : List Num) (den : ℕ) → IsExpr expr → IsDen before den
    → Agrees (IsWindow states rules expr before) (bound_by states (not (ends_otherwise rules)) expr den) (verdict states (said (window rules expr line) before))
unfolding bound_by
window_agrees states rules expr line before den within is =
    agrees_then (agrees_wanted (lin_of states false expr) (has_unknown states false expr.terms) Unknown (unknown_is states false expr))
    (λ lin found. let terms = lin_is_found states false expr lin found.0 in
    agrees_then (agrees_same (lin_has states kinds.Count lin && lin_has states kinds.Amount lin) (mixes_bound states expr.terms) Kinds (sym (bounds_mix states expr lin terms)))
    (λ _ one_kind. agrees_then (agrees_demand (not (ends_otherwise rules)) Otherwise)
    (λ _ ended. agrees_then (lin_limit_agrees (said (window rules expr line) before) den lin (found_numbers terms) is (coefs_are expr.terms within.each_term))
    (λ next joined. agrees_then (agrees_same (lin_has states kinds.Count lin) (names_kind states false kinds.Count expr.terms) Count (kinds_are states false kinds.Count expr lin terms))
    (λ _ amount. fine (lin, next) (record { found = found.0; ended = ended; den = joined }))))))

pub rate_agrees : (states : List StateLine) (r : RateLine) (before : List Num) (den : ℕ) → IsExpr r.expr → IsDen before den
    → Agrees (IsBound states r.expr before) (bound_by states false r.expr den) (verdict states (said (rate r) before))
unfolding bound_by
rate_agrees states r before den within is =
    agrees_then (agrees_wanted (lin_of states false r.expr) (has_unknown states false r.expr.terms) Unknown (unknown_is states false r.expr))
    (λ lin found. let terms = lin_is_found states false r.expr lin found.0 in
    agrees_then (agrees_same (lin_has states kinds.Count lin && lin_has states kinds.Amount lin) (mixes_bound states r.expr.terms) Kinds (sym (bounds_mix states r.expr lin terms)))
    (λ _ one_kind. agrees_then (lin_limit_agrees (said (rate r) before) den lin (found_numbers terms) is (coefs_are r.expr.terms within.each_term))
    (λ next joined. agrees_then (agrees_same (lin_has states kinds.Count lin) (names_kind states false kinds.Count r.expr.terms) Count (kinds_are states false kinds.Count r.expr lin terms))
    (λ _ amount. fine (lin, next) (record { found = found.0; den = joined })))))
