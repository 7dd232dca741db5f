-- A controller within its limits can be weighed on every row of a run that fits it.
use Rattle.std.proofs.Common.{◌≡◌, ℕ, ◌-◌, ◌<◌, ◌≤◌, unsigned_abs, false, Option, Some, None, List, [], ◌∷◌, get_or, length, if◌then◌else◌, sym, ◌∙◌, ap, subst, arith}
use Rattle.std.specs.Prelude.{All, nat_lt}
use Rattle.std.specs.Int.{◌∣◌}
use Rattle.std.proofs.lemmas.Int.{ints}
use Rattle.std.proofs.lemmas.Bool.Decides.{nat_tests}
use Rattle.std.proofs.lemmas.Nat.Gcd.{le_of_dvd}
use Rattle.std.proofs.lemmas.List.Elements.{All-head, All-tail}
use Rattle.std.proofs.Math.Nat.{one-dvd}
use Rattle.weighing.specs.Scaled.{IsNum, den_of}
use Rattle.run_rows.specs.Runs.{IsRun, flow_of, no_flow}
use Rattle.run_rows.specs.declared.rows.Run.{Run}
use Rattle.path_server.specs.Limits.{IsSetting}
use Rattle.path_server.specs.Shapes.{shape_of}
use Rattle.path_server.specs.declared.settings.Setting.{Setting}
use Rattle.ctrl_types.specs.Limits.{IsController, IsLin, IsSource, OptionalLin, no_rule, rule_of}
use Rattle.ctrl_types.specs.Tests.{EachExpr, EachDelay, Test, end_of_all, all_of, test_of, always, leaf, compares, never, end_of_any, any_of, opposite, delayed}
use Rattle.ctrl_types.specs.declared.controllers.Controller.{Controller}
use Rattle.ctrl_types.specs.declared.expressions.Lin.{Lin}
use Rattle.ctrl_types.specs.declared.expressions.LinTerm.{LinTerm}
use Rattle.ctrl_meaning.specs.Expressions.{AreTerms, scale_of_two, scale_with}
use Rattle.ctrl_meaning.specs.Guards.{CanWeigh}
use Rattle.ctrl_meaning.specs.Limits.{CanSend, CanStep, CanSum, FitsBoth, HasShape, IsControlled}
use Rattle.ctrl_meaning.specs.Readings.{IsReading, reading, states_at}
use Rattle.ctrl_meaning.specs.Steps.{sending, set_of, stepping}
use Rattle.ctrl_meaning.specs.declared.readings.ReadPoint.{ReadPoint}
use Rattle.claim_values.proofs.Scales.{some_den}
use Rattle.ctrl_meaning.proofs.Values.{AreScaled, is_scale, scale_divides}

-- an expression's terms can be read, and their denominators divide d
pub record IsReady (r : Run) (at : ReadPoint) (d : ℕ) (lin : Lin) : Type 0 where
  pub terms_in : AreTerms r at lin.terms
  pub scaled : AreScaled d lin.terms

abbrev pub HasNums : Lin → Type 0
HasNums lin = All (λ t. IsNum t.coef) lin.terms

abbrev pub HasDens : ℕ → Lin → Type 0
HasDens d lin = All (λ t. den_of t.coef ∣ d) lin.terms

pub are_scaled : (d : ℕ) (ts : List LinTerm) → All (λ t. IsNum t.coef) ts → All (λ t. den_of t.coef ∣ d) ts → AreScaled d ts
are_scaled d [] nums dens = tt
are_scaled d (t ∷ ts) nums dens =
    let N : LinTerm → Type 0 = λ u. IsNum u.coef in
    let D : LinTerm → Type 0 = λ u. den_of u.coef ∣ d in
    (some_den t.coef (All-head N t ts nums), All-head D t ts dens, are_scaled d ts (All-tail N t ts nums) (All-tail D t ts dens))

lin_ready : (r : Run) (at : ReadPoint) (n d : ℕ) (lin : Lin) → states_at r at ≡ n → IsLin n lin → HasNums lin → HasDens d lin → IsReady r at d lin
lin_ready r at n d lin same is nums dens = record {
  terms_in = λ k e inside. record {
    coef_in = nums k e inside;
    source_in = subst (λ m. IsSource m (get_or lin.terms k e).of) (sym same) (is.sources k e inside);
  };
  scaled = are_scaled d lin.terms nums dens;
}

pub test_ready : (r : Run) (at : ReadPoint) (n d : ℕ) (t : Test) → states_at r at ≡ n → EachExpr (IsLin n) t → EachExpr HasNums t → EachExpr (HasDens d) t
    → EachExpr (IsReady r at d) t
test_ready r at n d always same is nums dens = tt
test_ready r at n d never same is nums dens = tt
test_ready r at n d (leaf (compares left rel right)) same is nums dens =
    (lin_ready r at n d left same is.0 nums.0 dens.0, lin_ready r at n d right same is.1 nums.1 dens.1)
test_ready r at n d (leaf (delayed k)) same is nums dens = tt
test_ready r at n d (opposite t) same is nums dens = test_ready r at n d t same is nums dens
test_ready r at n d end_of_all same is nums dens = tt
test_ready r at n d (all_of t rest) same is nums dens =
    (test_ready r at n d t same is.0 nums.0 dens.0, test_ready r at n d rest same is.1 nums.1 dens.1)
test_ready r at n d end_of_any same is nums dens = tt
test_ready r at n d (any_of t rest) same is nums dens =
    (test_ready r at n d t same is.0 nums.0 dens.0, test_ready r at n d rest same is.1 nums.1 dens.1)

pub option_ready : (r : Run) (at : ReadPoint) (n d : ℕ) (o : Option Lin) → states_at r at ≡ n
    → OptionalLin (IsLin n) o → OptionalLin HasNums o → OptionalLin (HasDens d) o → OptionalLin (IsReady r at d) o
option_ready r at n d None same is nums dens = tt
option_ready r at n d (Some lin) same is nums dens = lin_ready r at n d lin same is nums dens

pub one_divides : (r : Run) (at : ReadPoint) (d : ℕ) (lin : Lin) → IsReady r at d lin → scale_with 1 lin.terms ∣ d
one_divides r at d lin ready =
    scale_divides (states_at r at) 1 d lin.terms (omega arith) ready.terms_in (one-dvd d) ready.scaled

pub two_divide : (r : Run) (at : ReadPoint) (d : ℕ) (left right : Lin) → IsReady r at d left → IsReady r at d right
    → scale_of_two left right ∣ d
two_divide r at d left right one two =
    let n : ℕ = states_at r at in
    scale_divides n (scale_with 1 left.terms) d right.terms (is_scale n 1 left.terms (omega arith) one.terms_in).some two.terms_in
    (one_divides r at d left one) two.scaled

pub at_most : (m d : ℕ) → 0 < d → d ≤ 1000000 → m ∣ d → m ≤ 1000000
at_most m d some small divides = omega (arith, le_of_dvd some divides)

can_weigh : (r : Run) (at : ReadPoint) (d most : ℕ) (t : Test) → 0 < d → d ≤ 1000000 → most ≤ at.heard
    → EachExpr (IsReady r at d) t → EachDelay (λ k. k ≤ most) t → CanWeigh r at t
can_weigh r at d most always some small back ready delays = tt
can_weigh r at d most never some small back ready delays = tt
can_weigh r at d most (leaf (compares left rel right)) some small back ready delays =
    (ready.0.terms_in, ready.1.terms_in, at_most (scale_of_two left right) d some small (two_divide r at d left right ready.0 ready.1))
can_weigh r at d most (leaf (delayed k)) some small back ready delays = omega (arith, delays)
can_weigh r at d most (opposite t) some small back ready delays = can_weigh r at d most t some small back ready delays
can_weigh r at d most end_of_all some small back ready delays = tt
can_weigh r at d most (all_of t rest) some small back ready delays =
    (can_weigh r at d most t some small back ready.0 delays.0, can_weigh r at d most rest some small back ready.1 delays.1)
can_weigh r at d most end_of_any some small back ready delays = tt
can_weigh r at d most (any_of t rest) some small back ready delays =
    (can_weigh r at d most t some small back ready.0 delays.0, can_weigh r at d most rest some small back ready.1 delays.1)

can_sum : (r : Run) (at : ReadPoint) (d : ℕ) (o : Option Lin) → 0 < d → d ≤ 1000000 → OptionalLin (IsReady r at d) o → CanSum r at o
can_sum r at d None some small ready = tt
can_sum r at d (Some lin) some small ready = (ready.terms_in, at_most (scale_with 1 lin.terms) d some small (one_divides r at d lin ready))

-- the common denominator is above 0 and within its limit
pub record HasDen (c : Controller) : Type 0 where
  pub some : 0 < unsigned_abs c.den
  pub small : unsigned_abs c.den ≤ 1000000

pub has_den : (c : Controller) → IsController c → HasDen c
has_den c is =
    let from = is.den_from in
    let to = is.den_to in
    record { some = omega (arith, ints); small = omega (arith, ints) }

pub is_run : (c : Controller) (s : Setting) (r : Run) → IsController c → IsSetting s → FitsBoth c s r → IsRun r
is_run c s r is set fits = record {
  shape = shape_of s (length c.states) c.delay_max;
  within = record {
    flows_from = set.flows_from;
    flows_to = set.flows_to;
    states_to = is.states_to;
    h_from = let a = set.rtt_from in omega arith;
    h_to = let a = set.rtt_to in let b = is.delay_to in omega arith;
    t_from = set.steps_from;
    t_to = set.steps_to;
  };
  fits = fits;
}

not_less : (a b : ℕ) → b ≤ a → nat_lt a b ≡ false
not_less a b most = grind (arith, nat_tests, most)

-- on the opening row and later each flow has the controller's states
pub states_stand : (c : Controller) (s : Setting) (r : Run) (i flow : ℕ) → HasShape c s r → 1 ≤ flow → flow ≤ s.flows
    → (shape_of s (length c.states) c.delay_max).h ≤ i → i < length r.rows → length (flow_of r i flow).x ≡ length c.states
states_stand c s r i flow fits from to later inside =
    let shape = shape_of s (length c.states) c.delay_max in
    let row = fits.each_row i inside in
    row.each_flow (flow - 1) no_flow (let count = row.flow_count in omega arith) ∙ ap (λ b. if b then 0 else length c.states) (not_less i shape.h later)

pub is_reading : (c : Controller) (s : Setting) (r : Run) (row flow states : ℕ) → IsSetting s → HasShape c s r → IsControlled c s row
    → 1 ≤ flow → flow ≤ s.flows → states ≤ row → IsReading r (reading row flow states (row - s.rtt))
is_reading c s r row flow states set fits controlled from to within =
    let rows = fits.row_count in
    let after = controlled.after_opening in
    let last = controlled.within in
    let count = (fits.each_row 0 (omega arith)).flow_count in
    record {
      row_from = omega arith;
      row_in = omega arith;
      states_in = omega arith;
      heard_from = omega arith;
      heard_in = omega arith;
      flow_from = from;
      flow_to = omega arith;
    }

-- what a step's weighing takes
pub record IsStepReady (c : Controller) (r : Run) (at : ReadPoint) : Type 0 where
  pub guards : (k : ℕ) → k < length c.rules → EachExpr (IsReady r at (unsigned_abs c.den)) (test_of (rule_of c k).guard)
  pub sets : (k j : ℕ) → k < length c.rules → j < length c.states → OptionalLin (IsReady r at (unsigned_abs c.den)) (set_of c k j)
  pub window : IsReady r at (unsigned_abs c.den) c.window
  pub rate : OptionalLin (IsReady r at (unsigned_abs c.den)) c.rate

pub step_ready : (c : Controller) (r : Run) (at : ReadPoint) → IsController c → states_at r at ≡ length c.states → IsStepReady c r at
step_ready c r at is same =
    let n : ℕ = length c.states in
    let d : ℕ = unsigned_abs c.den in
    record {
      guards = λ k inside.
          test_ready r at n d (test_of (rule_of c k).guard) same (is.each_lin.rules k no_rule inside).guard
          (is.each_num.lins.rules k no_rule inside).guard (is.den_common.lins.rules k no_rule inside).guard;
      sets = λ k j inside among.
          let places : j < length (rule_of c k).sets = (let count = (is.each_rule k no_rule inside).places in omega arith) in
          option_ready r at n d (set_of c k j) same ((is.each_lin.rules k no_rule inside).sets j None places)
          ((is.each_num.lins.rules k no_rule inside).sets j None places) ((is.den_common.lins.rules k no_rule inside).sets j None places);
      window = lin_ready r at n d c.window same is.each_lin.window is.each_num.lins.window is.den_common.lins.window;
      rate = option_ready r at n d c.rate same is.each_lin.rate is.each_num.lins.rate is.den_common.lins.rate;
    }

pub can_step : (c : Controller) (s : Setting) (r : Run) (row flow : ℕ) → IsController c → IsSetting s → FitsBoth c s r → IsControlled c s row
    → 1 ≤ flow → flow ≤ s.flows → CanStep c r (stepping s row flow)
can_step c s r row flow is set fits controlled from to =
    let at : ReadPoint = stepping s row flow in
    let after = controlled.after_opening in
    let last = controlled.within in
    let rows = fits.shaped.row_count in
    let before : length (flow_of r (row - 1) flow).x ≡ length c.states =
    states_stand c s r (row - 1) flow fits.shaped from to (omega arith) (omega arith) in
    let ready = step_ready c r at is before in
    let den = has_den c is in
    record {
      run_in = is_run c s r is set fits;
      at_in = is_reading c s r row flow (row - 1) set fits.shaped controlled from to (omega arith);
      states_to = is.states_to;
      rules_from = is.rules_from;
      rules_to = is.rules_to;
      guards = λ k inside.
          can_weigh r at (unsigned_abs c.den) c.delay_max (test_of (rule_of c k).guard) den.some den.small (omega arith)
          (ready.guards k inside) (is.delay_reached k no_rule inside);
      places = λ k inside. (is.each_rule k no_rule inside).places;
      sets = λ k j inside among. can_sum r at (unsigned_abs c.den) (set_of c k j) den.some den.small (ready.sets k j inside among);
      states_before = before;
      states_here = states_stand c s r row flow fits.shaped from to (omega arith) (omega arith);
    }

pub can_send : (c : Controller) (s : Setting) (r : Run) (row flow : ℕ) → IsController c → IsSetting s → FitsBoth c s r → IsControlled c s row
    → 1 ≤ flow → flow ≤ s.flows → CanSend c r (sending s row flow)
can_send c s r row flow is set fits controlled from to =
    let at : ReadPoint = sending s row flow in
    let after = controlled.after_opening in
    let last = controlled.within in
    let rows = fits.shaped.row_count in
    let here : length (flow_of r row flow).x ≡ length c.states = states_stand c s r row flow fits.shaped from to (omega arith) (omega arith) in
    let ready = step_ready c r at is here in
    let den = has_den c is in
    record {
      run_in = is_run c s r is set fits;
      at_in = is_reading c s r row flow row set fits.shaped controlled from to (omega arith);
      window_in = can_sum r at (unsigned_abs c.den) (Some c.window) den.some den.small ready.window;
      rate_in = can_sum r at (unsigned_abs c.den) c.rate den.some den.small ready.rate;
    }
