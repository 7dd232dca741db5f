-- A controller within its limits can be written over the columns of its runs.
use Rattle.std.proofs.Common.{◌≡◌, ℕ, ◌-◌, ◌<◌, ◌≤◌, unsigned_abs, Option, Some, None, length, refl, sym, subst, arith}
use Rattle.std.specs.Prelude.{All}
use Rattle.std.proofs.Math.Nat.{one-dvd}
use Rattle.run_rows.specs.Runs.{state_count}
use Rattle.run_rows.specs.declared.shapes.Shape.{Shape}
use Rattle.run_rows.proofs.EntryPlaces.{state_count_after}
use Rattle.path_server.specs.Limits.{IsSetting}
use Rattle.path_server.specs.declared.settings.Setting.{Setting}
use Rattle.ctrl_types.specs.Limits.{IsController, IsLin, OptionalLin, no_rule, rule_of}
use Rattle.ctrl_types.specs.Tests.{EachDelay, EachExpr, Test, all_of, always, any_of, compares, delayed, end_of_all, end_of_any, leaf, never, opposite, test_of}
use Rattle.ctrl_types.specs.declared.controllers.Controller.{Controller}
use Rattle.ctrl_types.specs.declared.expressions.Lin.{Lin}
use Rattle.ctrl_meaning.specs.Expressions.{IsTerm, scale_of_two, scale_with}
use Rattle.ctrl_meaning.specs.Limits.{IsControlled}
use Rattle.ctrl_meaning.specs.Steps.{sending, set_of, stepping}
use Rattle.ctrl_meaning.specs.declared.readings.ReadPoint.{ReadPoint}
use Rattle.ctrl_meaning.proofs.Readiness.{HasDens, HasNums, are_scaled, at_most, has_den}
use Rattle.ctrl_meaning.proofs.Values.{AreScaled, is_scale, scale_divides}
use Rattle.ctrl_meaning.specs.Flows.{shape_for}
use Rattle.unroll.specs.Shapes.{IsShapeOf}
use Rattle.unroll.proofs.ShapeLaws.{shape_within}
use Rattle.unroll.specs.FlowLimits.{CanAdd, CanCompare, CanRead, CanSend, CanSet, CanStep, CanSum, CanTest}

-- ---- expressions

-- an expression's terms can be written, and their denominators divide d
record IsReady (n d : ℕ) (lin : Lin) : Type 0 where
  terms_to : length lin.terms ≤ 16
  terms_in : All (IsTerm n) lin.terms
  scaled : AreScaled d lin.terms

lin_ready : (n d : ℕ) (lin : Lin) → IsLin n lin → HasNums lin → HasDens d lin → IsReady n d lin
lin_ready n d lin is nums dens = record {
  terms_to = is.terms_to;
  terms_in = λ k e inside. record { coef_in = nums k e inside; source_in = is.sources k e inside };
  scaled = are_scaled d lin.terms nums dens;
}

-- where an expression is read: the states there are the controller's, and the common denominator is small
record IsPlace (s : Shape) (at : ReadPoint) (n d : ℕ) : Type 0 where
  states_are : state_count s at.states ≡ n
  some : 0 < d
  small : d ≤ 1000000

can_add : (s : Shape) (at : ReadPoint) (n d : ℕ) (lin : Lin) → IsPlace s at n d → IsReady n d lin → CanAdd s at lin
can_add s at n d lin place ready =
    record { terms_to = ready.terms_to; terms_in = subst (λ m. All (IsTerm m) lin.terms) (sym place.states_are) ready.terms_in }

can_sum : (s : Shape) (at : ReadPoint) (n d : ℕ) (lin : Lin) → IsPlace s at n d → IsReady n d lin → CanSum s at lin
can_sum s at n d lin place ready = record {
  lin_in = can_add s at n d lin place ready;
  scale_to = at_most (scale_with 1 lin.terms) d place.some place.small (scale_divides n 1 d lin.terms (omega arith) ready.terms_in (one-dvd d) ready.scaled);
}

can_compare : (s : Shape) (at : ReadPoint) (n d : ℕ) (left right : Lin) → IsPlace s at n d → IsReady n d left → IsReady n d right → CanCompare s at left right
can_compare s at n d left right place one two =
    let first = scale_divides n 1 d left.terms (omega arith) one.terms_in (one-dvd d) one.scaled in
    let some = (is_scale n 1 left.terms (omega arith) one.terms_in).some in
    record {
      left_in = can_add s at n d left place one;
      right_in = can_add s at n d right place two;
      scale_to = at_most (scale_of_two left right) d place.some place.small (scale_divides n (scale_with 1 left.terms) d right.terms some two.terms_in first two.scaled);
    }

can_test : (s : Shape) (at : ReadPoint) (n d most : ℕ) (t : Test) → IsPlace s at n d → most ≤ at.heard
    → EachExpr (IsLin n) t → EachExpr HasNums t → EachExpr (HasDens d) t → EachDelay (λ k. k ≤ most) t → CanTest s at t
can_test s at n d most always place back is nums dens delays = tt
can_test s at n d most never place back is nums dens delays = tt
can_test s at n d most (leaf (compares left rel right)) place back is nums dens delays =
    can_compare s at n d left right place (lin_ready n d left is.0 nums.0 dens.0) (lin_ready n d right is.1 nums.1 dens.1)
can_test s at n d most (leaf (delayed k)) place back is nums dens delays = omega (arith, delays, back)
can_test s at n d most (opposite t) place back is nums dens delays = can_test s at n d most t place back is nums dens delays
can_test s at n d most end_of_all place back is nums dens delays = tt
can_test s at n d most (all_of t rest) place back is nums dens delays =
    (can_test s at n d most t place back is.0 nums.0 dens.0 delays.0, can_test s at n d most rest place back is.1 nums.1 dens.1 delays.1)
can_test s at n d most end_of_any place back is nums dens delays = tt
can_test s at n d most (any_of t rest) place back is nums dens delays =
    (can_test s at n d most t place back is.0 nums.0 dens.0 delays.0, can_test s at n d most rest place back is.1 nums.1 dens.1 delays.1)

can_set : (s : Shape) (at : ReadPoint) (n d : ℕ) (o : Option Lin) → IsPlace s at n d
    → OptionalLin (IsLin n) o → OptionalLin HasNums o → OptionalLin (HasDens d) o → CanSet s at o
can_set s at n d None place is nums dens = tt
can_set s at n d (Some lin) place is nums dens = can_sum s at n d lin place (lin_ready n d lin is nums dens)

-- ---- rows

-- the shape is one that the setting gives
pub shape_in : (c : Controller) (s : Setting) → IsController c → IsShapeOf s (shape_for c s)
shape_in c s is = record { states = length c.states; delay_max = c.delay_max; states_to = is.states_to; delay_to = is.delay_to; is = refl }

can_read : (c : Controller) (s : Setting) (i f states : ℕ) → IsController c → IsSetting s → IsControlled c s i → 1 ≤ f → f ≤ s.flows → states ≤ i
    → CanRead (shape_for c s) (record { row = i; flow = f; states = states; heard = i - s.rtt })
can_read c s i f states is set controlled from to within =
    let after = controlled.after_opening in
    let last = controlled.within in
    record {
      shape_in = shape_within s (shape_for c s) set (shape_in c s is);
      row_from = omega arith;
      row_in = omega arith;
      states_in = omega arith;
      heard_from = omega arith;
      heard_in = omega arith;
      flow_from = from;
      flow_to = to;
    }

place_at : (c : Controller) (s : Setting) (i f states : ℕ) → IsController c → (shape_for c s).h ≤ states
    → IsPlace (shape_for c s) (record { row = i; flow = f; states = states; heard = i - s.rtt }) (length c.states) (unsigned_abs c.den)
place_at c s i f states is later =
    let den = has_den c is in
    record { states_are = state_count_after (shape_for c s) states later; some = den.some; small = den.small }

pub can_step : (c : Controller) (s : Setting) (i f : ℕ) → IsController c → IsSetting s → IsControlled c s i → 1 ≤ f → f ≤ s.flows
    → CanStep (shape_for c s) (stepping s i f) c
can_step c s i f is set controlled from to =
    let shape : Shape = shape_for c s in
    let at : ReadPoint = stepping s i f in
    let n : ℕ = length c.states in
    let d : ℕ = unsigned_abs c.den in
    let after = controlled.after_opening in
    let place = place_at c s i f (i - 1) is (omega arith) in
    let here = state_count_after shape i (omega arith) in
    let before = state_count_after shape (i - 1) (omega arith) in
    record {
      read = can_read c s i f (i - 1) is set controlled from to (omega arith);
      states_to = is.states_to;
      rules_to = is.rules_to;
      states_here = omega (arith, here);
      states_before = omega (arith, before);
      guards = λ k inside.
          can_test shape at n d c.delay_max (test_of (rule_of c k).guard) place (omega arith) (is.each_lin.rules k no_rule inside).guard
          (is.each_num.lins.rules k no_rule inside).guard (is.den_common.lins.rules k no_rule inside).guard (is.delay_reached k no_rule inside);
      places = λ k inside. let count = (is.each_rule k no_rule inside).places in omega (arith, count);
      sets = λ k j inside among.
          let places : j < length (rule_of c k).sets = (let count = (is.each_rule k no_rule inside).places in omega arith) in
          can_set shape at n d (set_of c k j) place ((is.each_lin.rules k no_rule inside).sets j None places)
          ((is.each_num.lins.rules k no_rule inside).sets j None places) ((is.den_common.lins.rules k no_rule inside).sets j None places);
    }

pub can_send : (c : Controller) (s : Setting) (i f : ℕ) → IsController c → IsSetting s → IsControlled c s i → 1 ≤ f → f ≤ s.flows
    → CanSend (shape_for c s) (sending s i f) c
can_send c s i f is set controlled from to =
    let shape : Shape = shape_for c s in
    let at : ReadPoint = sending s i f in
    let n : ℕ = length c.states in
    let d : ℕ = unsigned_abs c.den in
    let after = controlled.after_opening in
    let place = place_at c s i f i is (omega arith) in
    record {
      read = can_read c s i f i is set controlled from to (omega arith);
      window_in = can_sum shape at n d c.window place (lin_ready n d c.window is.each_lin.window is.each_num.lins.window is.den_common.lins.window);
      rate_in = can_set shape at n d c.rate place is.each_lin.rate is.each_num.lins.rate is.den_common.lins.rate;
    }
