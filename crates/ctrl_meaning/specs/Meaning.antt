-- What a controller's words mean, over all whole numbers.
-- Values stand in units of 1 / (over * den), in which each is whole; den is a common multiple of the controller's denominators.
use Rattle.std.specs.Prelude.{◌≡◌, ℕ, ◌-◌, ◌<◌, ℤ, pos, ◌+ℤ◌, ◌-ℤ◌, ◌*ℤ◌, ◌≤ℤ◌, unsigned_abs, int_le, ◌⊎◌, if◌then◌else◌, Option, Some, None, List, [], ◌∷◌, length}
use Rattle.whole.specs.declared.answers.Stuck.{Stuck}
use Rattle.weighing.specs.Queries.{IsFirstStuck, NoneOverflows}
use Rattle.weighing.specs.Overflow.{IsFirstOverflow, NothingOverflows as NothingOverflowsIn}
use Rattle.claims.specs.Subjects.{worth}
use Rattle.claim_values.specs.Values.{Compares, number}
use Rattle.run_rows.specs.Runs.{arrived, lost, served, state_of}
use Rattle.run_rows.specs.declared.rows.Run.{Run}
use Rattle.path_server.specs.declared.settings.Setting.{Setting}
use Rattle.condition_tree.specs.Trees.{Truth}
use Rattle.ctrl_types.specs.Limits.{rule_of}
use Rattle.ctrl_types.specs.Tests.{Test, Leaf, compares, delayed, test_of}
use Rattle.ctrl_types.specs.declared.controllers.Controller.{Controller}
use Rattle.ctrl_types.specs.declared.controllers.State.{State}
use Rattle.ctrl_types.specs.declared.expressions.Lin.{Lin}
use Rattle.ctrl_types.specs.declared.expressions.LinTerm.{LinTerm}
use Rattle.ctrl_types.specs.declared.expressions.Source.{Source}
use Rattle.ctrl_types.specs.declared.expressions.Source.TheVariants.{One, State as StateSource, Acked, Lost}
use Rattle.ctrl_meaning.specs.Opening.{declared_state, opening_row, range_claim}
use Rattle.ctrl_meaning.specs.Readings.{losses_heard, losses_heard_before}
use Rattle.ctrl_meaning.specs.Steps.{guard_claim, sending, sent_claim, set_of, state_claim, stepping}
use Rattle.ctrl_meaning.specs.declared.readings.ReadPoint.{ReadPoint}

-- what a term is a multiple of; a signal is what grew in the step that the sender hears of
abbrev pub amount : Run → ReadPoint → Source → ℤ
amount r at One = r.over
amount r at (StateSource j) = state_of r at.states at.flow j
amount r at Acked = served r at.heard at.flow -ℤ served r (at.heard - 1) at.flow
amount r at Lost = worth r (losses_heard at) -ℤ worth r (losses_heard_before at)

-- the value of an expression: the sum of its coefficients times the values that its names have there
abbrev pub value : Run → ReadPoint → ℕ → List LinTerm → ℤ
value r at den [] = pos 0
value r at den (t ∷ terms) = (number den t.coef *ℤ amount r at t.of) +ℤ value r at den terms

-- a comparison is true of the values, and a test of delay of what was accepted and what was served
abbrev pub LeafHolds : Run → ReadPoint → ℕ → Leaf Lin ℕ → Type 0
LeafHolds r at den (compares left rel right) = Compares rel (value r at den left.terms) (value r at den right.terms)
LeafHolds r at den (delayed k) = served r at.heard at.flow ≤ℤ (arrived r (at.heard - k) at.flow -ℤ lost r (at.heard - k) at.flow)

-- a condition is true as its comparisons and connectives say
abbrev pub IsTrueAt : Run → ReadPoint → ℕ → Test → Type 0
IsTrueAt r at den t = Truth (LeafHolds r at den) t

abbrev pub den_of_all : Controller → ℕ
den_of_all c = unsigned_abs c.den

abbrev pub GuardHolds : Controller → Run → ReadPoint → ℕ → Type 0
GuardHolds c r at k = IsTrueAt r at (den_of_all c) (test_of (rule_of c k).guard)

-- rule k is the least whose guard is true
pub record Fires (c : Controller) (r : Run) (at : ReadPoint) (k : ℕ) : Type 0 where
  pub within : k < length c.rules
  pub holds : GuardHolds c r at k
  pub least : (j : ℕ) → j < k → GuardHolds c r at j → ⊥

-- state j has on the row the value of its expression or, where it has none, the value of the row before
abbrev pub HasValue : Run → ReadPoint → ℕ → ℕ → Option Lin → Type 0
HasValue r at den j None = state_of r at.row at.flow j ≡ state_of r at.states at.flow j
HasValue r at den j (Some lin) = pos den *ℤ state_of r at.row at.flow j ≡ value r at den lin.terms

abbrev pub StateAgrees : Controller → Run → ReadPoint → ℕ → ℕ → Type 0
StateAgrees c r at k j = HasValue r at (den_of_all c) j (set_of c k j)

-- rule k fires, and each state is what it gives
pub record Steps (c : Controller) (r : Run) (at : ReadPoint) (k : ℕ) : Type 0 where
  pub fires : Fires c r at k
  pub agrees : (j : ℕ) → j < length c.states → StateAgrees c r at k j

-- no weighing of a guard overflows, nor one of what the rule that fires gives
pub record NothingOverflowsInStep (c : Controller) (r : Run) (at : ReadPoint) : Type 0 where
  pub guards : NoneOverflows (guard_claim c r at) (length c.rules)
  pub states : (k : ℕ) → Fires c r at k → NoneOverflows (state_claim c r at k) (length c.states)

-- j is the first state that isn't what the rule that fires gives, and no weighing of the step overflows
pub record IsFirstDiffering (c : Controller) (r : Run) (at : ReadPoint) (j : ℕ) : Type 0 where
  pub rule : ℕ
  pub fires : Fires c r at rule
  pub within : j < length c.states
  pub before : (i : ℕ) → i < j → StateAgrees c r at rule i
  pub differs : StateAgrees c r at rule j → ⊥
  pub weighed : NothingOverflowsInStep c r at

abbrev pub greater : ℤ → ℤ → ℤ
greater x y = if int_le x y then y else x

abbrev pub lesser : ℤ → ℤ → ℤ
lesser x y = if int_le x y then x else y

-- the greater of what had arrived and of what was served, lost, and may be under way
abbrev pub allowed_by_window : Run → ReadPoint → ℕ → Lin → ℤ
allowed_by_window r at den window =
    greater (pos den *ℤ arrived r (at.row - 1) at.flow)
    (pos den *ℤ (served r at.heard at.flow +ℤ worth r (losses_heard at)) +ℤ value r at den window.terms)

-- what had arrived and a step's worth of the rate
abbrev pub allowed_by_rate : Run → ReadPoint → ℕ → Lin → ℤ
allowed_by_rate r at den rate = pos den *ℤ arrived r (at.row - 1) at.flow +ℤ greater (value r at den rate.terms) (pos 0)

abbrev pub allowed : Run → ReadPoint → ℕ → Lin → Option Lin → ℤ
allowed r at den window None = allowed_by_window r at den window
allowed r at den window (Some rate) = lesser (allowed_by_window r at den window) (allowed_by_rate r at den rate)

-- the flow has sent exactly what it may
abbrev pub Sends : Controller → Run → ReadPoint → Type 0
Sends c r at = pos (den_of_all c) *ℤ arrived r at.row at.flow ≡ allowed r at (den_of_all c) c.window c.rate

-- the row is a step of the controller for the flow, by this rule
pub record IsStep (c : Controller) (s : Setting) (r : Run) (row flow rule : ℕ) : Type 0 where
  pub steps : Steps c r (stepping s row flow) rule
  pub sends : Sends c r (sending s row flow)

-- no weighing of what is sent overflows
abbrev pub NothingOverflowsInSend : Controller → Run → ReadPoint → Type 0
NothingOverflowsInSend c r at = NothingOverflowsIn (sent_claim c r at)

-- no weighing of the step or of the arrival overflows
pub record NothingOverflows (c : Controller) (s : Setting) (r : Run) (row flow : ℕ) : Type 0 where
  pub in_step : NothingOverflowsInStep c r (stepping s row flow)
  pub in_send : NothingOverflowsInSend c r (sending s row flow)

-- the states are those of a step, and the arrival isn't; and nothing overflows
pub record IsOtherArrival (c : Controller) (s : Setting) (r : Run) (row flow : ℕ) : Type 0 where
  pub rule : ℕ
  pub steps : Steps c r (stepping s row flow) rule
  pub differs : Sends c r (sending s row flow) → ⊥
  pub weighed : NothingOverflows c s r row flow

-- the first product or sum of the guards that overflows or, where none does and a rule fires, the first of its states
abbrev pub IsStuckInStep : Controller → Setting → Run → ℕ → ℕ → Stuck → Type 0
IsStuckInStep c s r row flow stuck =
    IsFirstStuck row (guard_claim c r (stepping s row flow)) (length c.rules) stuck
    ⊎ ((rule : ℕ) × Fires c r (stepping s row flow) rule × NoneOverflows (guard_claim c r (stepping s row flow)) (length c.rules)
    × IsFirstStuck row (state_claim c r (stepping s row flow) rule) (length c.states) stuck)

-- the first product or sum of what is sent that overflows
abbrev pub SendSticks : Controller → Run → ReadPoint → Stuck → Type 0
SendSticks c r at stuck = IsFirstOverflow at.row (sent_claim c r at) stuck

-- the states are those of a step, in which nothing overflows, and the weighing of the arrival overflows
pub record IsStuckInSend (c : Controller) (s : Setting) (r : Run) (row flow : ℕ) (stuck : Stuck) : Type 0 where
  pub rule : ℕ
  pub steps : Steps c r (stepping s row flow) rule
  pub weighed : NothingOverflowsInStep c r (stepping s row flow)
  pub overflows : SendSticks c r (sending s row flow) stuck

-- a state's value, in units of 1 / over, lies between its bounds
pub record IsInRange (s : State) (x over : ℤ) : Type 0 where
  pub from : (s.lo.num *ℤ over) ≤ℤ (s.lo.den *ℤ x)
  pub to : (s.hi.den *ℤ x) ≤ℤ (s.hi.num *ℤ over)

-- state j of the flow lies within its range on the opening row
abbrev pub OpensInRange : Controller → Setting → Run → ℕ → ℕ → Type 0
OpensInRange c s r flow j = IsInRange (declared_state c j) (state_of r (opening_row c s) flow j) r.over

-- each state of the flow lies within its range on the opening row
abbrev pub OpensWithin : Controller → Setting → Run → ℕ → Type 0
OpensWithin c s r flow = (j : ℕ) → j < length c.states → OpensInRange c s r flow j

-- no weighing of a state's range overflows
abbrev pub NothingOverflowsInOpening : Controller → Setting → Run → ℕ → Type 0
NothingOverflowsInOpening c s r flow = NoneOverflows (range_claim c r (opening_row c s) flow) (length c.states)

-- the first product or sum of the states' ranges that overflows
abbrev pub IsStuckInOpening : Controller → Setting → Run → ℕ → Stuck → Type 0
IsStuckInOpening c s r flow stuck = IsFirstStuck (opening_row c s) (range_claim c r (opening_row c s) flow) (length c.states) stuck

-- j is the first state of the flow that is out of its range on the opening row, and no weighing of a range overflows
pub record IsFirstOut (c : Controller) (s : Setting) (r : Run) (flow j : ℕ) : Type 0 where
  pub within : j < length c.states
  pub before : (i : ℕ) → i < j → OpensInRange c s r flow i
  pub out : OpensInRange c s r flow j → ⊥
  pub weighed : NothingOverflowsInOpening c s r flow
