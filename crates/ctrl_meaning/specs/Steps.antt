-- The answer about a controlled row: the rule that fires, the states that it gives, and what is sent.
use Rattle.std.specs.Prelude.{ℕ, ◌-◌, ℤ, pos, negsuc, Bool, true, false, [], ◌∷◌, length, Option, Some, None, Result, Ok, Err}
use Rattle.std.proofs.Common.{get_or}
use Rattle.whole.specs.declared.answers.Stuck.{Stuck}
use Rattle.weighing.specs.Queries.{asked}
use Rattle.claims.specs.Subjects.{Subject, in_run, of_state}
use Rattle.weighing.specs.Claim.{Claim, Claims, compare, outcome}
use Rattle.weighing.specs.declared.scales.Side.TheVariants.{Right}
use Rattle.weighing.specs.declared.weighings.Rel5.TheVariants.{Equal}
use Rattle.run_rows.specs.declared.rows.Run.{Run}
use Rattle.path_server.specs.declared.settings.Setting.{Setting}
use Rattle.ctrl_types.specs.Limits.{rule_of}
use Rattle.ctrl_types.specs.Tests.{test_of}
use Rattle.ctrl_types.specs.declared.controllers.Controller.{Controller}
use Rattle.ctrl_types.specs.declared.expressions.Lin.{Lin}
use Rattle.ctrl_meaning.specs.Expressions.{lin_terms, scale_with}
use Rattle.ctrl_meaning.specs.Guards.{test_claim}
use Rattle.ctrl_meaning.specs.Readings.{reading}
use Rattle.ctrl_meaning.specs.Sends.{send_claim}
use Rattle.ctrl_meaning.specs.declared.readings.ReadPoint.{ReadPoint}
use Rattle.ctrl_meaning.specs.declared.step.StepHolds.{StepHolds}
use Rattle.ctrl_meaning.specs.declared.step.StepHolds.TheVariants.{Yes, State, Arrival, StepWide, SendWide}

-- guards and assignments read the states of the row before
abbrev pub stepping : Setting → ℕ → ℕ → ReadPoint
stepping s row flow = reading row flow (row - 1) (row - s.rtt)

-- the window and the rate read the states of the row itself
abbrev pub sending : Setting → ℕ → ℕ → ReadPoint
sending s row flow = reading row flow row (row - s.rtt)

-- what a rule claims of a state: it has the value of its expression, or it keeps its value
abbrev pub set_claim : {T : Type 0} → (ℤ → Subject → T) → ReadPoint → ℕ → Option Lin → Claims T
set_claim term at j None =
    compare (term (pos 1) (of_state at.row at.flow j) ∷ term (negsuc 0) (of_state at.states at.flow j) ∷ []) Equal
set_claim term at j (Some lin) =
    let scale = scale_with 1 lin.terms in
    compare (term (pos scale) (of_state at.row at.flow j) ∷ lin_terms term at Right scale lin.terms) Equal

-- what rule k sets state j to
abbrev pub set_of : Controller → ℕ → ℕ → Option Lin
set_of c k j = get_or (rule_of c k).sets j None

-- that the guard of rule k is true; that rule k gives state j its value
abbrev pub guard_claim : Controller → Run → ReadPoint → ℕ → Claim
guard_claim c r at k = test_claim (in_run r) at (test_of (rule_of c k).guard)

abbrev pub state_claim : Controller → Run → ReadPoint → ℕ → ℕ → Claim
state_claim c r at k j = set_claim (in_run r) at j (set_of c k j)

abbrev pub guard_outcome : Controller → Run → ReadPoint → ℕ → Result Bool Stuck
guard_outcome c r at k = outcome at.row (guard_claim c r at k)

abbrev pub set_outcome : Controller → Run → ReadPoint → ℕ → ℕ → Result Bool Stuck
set_outcome c r at k j = outcome at.row (state_claim c r at k j)

-- the last rule fires where no other does
abbrev pub firing : ℕ → Result (Option ℕ) Stuck → Result ℕ Stuck
firing last (Err stuck) = Err stuck
firing last (Ok None) = Ok last
firing last (Ok (Some k)) = Ok k

-- the rule that fires; all guards are weighed first
unfoldable pub fired : Controller → Run → ReadPoint → Result ℕ Stuck
fired c r at = firing (length c.rules - 1) (asked true (guard_outcome c r at) (length c.rules))

-- the first state that differs from what rule k gives it; all states are weighed first
unfoldable pub differing : Controller → Run → ReadPoint → ℕ → Result (Option ℕ) Stuck
differing c r at k = asked false (set_outcome c r at k) (length c.states)

-- that the flow has sent what it may
abbrev pub sent_claim : Controller → Run → ReadPoint → Claim
sent_claim c r at = send_claim (in_run r) at c.window c.rate

unfoldable pub sent : Controller → Run → ReadPoint → Result Bool Stuck
sent c r at = outcome at.row (sent_claim c r at)

abbrev pub after_states : ℕ → Result Bool Stuck → StepHolds
after_states k (Err stuck) = SendWide stuck
after_states k (Ok false) = Arrival
after_states k (Ok true) = Yes k

abbrev pub after_rule : ℕ → Result (Option ℕ) Stuck → Result Bool Stuck → StepHolds
after_rule k (Err stuck) send = StepWide stuck
after_rule k (Ok (Some j)) send = State j
after_rule k (Ok None) send = after_states k send

abbrev pub after_guards : Result ℕ Stuck → (ℕ → Result (Option ℕ) Stuck) → Result Bool Stuck → StepHolds
after_guards (Err stuck) states send = StepWide stuck
after_guards (Ok k) states send = after_rule k (states k) send

unfoldable pub step : Controller → Setting → Run → ℕ → ℕ → StepHolds
step c s r row flow =
    after_guards (fired c r (stepping s row flow)) (differing c r (stepping s row flow)) (sent c r (sending s row flow))
