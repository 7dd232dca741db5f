-- The order in which a run is replayed, and what is found first: its shape; row by row the rules of the path, on the
-- opening row where the states begin, and on a controlled row the steps of all flows and then what they send; and after
-- all rows the question.
use Rattle.std.specs.Prelude.{ℕ, ◌+◌, ◌==◌, nat_lt, if◌then◌else◌, Bool, true, false, Result, Ok, Err, List, [], ◌∷◌, ◌++◌, map, length, flat_map}
use Rattle.whole.specs.declared.answers.Stuck.{Stuck}
use Rattle.weighing.specs.First.{below, first}
use Rattle.weighing.specs.Claim.{outcome}
use Rattle.run_rows.specs.Fitting.{has_shape}
use Rattle.run_rows.specs.declared.rows.Run.{Run}
use Rattle.path_server.specs.Claims.{claim_of}
use Rattle.path_server.specs.Places.{RulePlace, number, places_of_row as rules_of_row}
use Rattle.path_server.specs.Shapes.{shape_of}
use Rattle.ctrl_types.specs.declared.controllers.Controller.{Controller}
use Rattle.ctrl_meaning.specs.Opening.{opening, opening_row}
use Rattle.ctrl_meaning.specs.Steps.{sending, sent, step}
use Rattle.ctrl_meaning.specs.declared.opening.OpeningHolds.{OpeningHolds}
use Rattle.ctrl_meaning.specs.declared.opening.OpeningHolds.TheVariants.{Yes as Within, State as Outside, Wide as OpeningWide}
use Rattle.ctrl_meaning.specs.declared.step.StepHolds.{StepHolds}
use Rattle.ctrl_meaning.specs.declared.step.StepHolds.TheVariants.{Yes, State, Arrival, StepWide, SendWide}
use Rattle.question_text.specs.Violation.{violation}
use Rattle.question_text.specs.declared.questions.Question.{Question}
use Rattle.trace_replay.specs.declared.replaying.RunRule.TheVariants.{Shape, P, Opening, Step, Send}
use Rattle.trace_replay.specs.declared.replaying.Replayed.{Replayed}
use Rattle.trace_replay.specs.declared.replaying.Replayed.TheVariants.{Violating, Keeps, Broken, Wide}

-- what is asked of a run
pub data ReplayPlace : Type 0 where
  -- that it has the shape of the question's runs of the controller
  fits : ReplayPlace
  -- that a rule of the path holds
  obeys : RulePlace → ReplayPlace
  -- that the states of a flow lie within their ranges on the opening row
  opens : ℕ → ReplayPlace
  -- that the states on a row are those of a step of a flow, and that the flow sends what it may
  steps : ℕ → ℕ → ReplayPlace
  sends : ℕ → ℕ → ReplayPlace

-- the same of each flow, from flow 1 to flow n
abbrev pub each_flow : (ℕ → ReplayPlace) → ℕ → List ReplayPlace
each_flow place n = map (λ k. place (k + 1)) (below n)

-- what is asked of the controller on row i, where h is the opening row and n the number of flows
unfoldable pub places_of_flows : ℕ → ℕ → ℕ → List ReplayPlace
places_of_flows h n i =
    if nat_lt i h then []
    else if i == h then each_flow opens n
    else each_flow (steps i) n ++ each_flow (sends i) n

unfoldable pub places_of_row : Controller → Question → Run → ℕ → List ReplayPlace
places_of_row c q r i = map obeys (rules_of_row r i) ++ places_of_flows (opening_row c q.setting) q.setting.flows i

unfoldable pub places_of_rows : Controller → Question → Run → List ReplayPlace
places_of_rows c q r = flat_map (places_of_row c q r) (below (length r.rows))

abbrev pub places : Controller → Question → Run → List ReplayPlace
places c q r = fits ∷ places_of_rows c q r

-- whether the states lie within their ranges, and whether they are those of a step
abbrev pub are_within : OpeningHolds → Result Bool Stuck
are_within Within = Ok true
are_within (Outside state) = Ok false
are_within (OpeningWide stuck) = Err stuck

abbrev pub are_stepped : StepHolds → Result Bool Stuck
are_stepped (Yes rule) = Ok true
are_stepped (State state) = Ok false
are_stepped Arrival = Ok true
are_stepped (StepWide stuck) = Err stuck
are_stepped (SendWide stuck) = Ok true

-- what comes of weighing what is asked
unfoldable pub weighed_at : Controller → Question → Run → ReplayPlace → Result Bool Stuck
weighed_at c q r fits = Ok (has_shape (shape_of q.setting (length c.states) c.delay_max) r)
weighed_at c q r (obeys p) = outcome p.row (claim_of q.setting.path r p.rule p.row p.flow)
weighed_at c q r (opens f) = are_within (opening c q.setting r f)
weighed_at c q r (steps i f) = are_stepped (step c q.setting r i f)
weighed_at c q r (sends i f) = sent c r (sending q.setting i f)

-- the answer that names what doesn't hold
abbrev pub broken_at : Controller → Question → ReplayPlace → Replayed
broken_at c q fits = Broken Shape 0 0
broken_at c q (obeys p) = Broken (P (number p.rule)) p.row p.flow
broken_at c q (opens f) = Broken Opening (opening_row c q.setting) f
broken_at c q (steps i f) = Broken Step i f
broken_at c q (sends i f) = Broken Send i f

-- what holds is passed; else the answer names it, or the weighing that is stuck
abbrev pub stop_at : Replayed → Result Bool Stuck → Result (Unit {0}) Replayed
stop_at broken (Ok true) = Ok tt
stop_at broken (Ok false) = Err broken
stop_at broken (Err stuck) = Err (Wide stuck)

unfoldable pub found : Controller → Question → Run → ReplayPlace → Result (Unit {0}) Replayed
found c q r place = stop_at (broken_at c q place) (weighed_at c q r place)

-- whether the run violates the question, once all else holds
abbrev pub of_question : Result Bool Stuck → Replayed
of_question (Ok true) = Violating
of_question (Ok false) = Keeps
of_question (Err stuck) = Wide stuck

abbrev pub answer : Result (Unit {0}) Replayed → Result Bool Stuck → Replayed
answer (Ok _) violated = of_question violated
answer (Err stop) violated = stop

-- what is found first
unfoldable pub replaying : Controller → Question → Run → Replayed
replaying c q r = answer (first (found c q r) (places c q r)) (violation q r)
