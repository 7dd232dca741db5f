-- What the answers about a run mean, over all whole numbers.
use Rattle.std.specs.Prelude.{◌≡◌, ℕ, ◌⊎◌, List, ◌∷◌, ◌++◌, All}
use Rattle.whole.specs.declared.answers.Stuck.{Stuck}
use Rattle.run_rows.specs.Runs.{Bounded}
use Rattle.run_rows.specs.declared.rows.Run.{Run}
use Rattle.path_server.specs.Places.{HoldsAt as RuleHoldsAt, IsStuckAt as IsStuckInRule, NothingOverflowsAt as NothingOverflowsInRule}
use Rattle.ctrl_types.specs.declared.controllers.Controller.{Controller}
use Rattle.ctrl_meaning.specs.Limits.{FitsBoth}
use Rattle.ctrl_meaning.specs.Meaning.{IsStuckInOpening, IsStuckInStep, NothingOverflowsInOpening, NothingOverflowsInSend, NothingOverflowsInStep, OpensWithin, SendSticks, Sends, Steps}
use Rattle.ctrl_meaning.specs.RunOf.{RunOf}
use Rattle.ctrl_meaning.specs.Steps.{sending, stepping}
use Rattle.question_text.specs.Meaning.{IsFirstOverflow, NothingOverflows as NothingOverflowsInQuestion}
use Rattle.question_text.specs.declared.questions.Question.{Question}
use Rattle.trace_replay.specs.Replaying.{ReplayPlace, fits, obeys, opens, steps, sends, broken_at, places}
use Rattle.trace_replay.specs.declared.replaying.RunRule.{RunRule}
use Rattle.trace_replay.specs.declared.replaying.Replayed.TheVariants.{Broken}

-- what is asked at a place holds
abbrev pub HoldsAt : Controller → Question → Run → ReplayPlace → Type 0
HoldsAt c q r fits = FitsBoth c q.setting r
HoldsAt c q r (obeys p) = RuleHoldsAt q.setting.path r p
HoldsAt c q r (opens f) = OpensWithin c q.setting r f
HoldsAt c q r (steps i f) = (rule : ℕ) × Steps c r (stepping q.setting i f) rule
HoldsAt c q r (sends i f) = Sends c r (sending q.setting i f)

-- the first product or sum that overflows in weighing what is asked at a place
abbrev pub IsStuckAt : Controller → Question → Run → ReplayPlace → Stuck → Type 0
IsStuckAt c q r fits stuck = ⊥
IsStuckAt c q r (obeys p) stuck = IsStuckInRule q.setting.path r p stuck
IsStuckAt c q r (opens f) stuck = IsStuckInOpening c q.setting r f stuck
IsStuckAt c q r (steps i f) stuck = IsStuckInStep c q.setting r i f stuck
IsStuckAt c q r (sends i f) stuck = SendSticks c r (sending q.setting i f) stuck

-- no product and no sum overflows there
abbrev pub NothingOverflowsAt : Controller → Question → Run → ReplayPlace → Type 0
NothingOverflowsAt c q r fits = Unit {0}
NothingOverflowsAt c q r (obeys p) = NothingOverflowsInRule q.setting.path r p
NothingOverflowsAt c q r (opens f) = NothingOverflowsInOpening c q.setting r f
NothingOverflowsAt c q r (steps i f) = NothingOverflowsInStep c r (stepping q.setting i f)
NothingOverflowsAt c q r (sends i f) = NothingOverflowsInSend c r (sending q.setting i f)

-- the rule is broken at the row for the flow, all that is asked before holds, and nothing overflows up to there
pub record IsFirstBroken (c : Controller) (q : Question) (r : Run) (rule : RunRule) (row flow : ℕ) : Type 0 where
  pub before : List ReplayPlace
  pub place : ReplayPlace
  pub after : List ReplayPlace
  pub named : broken_at c q place ≡ Broken rule row flow
  pub parts : places c q r ≡ before ++ place ∷ after
  pub weighed : All (NothingOverflowsAt c q r) before
  pub held : All (HoldsAt c q r) before
  pub weighed_here : NothingOverflowsAt c q r place
  pub breaks : HoldsAt c q r place → ⊥

-- a weighing is stuck at a place, all that is asked before holds, and nothing overflows before
pub record IsStuckInRun (c : Controller) (q : Question) (r : Run) (stuck : Stuck) : Type 0 where
  pub before : List ReplayPlace
  pub place : ReplayPlace
  pub after : List ReplayPlace
  pub parts : places c q r ≡ before ++ place ∷ after
  pub weighed : All (NothingOverflowsAt c q r) before
  pub held : All (HoldsAt c q r) before
  pub overflows : IsStuckAt c q r place stuck

-- nothing overflows wherever the run is asked
abbrev pub NothingOverflowsInRun : Controller → Question → Run → Type 0
NothingOverflowsInRun c q r = All (NothingOverflowsAt c q r) (places c q r)

-- all that is asked holds, nothing overflows there, and a weighing of the question is stuck
pub record IsStuckInQuestion (c : Controller) (q : Question) (r : Run) (stuck : Stuck) : Type 0 where
  pub run_of : RunOf c q.setting r
  pub bounded : Bounded r
  pub weighed : NothingOverflowsInRun c q r
  pub overflows : IsFirstOverflow q r stuck

abbrev pub IsFirstWide : Controller → Question → Run → Stuck → Type 0
IsFirstWide c q r stuck = IsStuckInRun c q r stuck ⊎ IsStuckInQuestion c q r stuck

-- nothing overflows anywhere
pub record NothingOverflows (c : Controller) (q : Question) (r : Run) : Type 0 where
  pub in_run : NothingOverflowsInRun c q r
  pub in_question : NothingOverflowsInQuestion q r
