-- What is claimed of the flows on a row of a run, in the order in which the formulas of an unrolled problem stand: on the
-- opening row the ranges of the states, on a controlled row each flow's rules, and then what each flow sends.
use Rattle.std.specs.Prelude.{◌≡◌, ℕ, ◌≤◌, ◌==◌, nat_lt, ℤ, Bool, false, if◌then◌else◌, List, [], ◌∷◌, ◌++◌, map, flat_map, length}
use Rattle.condition_tree.specs.Trees.{conjunction, disjunction, opposite}
use Rattle.claims.specs.Subjects.{Subject, constant, each_flow, of_state}
use Rattle.weighing.specs.Claim.{Claims}
use Rattle.weighing.specs.First.{below}
use Rattle.run_rows.specs.declared.rows.Run.{Run}
use Rattle.run_rows.specs.declared.shapes.Shape.{Shape}
use Rattle.path_server.specs.Shapes.{shape_of}
use Rattle.path_server.specs.declared.settings.Setting.{Setting}
use Rattle.ctrl_types.specs.Limits.{rule_of}
use Rattle.ctrl_types.specs.Tests.{test_of}
use Rattle.ctrl_types.specs.declared.controllers.Controller.{Controller}
use Rattle.ctrl_meaning.specs.Guards.{test_claim}
use Rattle.ctrl_meaning.specs.Limits.{IsControlled}
use Rattle.ctrl_meaning.specs.Meaning.{IsStep, OpensWithin}
use Rattle.ctrl_meaning.specs.Opening.{declared_state, opening_row, range_claims}
use Rattle.ctrl_meaning.specs.Sends.{send_claim}
use Rattle.ctrl_meaning.specs.Steps.{sending, set_claim, set_of, stepping}
use Rattle.ctrl_meaning.specs.declared.readings.ReadPoint.{ReadPoint}

-- ---- a step: where a rule is the least whose guard is true, each state is what it gives

abbrev pub guard_claim : {T : Type 0} → (ℤ → Subject → T) → Controller → ReadPoint → ℕ → Claims T
guard_claim term c at k = test_claim term at (test_of (rule_of c k).guard)

-- rule k fires: no guard before its own is true, and its own is
abbrev pub fires_claim : {T : Type 0} → (ℤ → Subject → T) → Controller → ReadPoint → ℕ → Claims T
fires_claim term c at k = conjunction (map (λ j. opposite (guard_claim term c at j)) (below k) ++ guard_claim term c at k ∷ [])

-- each state is what rule k gives it
abbrev pub sets_claim : {T : Type 0} → (ℤ → Subject → T) → Controller → ReadPoint → ℕ → Claims T
sets_claim term c at k = conjunction (map (λ j. set_claim term at j (set_of c k j)) (below (length c.states)))

abbrev pub rule_claim : {T : Type 0} → (ℤ → Subject → T) → Controller → ReadPoint → ℕ → Claims T
rule_claim term c at k = disjunction (opposite (fires_claim term c at k) ∷ sets_claim term c at k ∷ [])

-- one claim for each rule
abbrev pub step_claims : {T : Type 0} → (ℤ → Subject → T) → Controller → ReadPoint → List (Claims T)
step_claims term c at = map (rule_claim term c at) (below (length c.rules))

-- ---- the claims of a row

-- the ranges of a flow's states on row i, state by state
abbrev pub opening_claims : {T : Type 0} → (ℤ → Subject → T) → Controller → ℕ → ℕ → List (Claims T)
opening_claims term c i f = flat_map (λ j. range_claims term (declared_state c j) (of_state i f j) constant) (below (length c.states))

abbrev pub opening_row_claims : {T : Type 0} → (ℤ → Subject → T) → Controller → Setting → ℕ → List (Claims T)
opening_row_claims term c s i = each_flow (opening_claims term c i) s.flows

-- the rules of all flows come before the first that is sent
abbrev pub controlled_row_claims : {T : Type 0} → (ℤ → Subject → T) → Controller → Setting → ℕ → List (Claims T)
controlled_row_claims term c s i =
    each_flow (λ f. step_claims term c (stepping s i f)) s.flows
    ++ each_flow (λ f. send_claim term (sending s i f) c.window c.rate ∷ []) s.flows

-- the claims on the flows of row i; a free opening claims nothing
unfoldable pub flow_claims : {T : Type 0} → (ℤ → Subject → T) → Bool → Controller → Setting → ℕ → List (Claims T)
flow_claims term free c s i =
    if nat_lt i (opening_row c s) then []
    else if i == opening_row c s then if free then [] else opening_row_claims term c s i
    else controlled_row_claims term c s i

-- ---- what they mean

-- the shape of the runs of the controller that the setting asks about
abbrev pub shape_for : Controller → Setting → Shape
shape_for c s = shape_of s (length c.states) c.delay_max

-- on the opening row each flow opens within its ranges, unless the opening is free; a controlled row is a step of each flow
pub record FlowsHold (free : Bool) (c : Controller) (s : Setting) (r : Run) (i : ℕ) : Type 0 where
  pub opened : free ≡ false → i ≡ opening_row c s → (f : ℕ) → 1 ≤ f → f ≤ s.flows → OpensWithin c s r f
  pub stepped : IsControlled c s i → (f : ℕ) → 1 ≤ f → f ≤ s.flows → (rule : ℕ) × IsStep c s r i f rule
