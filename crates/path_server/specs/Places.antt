-- The order in which a run is examined: by rows, in a row by rules, in a rule by flows, and what is found first.
use Rattle.std.specs.Prelude.{◌≡◌, ◌↔◌, ℕ, ◌+◌, Bool, true, false, Result, Ok, Err, List, [], ◌∷◌, ◌++◌, All, map, length, flat_map}
use Rattle.whole.specs.declared.answers.Stuck.{Stuck}
use Rattle.weighing.specs.First.{below, first}
use Rattle.weighing.specs.Claim.{outcome}
use Rattle.weighing.specs.Overflow.{IsFirstOverflow, NothingOverflows as NothingOverflowsIn}
use Rattle.run_rows.specs.Runs.{flow_count}
use Rattle.run_rows.specs.declared.rows.Run.{Run}
use Rattle.path_server.specs.Claims.{claim_of}
use Rattle.path_server.specs.Rules.{RuleHolds}
use Rattle.path_server.specs.Servers.{server_of}
use Rattle.path_server.specs.declared.settings.Path.{Path}
use Rattle.path_server.specs.declared.admission.Admit.{Admit}
use Rattle.path_server.specs.declared.admission.Admit.TheVariants.{Yes, Broken, Wide}
use Rattle.path_server.specs.declared.path_rules.PathRule.{PathRule}
use Rattle.path_server.specs.declared.path_rules.PathRule.TheVariants.{Start, Growth, Service, Ceiling, Floor, Waste, Acceptance, Buffer, Loss, WasteRate}

-- where a rule is asked: at a row, for a flow or, under flow 0, for the path as a whole
pub record RulePlace : Type 0 where
  pub row : ℕ
  pub rule : PathRule
  pub flow : ℕ

abbrev pub at_place : ℕ → PathRule → ℕ → RulePlace
at_place i rule f = record { row = i; rule = rule; flow = f }

abbrev pub rules : List PathRule
rules = Start ∷ Growth ∷ Service ∷ Ceiling ∷ Floor ∷ Waste ∷ Acceptance ∷ Buffer ∷ Loss ∷ WasteRate ∷ []

-- the number that names a rule
abbrev pub number : PathRule → ℕ
number Start = 0
number Growth = 1
number Service = 2
number Ceiling = 3
number Floor = 4
number Waste = 5
number Acceptance = 6
number Buffer = 7
number Loss = 8
number WasteRate = 9

-- the places of a rule at a row, of a row, and of the whole run, in their order
unfoldable pub places_of_rule : Run → ℕ → PathRule → List RulePlace
places_of_rule r i rule = map (at_place i rule) (below (flow_count r 0 + 1))

unfoldable pub places_of_row : Run → ℕ → List RulePlace
places_of_row r i = flat_map (places_of_rule r i) rules

unfoldable pub places : Run → List RulePlace
places r = flat_map (places_of_row r) (below (length r.rows))

-- a place where nothing is amiss is passed; else a weighing overflows there, or the rule is broken
abbrev pub stop_at : RulePlace → Result Bool Stuck → Result (Unit {0}) Admit
stop_at place (Ok true) = Ok tt
stop_at place (Ok false) = Err (Broken (number place.rule) place.row place.flow)
stop_at place (Err stuck) = Err (Wide stuck)

unfoldable pub examined : Path → Run → RulePlace → Result (Unit {0}) Admit
examined p r place = stop_at place (outcome place.row (claim_of p r place.rule place.row place.flow))

abbrev pub answer : Result (Unit {0}) Admit → Admit
answer (Ok _) = Yes
answer (Err stop) = stop

-- what is found first
unfoldable pub admission : Path → Run → Admit
admission p r = answer (first (examined p r) (places r))

-- the first product or sum that overflows in weighing the place's comparisons; and that none does
abbrev pub IsStuckAt : Path → Run → RulePlace → Stuck → Type 0
IsStuckAt p r place stuck = IsFirstOverflow place.row (claim_of p r place.rule place.row place.flow) stuck

abbrev pub NothingOverflowsAt : Path → Run → RulePlace → Type 0
NothingOverflowsAt p r place = NothingOverflowsIn (claim_of p r place.rule place.row place.flow)

abbrev pub HoldsAt : Path → Run → RulePlace → Type 0
HoldsAt p r place = RuleHolds (server_of p) r place.rule place.row place.flow

-- of these places: the rule of that number is broken at row i for flow f; every rule holds at every place before; and
-- nothing overflows at it and before
pub record IsFirstBrokenOf (p : Path) (r : Run) (ps : List RulePlace) (rule i f : ℕ) : Type 0 where
  pub before : List RulePlace
  pub broken : PathRule
  pub after : List RulePlace
  pub numbered : number broken ≡ rule
  pub parts : ps ≡ before ++ at_place i broken f ∷ after
  pub weighed : All (NothingOverflowsAt p r) before
  pub held : All (HoldsAt p r) before
  pub weighed_here : NothingOverflowsAt p r (at_place i broken f)
  pub breaks : RuleHolds (server_of p) r broken i f → ⊥

-- of these places: a weighing is stuck at one; every rule holds at every place before, and nothing overflows there
pub record IsFirstWideOf (p : Path) (r : Run) (ps : List RulePlace) (stuck : Stuck) : Type 0 where
  pub before : List RulePlace
  pub place : RulePlace
  pub after : List RulePlace
  pub parts : ps ≡ before ++ place ∷ after
  pub weighed : All (NothingOverflowsAt p r) before
  pub held : All (HoldsAt p r) before
  pub overflows : IsStuckAt p r place stuck

-- what is found at these places, in their order: nothing where every rule holds and nothing overflows, else what comes first
pub record Finds (p : Path) (r : Run) (ps : List RulePlace) (found : Result (Unit {0}) Admit) : Type 0 where
  pub none : (found ≡ Ok tt) ↔ (All (NothingOverflowsAt p r) ps × All (HoldsAt p r) ps)
  pub broken : (rule i f : ℕ) → (found ≡ Err (Broken rule i f)) ↔ IsFirstBrokenOf p r ps rule i f
  pub wide : (stuck : Stuck) → (found ≡ Err (Wide stuck)) ↔ IsFirstWideOf p r ps stuck
  pub never_yes : found ≡ Err Yes → ⊥

abbrev pub IsFirstBroken : Path → Run → ℕ → ℕ → ℕ → Type 0
IsFirstBroken p r rule i f = IsFirstBrokenOf p r (places r) rule i f

abbrev pub IsFirstWide : Path → Run → Stuck → Type 0
IsFirstWide p r stuck = IsFirstWideOf p r (places r) stuck

-- nothing overflows anywhere
abbrev pub NothingOverflows : Path → Run → Type 0
NothingOverflows p r = All (NothingOverflowsAt p r) (places r)
