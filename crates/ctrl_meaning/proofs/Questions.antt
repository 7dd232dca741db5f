-- What the code asks of a state or a guard is what the definitions ask.
use Rattle.weighing.specs.Weighed.{times}
use Rattle.claims.specs.Subjects.{in_run}
use Rattle.std.proofs.Common.{◌≡◌, ℕ, ◌-◌, ◌<◌, ◌≤◌, ℤ, Bool, true, Option, Some, None, Result, Ok, Err, List, get_or, length, refl, ◌∙◌, ap, arith}
use Rattle.std.proofs.lemmas.List.{get_or_default, get_or_read}
use Rattle.whole.specs.declared.answers.Stuck.{Stuck}
use Rattle.weighing.specs.Queries.{asked}
use Rattle.weighing.specs.Claim.{all_claims, outcome}
use Rattle.weighing.proofs.QueryLaws.{first_wanted}
use Rattle.run_rows.specs.Runs.{IsEntry, state_of}
use Rattle.run_rows.specs.declared.rows.Run.{Run}
use Rattle.ctrl_types.specs.Limits.{no_rule, rule_of}
use Rattle.ctrl_types.specs.Tests.{test_of}
use Rattle.ctrl_types.specs.declared.controllers.Controller.{Controller}
use Rattle.ctrl_types.specs.declared.controllers.Rule.{Rule}
use Rattle.ctrl_types.specs.declared.controllers.State.{State}
use Rattle.ctrl_types.specs.declared.expressions.Lin.{Lin}
use Rattle.ctrl_meaning.specs.Guards.{test_claim}
use Rattle.ctrl_meaning.specs.Opening.{declared_state, no_state, range_claims, state_in_range}
use Rattle.ctrl_meaning.specs.Steps.{fired, firing, guard_outcome, set_claim, set_outcome}
use Rattle.ctrl_meaning.specs.declared.readings.ReadPoint.{ReadPoint}
use Rattle.claim_values.proofs.Sums.{entry_is, given}

-- what stands at a place of a list, whatever stands for a place past its end
read_of : {X : Type 0} (xs ys : List X) (k : ℕ) (x d : X) → xs ≡ ys → k < length xs → x ≡ get_or xs k x → x ≡ get_or ys k d
read_of xs ys k x d same inside is = get_or_read xs k x inside is d ∙ ap (λ zs. get_or zs k d) same

pub range_asked : (c : Controller) (r : Run) (row flow k : ℕ) (ss : List State) (s : State) (x : ℤ) (t : Result Bool Stuck)
    → ss ≡ c.states → k < length ss → s ≡ get_or ss k s → IsEntry x → x ≡ state_of r row flow k → IsEntry r.over
    → t ≡ outcome row (all_claims (range_claims times s (given x) (given r.over))) → t ≡ state_in_range c r row flow k
range_asked c r row flow k ss s x t same inside is small value over asks =
    asks
    ∙ ap (λ a. outcome row (all_claims (range_claims times a (given x) (given r.over)))) (read_of ss c.states k s no_state same inside is)
    ∙ ap (λ a. outcome row (all_claims (range_claims times (declared_state c k) a (given r.over)))) (entry_is x (state_of r row flow k) small value)
    ∙ ap (λ a. outcome row (all_claims (range_claims times (declared_state c k) (state_of r row flow k) a))) (entry_is r.over r.over over refl)

pub guard_asked : (c : Controller) (r : Run) (at : ReadPoint) (k : ℕ) (rs : List Rule) (d : Rule) (t : Result Bool Stuck)
    → rs ≡ c.rules → k < length rs → t ≡ outcome at.row (test_claim (in_run r) at (test_of (get_or rs k d).guard)) → t ≡ guard_outcome c r at k
guard_asked c r at k rs d t same inside asks =
    asks
    ∙ ap (λ (a : Rule). outcome at.row (test_claim (in_run r) at (test_of a.guard)))
    (get_or_default rs k d no_rule inside ∙ ap (λ zs. get_or zs k no_rule) same)

pub sets_are : (c : Controller) (k : ℕ) (rs : List Rule) (d : Rule) (sets : List (Option Lin))
    → rs ≡ c.rules → k < length rs → sets ≡ (get_or rs k d).sets → sets ≡ (rule_of c k).sets
sets_are c k rs d sets same inside is =
    is ∙ ap (λ (a : Rule). a.sets) (get_or_default rs k d no_rule inside ∙ ap (λ zs. get_or zs k no_rule) same)

pub set_asked : (c : Controller) (r : Run) (at : ReadPoint) (k j : ℕ) (rs : List Rule) (d : Rule) (sets : List (Option Lin)) (set : Option Lin)
    (t : Result Bool Stuck) → rs ≡ c.rules → k < length rs → sets ≡ (get_or rs k d).sets → j < length sets → set ≡ get_or sets j set
    → t ≡ outcome at.row (set_claim (in_run r) at j set) → t ≡ set_outcome c r at k j
set_asked c r at k j rs d sets set t same inside is among here asks =
    asks ∙ ap (λ a. outcome at.row (set_claim (in_run r) at j a)) (read_of sets (rule_of c k).sets j set None (sets_are c k rs d sets same inside is) among here)

fired_among : (last n k : ℕ) (q : ℕ → Result Bool Stuck) (found : Result (Option ℕ) Stuck) → last < n
    → asked true q n ≡ found → firing last found ≡ Ok k → k < n
fired_among last n k q (Err stuck) less is fires = absurd (cc)
fired_among last n k q (Ok None) less is fires = let same : last ≡ k = cc in omega arith
fired_among last n k q (Ok (Some j)) less is fires =
    let same : j ≡ k = cc in
    let inside = (first_wanted true q n j is).within in omega arith

-- the rule that fires is one of the controller's
pub fired_within : (c : Controller) (r : Run) (at : ReadPoint) (k : ℕ) → 1 ≤ length c.rules → fired c r at ≡ Ok k → k < length c.rules
unfolding fired
fired_within c r at k some fires =
    fired_among (length c.rules - 1) (length c.rules) k (guard_outcome c r at) (asked true (guard_outcome c r at) (length c.rules))
    (omega arith) refl fires
