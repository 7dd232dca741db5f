use Rattle.std.proofs.Common.{◌≡◌, ◌∙◌, ap, sym, ℕ, ◌-◌, nat_eq, false, if◌then◌else◌, List, [], ◌∷◌}
use Rattle.std.proofs.Common.{arith}
use Rattle.std.proofs.lemmas.Bool.Decides.{nat_tests}
use Rattle.weighing.specs.Claim.{Claim, all_claims, outcome}
use Rattle.weighing.specs.Weighed.{times}
use Rattle.claims.specs.Subjects.{in_run}
use Rattle.run_rows.specs.Runs.{flow_of, waste}
use Rattle.run_rows.specs.declared.rows.FlowRow.{FlowRow}
use Rattle.run_rows.specs.declared.rows.Run.{Run}
use Rattle.path_server.specs.Claims.{growth_claims, no_fall}
use Rattle.path_server.proofs.flow_rules.growth.Goals as goal

nonzero : (n : ℕ) → (n ≡ 0 → ⊥) → nat_eq n 0 ≡ false
nonzero n some = grind (arith, nat_tests, some)

-- what the rule claims of the waste, and of a flow whose rows are these
abbrev path_claims : Run → ℕ → List Claim
path_claims r i = no_fall times (waste r (i - 1)) (waste r i) ∷ []

abbrev flow_claims : FlowRow → FlowRow → List Claim
flow_claims old new = no_fall times old.a new.a ∷ no_fall times old.s new.s ∷ no_fall times old.l new.l ∷ []

later : (r : Run) (i f : ℕ) → (i ≡ 0 → ⊥) → growth_claims (in_run r) i f
    ≡ (if nat_eq f 0 then path_claims r i else flow_claims (flow_of r (i - 1) f) (flow_of r i f))
unfolding growth_claims
later r i f some =
    ap (λ t. if t then [] else if nat_eq f 0 then path_claims r i else flow_claims (flow_of r (i - 1) f) (flow_of r i f)) (nonzero i some)

of_path : (r : Run) (i f : ℕ) → (i ≡ 0 → ⊥) → f ≡ 0 → growth_claims (in_run r) i f ≡ path_claims r i
of_path r i f some none =
    later r i f some ∙ ap (λ n. if nat_eq n 0 then path_claims r i else flow_claims (flow_of r (i - 1) n) (flow_of r i n)) none

of_flow : (r : Run) (i f : ℕ) (old new : FlowRow) → (i ≡ 0 → ⊥) → (f ≡ 0 → ⊥)
    → old ≡ flow_of r (i - 1) f → new ≡ flow_of r i f → flow_claims old new ≡ growth_claims (in_run r) i f
of_flow r i f old new some one is_old is_new =
    ap (λ o. flow_claims o new) is_old ∙ ap (flow_claims (flow_of r (i - 1) f)) is_new
    ∙ sym (later r i f some ∙ ap (λ t. if t then path_claims r i else flow_claims (flow_of r (i - 1) f) (flow_of r i f)) (nonzero f one))

pub returns-then-flow-eq0 : goal.returns-then-flow-eq0
returns-then-flow-eq0 c =
    c.path_grows.ensures ∙ ap (λ cs. outcome c.args.row (all_claims cs))
    (sym (of_path c.args.run.now c.args.row c.args.flow c.if-row-eq0.false c.if-flow-eq0.true))

pub returns : goal.returns
returns c =
    c.flow_grows.ensures ∙ ap (λ cs. outcome c.args.row (all_claims cs))
    (of_flow c.args.run.now c.args.row c.args.flow c.flow.result.now c.flow-2.result.now
    c.if-row-eq0.false c.if-flow-eq0.false c.flow.ensures.value c.flow-2.ensures.value)
