-- The comparisons of the path rules, in their written order, with the relation to zero in which each sum has to stand.
-- They are stated for any way `term` of making a term of a coefficient and a subject, and for n flows.
-- Coefficients are whole: a comparison is multiplied with the least common multiple of the denominators of its constants.
use Rattle.std.specs.Prelude.{ℕ, ◌-◌, ◌==◌, nat_lt, ◌/◌, if◌then◌else◌, ℤ, pos, negsuc, neg_ℤ, ◌-ℤ◌, ◌*ℤ◌, unsigned_abs, Option, Some, None, List, [], ◌∷◌, ◌++◌}
use Rattle.whole.specs.Numbers.{lcm_of}
use Rattle.whole.specs.declared.answers.Pair.{Pair}
use Rattle.condition_tree.specs.Trees.{any_of}
use Rattle.weighing.specs.Claim.{Claim, Claims, all_claims, compare}
use Rattle.weighing.specs.declared.weighings.Rel5.TheVariants.{AtMost, AtLeast, Equal}
use Rattle.claims.specs.Subjects.{Subject, constant, of_credit, of_waste, of_arrivals, of_service, of_losses, each_flow, in_run}
use Rattle.run_rows.specs.Runs.{flow_count}
use Rattle.run_rows.specs.declared.rows.Run.{Run}
use Rattle.path_server.specs.Servers.{Server, server_of}
use Rattle.path_server.specs.declared.settings.Path.{Path}
use Rattle.path_server.specs.declared.path_rules.PathRule.{PathRule}
use Rattle.path_server.specs.declared.path_rules.PathRule.TheVariants.{Start, Growth, Service, Ceiling, Floor, Waste, Acceptance, Buffer, Loss, WasteRate}

-- by what a comparison's entries, its multiples of the rate and its multiples of the buffer are multiplied;
-- `minus` is the entries' factor with the sign turned
pub record Factors : Type 0 where
  pub unit : ℤ
  pub minus : ℤ
  pub rate : ℤ
  pub buffer : ℤ

-- the rate alone has a denominator
abbrev pub rate_scale : Server → Factors
rate_scale p = record { unit = p.rate.den; minus = neg_ℤ p.rate.den; rate = pos 1; buffer = pos 0 }

-- both the rate and the buffer have one
abbrev pub common_scale : Server → Pair → Factors
common_scale p b =
    let m = lcm_of (unsigned_abs p.rate.den) (unsigned_abs b.den) in
    record { unit = pos m; minus = neg_ℤ (pos m); rate = pos (m / unsigned_abs p.rate.den); buffer = pos (m / unsigned_abs b.den) }

-- the factors of the negated terms
abbrev pub opposite : Factors → Factors
opposite s = record { unit = s.minus; minus = s.unit; rate = neg_ℤ s.rate; buffer = neg_ℤ s.buffer }

-- C*(i - d) + Q0 - W(max(i - d, 0)), the most that may have been served d rows before row i
abbrev pub allowance : {T : Type 0} → (ℤ → Subject → T) → Server → Factors → ℕ → ℕ → List T
allowance term p s i d =
    term ((p.rate.num *ℤ (pos i -ℤ pos d)) *ℤ s.rate) constant
    ∷ term s.unit of_credit
    ∷ term s.minus (of_waste (i - d)) ∷ []

-- B
abbrev pub room : {T : Type 0} → (ℤ → Subject → T) → Pair → Factors → List T
room term b s = term (b.num *ℤ s.buffer) constant ∷ []

-- sum S_f(i)
abbrev pub service : {T : Type 0} → (ℤ → Subject → T) → ℕ → Factors → ℕ → List T
service term n s i = each_flow (λ f. term s.unit (of_service i f) ∷ []) n

-- sum (A_f(i) - L_f(i))
abbrev pub accepted : {T : Type 0} → (ℤ → Subject → T) → ℕ → Factors → ℕ → List T
accepted term n s i = each_flow (λ f. term s.unit (of_arrivals i f) ∷ term s.minus (of_losses i f) ∷ []) n

-- sum (L_f(i) - L_f(h)), h being the row before
abbrev pub new_losses : {T : Type 0} → (ℤ → Subject → T) → ℕ → ℕ → ℕ → List T
new_losses term n i h = each_flow (λ f. term (pos 1) (of_losses i f) ∷ term (negsuc 0) (of_losses h f) ∷ []) n

-- x is 0; is at least 0; doesn't fall from x to y
abbrev pub is_zero : {S T : Type 0} → (ℤ → S → T) → S → Claims T
is_zero term x = compare (term (pos 1) x ∷ []) Equal

abbrev pub not_negative : {S T : Type 0} → (ℤ → S → T) → S → Claims T
not_negative term x = compare (term (pos 1) x ∷ []) AtLeast

abbrev pub no_fall : {S T : Type 0} → (ℤ → S → T) → S → S → Claims T
no_fall term x y = compare (term (pos 1) y ∷ term (negsuc 0) x ∷ []) AtLeast

-- ---- each rule as the list of its claims at row i for flow f, or, under flow 0, for the path as a whole

unfoldable pub start_claims : {T : Type 0} → (ℤ → Subject → T) → ℕ → ℕ → List (Claims T)
start_claims term i f =
    if nat_lt 0 i then []
    else if f == 0 then is_zero term (of_waste 0) ∷ not_negative term of_credit ∷ []
    else is_zero term (of_service 0 f) ∷ is_zero term (of_losses 0 f) ∷ not_negative term (of_arrivals 0 f) ∷ []

unfoldable pub growth_claims : {T : Type 0} → (ℤ → Subject → T) → ℕ → ℕ → List (Claims T)
growth_claims term i f =
    if i == 0 then []
    else if f == 0 then no_fall term (of_waste (i - 1)) (of_waste i) ∷ []
    else no_fall term (of_arrivals (i - 1) f) (of_arrivals i f)
    ∷ no_fall term (of_service (i - 1) f) (of_service i f)
    ∷ no_fall term (of_losses (i - 1) f) (of_losses i f) ∷ []

unfoldable pub service_claims : {T : Type 0} → (ℤ → Subject → T) → ℕ → ℕ → List (Claims T)
service_claims term i f =
    if f == 0 then []
    else compare (term (pos 1) (of_arrivals i f) ∷ term (negsuc 0) (of_losses i f) ∷ term (negsuc 0) (of_service i f) ∷ []) AtLeast ∷ []

unfoldable pub ceiling_claims : {T : Type 0} → (ℤ → Subject → T) → ℕ → Server → ℕ → ℕ → List (Claims T)
ceiling_claims term n p i f =
    if nat_lt 0 f then []
    else compare (allowance term p (rate_scale p) i 0 ++ service term n (opposite (rate_scale p)) i) AtLeast ∷ []

unfoldable pub floor_claims : {T : Type 0} → (ℤ → Subject → T) → ℕ → Server → ℕ → ℕ → List (Claims T)
floor_claims term n p i f =
    if nat_lt 0 f then []
    else compare (service term n (rate_scale p) i ++ allowance term p (opposite (rate_scale p)) i p.jitter) AtLeast ∷ []

-- nothing waits: C*i + Q0 - W(i) - sum (A_f(i) - L_f(i)) >= 0
unfoldable pub nothing_waits : {T : Type 0} → (ℤ → Subject → T) → ℕ → Server → ℕ → Claims T
nothing_waits term n p i = compare (allowance term p (rate_scale p) i 0 ++ accepted term n (opposite (rate_scale p)) i) AtLeast

unfoldable pub waste_claims : {T : Type 0} → (ℤ → Subject → T) → ℕ → Server → ℕ → ℕ → List (Claims T)
waste_claims term n p i f =
    if i == 0 then [] else if nat_lt 0 f then []
    else any_of (compare (term (pos 1) (of_waste i) ∷ term (negsuc 0) (of_waste (i - 1)) ∷ []) AtMost) (nothing_waits term n p i) ∷ []

unfoldable pub acceptance_claims : {T : Type 0} → (ℤ → Subject → T) → ℕ → ℕ → List (Claims T)
acceptance_claims term i f =
    if i == 0 then [] else if f == 0 then []
    else compare (term (pos 1) (of_arrivals i f) ∷ term (negsuc 0) (of_losses i f)
    ∷ term (negsuc 0) (of_arrivals (i - 1) f) ∷ term (pos 1) (of_losses (i - 1) f) ∷ []) AtLeast ∷ []

-- the queue fits: C*i + Q0 - W(i) + B - sum (A_f(i) - L_f(i)) >= 0
unfoldable pub queue_fits : {T : Type 0} → (ℤ → Subject → T) → ℕ → Server → Pair → ℕ → Claims T
queue_fits term n p b i =
    let s = common_scale p b in
    compare ((allowance term p s i 0 ++ room term b s) ++ accepted term n (opposite s) i) AtLeast

unfoldable pub buffer_claims : {T : Type 0} → (ℤ → Subject → T) → ℕ → Server → Option Pair → ℕ → ℕ → List (Claims T)
buffer_claims term n p None i f = []
buffer_claims term n p (Some b) i f = if nat_lt 0 f then [] else queue_fits term n p b i ∷ []

-- the queue was full: sum (A_f(i) - L_f(i)) - C*h - Q0 + W(h) - B >= 0, h being the row before
unfoldable pub queue_was_full : {T : Type 0} → (ℤ → Subject → T) → ℕ → Server → Pair → ℕ → ℕ → Claims T
queue_was_full term n p b i h =
    let s = common_scale p b in
    compare ((accepted term n s i ++ allowance term p (opposite s) h 0) ++ room term b (opposite s)) AtLeast

-- nothing more was lost, or the queue was full
unfoldable pub full_or_none : {T : Type 0} → (ℤ → Subject → T) → ℕ → Server → Option Pair → ℕ → ℕ → Claims T
full_or_none term n p None i h = compare (new_losses term n i h) AtMost
full_or_none term n p (Some b) i h = any_of (compare (new_losses term n i h) AtMost) (queue_was_full term n p b i h)

unfoldable pub loss_claims : {T : Type 0} → (ℤ → Subject → T) → ℕ → Server → Option Pair → ℕ → ℕ → List (Claims T)
loss_claims term n p b i f =
    if i == 0 then [] else if nat_lt 0 f then [] else full_or_none term n p b i (i - 1) ∷ []

unfoldable pub waste_rate_claims : {T : Type 0} → (ℤ → Subject → T) → Server → ℕ → ℕ → List (Claims T)
waste_rate_claims term p i f =
    if i == 0 then [] else if nat_lt 0 f then []
    else compare (term p.rate.num constant ∷ term (neg_ℤ p.rate.den) (of_waste i) ∷ term p.rate.den (of_waste (i - 1)) ∷ []) AtLeast ∷ []

-- what a rule claims at a row for a flow, or, under flow 0, for the path as a whole
abbrev pub rule_claims : {T : Type 0} → (ℤ → Subject → T) → ℕ → Server → PathRule → ℕ → ℕ → List (Claims T)
rule_claims term n p Start i f = start_claims term i f
rule_claims term n p Growth i f = growth_claims term i f
rule_claims term n p Service i f = service_claims term i f
rule_claims term n p Ceiling i f = ceiling_claims term n p i f
rule_claims term n p Floor i f = floor_claims term n p i f
rule_claims term n p Waste i f = waste_claims term n p i f
rule_claims term n p Acceptance i f = acceptance_claims term i f
rule_claims term n p Buffer i f = buffer_claims term n p p.buffer i f
rule_claims term n p Loss i f = loss_claims term n p p.buffer i f
rule_claims term n p WasteRate i f = waste_rate_claims term p i f

-- what is weighed in a run
abbrev pub claim_of : Path → Run → PathRule → ℕ → ℕ → Claim
claim_of p r rule i f = all_claims (rule_claims (in_run r) (flow_count r 0) (server_of p) rule i f)
