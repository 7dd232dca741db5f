-- What the first finding of an examination says of the rules.
use Rattle.std.proofs.Common.{◌≡◌, ◌∙◌, ap, refl, sym, subst, ℕ, zero, suc, List, [], ◌+◌, ◌<◌, ◌≤◌, Bool, true, false, ◌⊎◌, inl, inr, Result, Ok, Err, ◌∷◌, ◌++◌, get_or, length, arith}
use Rattle.std.specs.Prelude.{All, IfErr, flat_map}
use Rattle.std.proofs.lemmas.List.Elements.{All-append, All-from_get_or, All-get_or, All-head, All-map, All-nil, All-push, All-tail, All-weaker}
use Rattle.whole.specs.declared.answers.Stuck.{Stuck}
use Rattle.weighing.specs.First.{IsFirst, and_then, below, first}
use Rattle.weighing.specs.Claim.{outcome}
use Rattle.weighing.proofs.Claims.{outcome_answers}
use Rattle.weighing.proofs.Events.{all_passed, each_passed, first-flat_map, first-map, first_is, first_is_first, passed_below}
use Rattle.run_rows.specs.Runs.{flow_count}
use Rattle.run_rows.specs.declared.rows.Run.{Run}
use Rattle.path_server.specs.Claims.{claim_of}
use Rattle.path_server.specs.Limits.{IsPath}
use Rattle.path_server.specs.Rules.{Admitted}
use Rattle.path_server.specs.Places.{Finds, HoldsAt, IsFirstBroken, IsFirstBrokenOf, IsFirstWide, IsFirstWideOf, IsStuckAt, NothingOverflows, NothingOverflowsAt, RulePlace, admission, answer, at_place, examined, number, places, places_of_row, places_of_rule, rules, stop_at}
use Rattle.path_server.specs.Servers.{server_of}
use Rattle.path_server.specs.declared.settings.Path.{Path}
use Rattle.path_server.specs.declared.admission.Admit.{Admit}
use Rattle.path_server.specs.declared.admission.Admit.TheVariants.{Yes, Broken, Wide}
use Rattle.path_server.specs.declared.path_rules.PathRule.{PathRule}
use Rattle.path_server.specs.declared.path_rules.PathRule.TheVariants.{Start, Growth, Service, Ceiling, Floor, Waste, Acceptance, Buffer, Loss, WasteRate}
use Rattle.path_server.proofs.RuleLaws.{claims_mean_rules}

-- what stopping at a place says of the outcome there
passed_outcome : (place : RulePlace) (o : Result Bool Stuck) → stop_at place o ≡ Ok tt → o ≡ Ok true
passed_outcome place (Ok true) is = refl
passed_outcome place (Ok false) is = absurd (cc)
passed_outcome place (Err stuck) is = absurd (cc)

broken_outcome : (place : RulePlace) (o : Result Bool Stuck) (rule i f : ℕ) → stop_at place o ≡ Err (Broken rule i f)
    → (o ≡ Ok false) × (number place.rule ≡ rule) × (place.row ≡ i) × (place.flow ≡ f)
broken_outcome place (Ok true) rule i f is = absurd (cc)
broken_outcome place (Ok false) rule i f is = (refl, cc, cc, cc)
broken_outcome place (Err stuck) rule i f is = absurd (cc)

wide_outcome : (place : RulePlace) (o : Result Bool Stuck) (stuck : Stuck) → stop_at place o ≡ Err (Wide stuck) → o ≡ Err stuck
wide_outcome place (Ok true) stuck is = absurd (cc)
wide_outcome place (Ok false) stuck is = absurd (cc)
wide_outcome place (Err passing) stuck is = cc

never_yes : (place : RulePlace) (o : Result Bool Stuck) → stop_at place o ≡ Err Yes → ⊥
never_yes place (Ok true) is = cc
never_yes place (Ok false) is = cc
never_yes place (Err stuck) is = cc

-- ---- what a weighing says of its place

abbrev weighed_at : Path → Run → RulePlace → Result Bool Stuck
weighed_at p r place = outcome place.row (claim_of p r place.rule place.row place.flow)

-- what comes of weighing a place's comparisons: its rule holds, or is broken, or a weighing overflows
pub record WeighsAt (p : Path) (r : Run) (place : RulePlace) : Type 0 where
  pub holds : weighed_at p r place ≡ Ok true → NothingOverflowsAt p r place × HoldsAt p r place
  pub holding : NothingOverflowsAt p r place → HoldsAt p r place → weighed_at p r place ≡ Ok true
  pub fails : weighed_at p r place ≡ Ok false → NothingOverflowsAt p r place × (HoldsAt p r place → ⊥)
  pub failing : NothingOverflowsAt p r place → (HoldsAt p r place → ⊥) → weighed_at p r place ≡ Ok false
  pub sticks : (stuck : Stuck) → weighed_at p r place ≡ Err stuck → IsStuckAt p r place stuck
  pub sticking : (stuck : Stuck) → IsStuckAt p r place stuck → weighed_at p r place ≡ Err stuck

pub weighs_at : (p : Path) (r : Run) → IsPath p → (place : RulePlace) → WeighsAt p r place
weighs_at p r path place =
    let says = outcome_answers place.row (claim_of p r place.rule place.row place.flow) in
    let means = claims_mean_rules (server_of p) r place.rule place.row place.flow path in
    record {
      holds = λ is. (let both = says.holds.0 is in (both.0, means.0 both.1));
      holding = λ small holds. says.holds.1 (small, means.1 holds);
      fails = λ is. (let both = says.fails.0 is in (both.0, λ holds. both.1 (means.1 holds)));
      failing = λ small fails. says.fails.1 (small, λ holds. fails (means.0 holds));
      sticks = λ stuck. (says.stuck stuck).0;
      sticking = λ stuck. (says.stuck stuck).1;
    }

-- a place that is passed keeps its rule, and nothing overflows there
kept_at : (p : Path) (r : Run) → IsPath p → (place : RulePlace) → examined p r place ≡ Ok tt → NothingOverflowsAt p r place × HoldsAt p r place
unfolding examined
kept_at p r path place is = (weighs_at p r path place).holds (passed_outcome place (weighed_at p r place) is)

holds_at : (p : Path) (r : Run) → IsPath p → (place : RulePlace) → examined p r place ≡ Ok tt → HoldsAt p r place
holds_at p r path place is = (kept_at p r path place is).1

passes_at : (p : Path) (r : Run) → IsPath p → (place : RulePlace) → NothingOverflowsAt p r place → HoldsAt p r place → examined p r place ≡ Ok tt
unfolding examined
passes_at p r path place small holds = ap (stop_at place) ((weighs_at p r path place).holding small holds)

-- each rule stands in the list under its number
pub listed : (rule : PathRule) → get_or rules (number rule) Start ≡ rule
listed Start = refl
listed Growth = refl
listed Service = refl
listed Ceiling = refl
listed Floor = refl
listed Waste = refl
listed Acceptance = refl
listed Buffer = refl
listed Loss = refl
listed WasteRate = refl

pub number_below : (rule : PathRule) → number rule < length rules
number_below Start = omega arith
number_below Growth = omega arith
number_below Service = omega arith
number_below Ceiling = omega arith
number_below Floor = omega arith
number_below Waste = omega arith
number_below Acceptance = omega arith
number_below Buffer = omega arith
number_below Loss = omega arith
number_below WasteRate = omega arith

-- what stops the rules at places is a broken rule or a stuck weighing
pub stops_law : (p : Path) (r : Run) (ps : List RulePlace) → IfErr (first (examined p r) ps) (λ stop. stop ≡ Yes → ⊥)
unfolding examined
stops_law p r [] = tt
stops_law p r (x ∷ ps) =
    by x (outcome x.row (claim_of p r x.rule x.row x.flow)) (first (examined p r) ps) (stops_law p r ps)
  where
    by : (x : RulePlace) (o : Result Bool Stuck) (u : Result (Unit {0}) Admit) → IfErr u (λ stop. stop ≡ Yes → ⊥)
        → IfErr (and_then (stop_at x o) u) (λ stop. stop ≡ Yes → ⊥)
    by x (Ok true) u rest = rest
    by x (Ok false) u rest = λ is. absurd (cc)
    by x (Err stuck) u rest = λ is. absurd (cc)

-- where nothing is found on a row, every place of the row is passed
every_place_of_row : (p : Path) (r : Run) (i : ℕ) → first (examined p r) (places_of_row r i) ≡ Ok tt → (rule : PathRule) (f : ℕ)
    → f ≤ flow_count r 0 → examined p r (at_place i rule f) ≡ Ok tt
unfolding places_of_row places_of_rule
every_place_of_row p r i none rule f among =
    let each : first (λ k. first (examined p r) (places_of_rule r i k)) rules ≡ Ok tt =
    sym (first-flat_map (examined p r) (places_of_rule r i) rules) ∙ none in
    let Passed : PathRule → Type 0 = λ k. first (examined p r) (places_of_rule r i k) ≡ Ok tt in
    let here : Passed (get_or rules (number rule) Start) =
    All-get_or Passed rules (number rule) Start (number_below rule)
    (each_passed (λ k. first (examined p r) (places_of_rule r i k)) rules each) in
    let mine : Passed rule = subst Passed (listed rule) here in
    let flows : first (λ k. examined p r (at_place i rule k)) (below (flow_count r 0 + 1)) ≡ Ok tt =
    sym (first-map (examined p r) (at_place i rule) (below (flow_count r 0 + 1))) ∙ mine in
    passed_below (λ k. examined p r (at_place i rule k)) f (flow_count r 0 + 1) flows (omega arith)

-- where nothing is found on any row, the path admits the run
pub rows_admit : (p : Path) (r : Run) → IsPath p → ((i : ℕ) → i < length r.rows → first (examined p r) (places_of_row r i) ≡ Ok tt) → Admitted p r
unfolding Admitted
rows_admit p r path none = λ rule i f inside among.
    holds_at p r path (at_place i rule f) (every_place_of_row p r i (none i inside) rule f among)

-- ---- what is found at places

weighed_before : (p : Path) (r : Run) → IsPath p → (ps : List RulePlace) → All (λ place. examined p r place ≡ Ok tt) ps → All (NothingOverflowsAt p r) ps
weighed_before p r path ps passed =
    All-weaker (λ place. examined p r place ≡ Ok tt) (NothingOverflowsAt p r) (λ place is. (kept_at p r path place is).0) ps passed

held_before : (p : Path) (r : Run) → IsPath p → (ps : List RulePlace) → All (λ place. examined p r place ≡ Ok tt) ps → All (HoldsAt p r) ps
held_before p r path ps passed = All-weaker (λ place. examined p r place ≡ Ok tt) (HoldsAt p r) (holds_at p r path) ps passed

passed_before : (p : Path) (r : Run) → IsPath p → (ps : List RulePlace) → All (NothingOverflowsAt p r) ps → All (HoldsAt p r) ps
    → All (λ place. examined p r place ≡ Ok tt) ps
passed_before p r path ps small held = λ k d inside. passes_at p r path (get_or ps k d) (small k d inside) (held k d inside)

broken_of : (p : Path) (r : Run) (ps : List RulePlace) (rule i f : ℕ) → IsPath p → IsFirst (examined p r) ps (Broken rule i f)
    → IsFirstBrokenOf p r ps rule i f
unfolding examined
broken_of p r ps rule i f path one =
    let (fails, named, row, flow) = broken_outcome one.stop (weighed_at p r one.stop) rule i f one.answer in
    let same : one.stop ≡ at_place i one.stop.rule f = same_place one.stop i f row flow in
    let here = subst (λ place. NothingOverflowsAt p r place × (HoldsAt p r place → ⊥)) same ((weighs_at p r path one.stop).fails fails) in
    record {
      before = one.before;
      broken = one.stop.rule;
      after = one.after;
      numbered = named;
      parts = one.parts ∙ ap (λ place. one.before ++ place ∷ one.after) same;
      weighed = weighed_before p r path one.before one.passed;
      held = held_before p r path one.before one.passed;
      weighed_here = here.0;
      breaks = here.1;
    }
  where
    same_place : (place : RulePlace) (i f : ℕ) → place.row ≡ i → place.flow ≡ f → place ≡ at_place i place.rule f
    same_place place i f row flow = ap (λ n. at_place n place.rule place.flow) row ∙ ap (at_place i place.rule) flow

of_broken : (p : Path) (r : Run) (ps : List RulePlace) (rule i f : ℕ) → IsPath p → IsFirstBrokenOf p r ps rule i f
    → IsFirst (examined p r) ps (Broken rule i f)
unfolding examined
of_broken p r ps rule i f path one = record {
  before = one.before;
  stop = at_place i one.broken f;
  after = one.after;
  parts = one.parts;
  passed = passed_before p r path one.before one.weighed one.held;
  answer = ap (stop_at (at_place i one.broken f)) ((weighs_at p r path (at_place i one.broken f)).failing one.weighed_here one.breaks)
      ∙ ap (λ n. let t : Result (Unit {0}) Admit = Err (Broken n i f) in t) one.numbered;
}

wide_of : (p : Path) (r : Run) (ps : List RulePlace) (stuck : Stuck) → IsPath p → IsFirst (examined p r) ps (Wide stuck) → IsFirstWideOf p r ps stuck
unfolding examined
wide_of p r ps stuck path one = record {
  before = one.before;
  place = one.stop;
  after = one.after;
  parts = one.parts;
  weighed = weighed_before p r path one.before one.passed;
  held = held_before p r path one.before one.passed;
  overflows = (weighs_at p r path one.stop).sticks stuck (wide_outcome one.stop (weighed_at p r one.stop) stuck one.answer);
}

of_wide : (p : Path) (r : Run) (ps : List RulePlace) (stuck : Stuck) → IsPath p → IsFirstWideOf p r ps stuck → IsFirst (examined p r) ps (Wide stuck)
unfolding examined
of_wide p r ps stuck path one = record {
  before = one.before;
  stop = one.place;
  after = one.after;
  parts = one.parts;
  passed = passed_before p r path one.before one.weighed one.held;
  answer = ap (stop_at one.place) ((weighs_at p r path one.place).sticking stuck one.overflows);
}

none_yes : (p : Path) (r : Run) (ps : List RulePlace) → IsFirst (examined p r) ps Yes → ⊥
unfolding examined
none_yes p r ps one = never_yes one.stop (weighed_at p r one.stop) one.answer

pub finds_law : (p : Path) (r : Run) (ps : List RulePlace) → IsPath p → Finds p r ps (first (examined p r) ps)
finds_law p r ps path = record {
  none = (
    λ is. (let passed = each_passed (examined p r) ps is in (weighed_before p r path ps passed, held_before p r path ps passed)),
    λ both. all_passed (examined p r) ps (passed_before p r path ps both.0 both.1),
  );
  broken = λ rule i f. (
    λ is. broken_of p r ps rule i f path (first_is_first (examined p r) ps (Broken rule i f) is),
    λ one. first_is (examined p r) ps (Broken rule i f) (of_broken p r ps rule i f path one),
  );
  wide = λ stuck. (
    λ is. wide_of p r ps stuck path (first_is_first (examined p r) ps (Wide stuck) is),
    λ one. first_is (examined p r) ps (Wide stuck) (of_wide p r ps stuck path one),
  );
  never_yes = λ is. none_yes p r ps (first_is_first (examined p r) ps Yes is);
}

-- what holds of each number below n, of each place of several lists, and of one in the midst of a list
pub all_below : (P : ℕ → Type 0) (n : ℕ) → ((k : ℕ) → k < n → P k) → All P (below n)
all_below P zero each = All-nil P
all_below P (suc n) each = All-push P (below n) n (all_below P n (λ k less. each k (omega arith))) (each n (omega arith))

pub all_flat_map : {A B : Type 0} (P : B → Type 0) (g : A → List B) (xs : List A) → All (λ x. All P (g x)) xs → All P (flat_map g xs)
all_flat_map P g [] each = All-nil P
all_flat_map {A} P g (x ∷ xs) each =
    let Each : A → Type 0 = λ y. All P (g y) in
    All-append P (g x) (flat_map g xs) (All-head Each x xs each) (all_flat_map P g xs (All-tail Each x xs each))

pub all_amid : {A : Type 0} (P : A → Type 0) (before : List A) (x : A) (after : List A) → All P (before ++ x ∷ after) → P x
all_amid P [] x after each = All-head P x after each
all_amid P (y ∷ before) x after each = all_amid P before x after (All-tail P y (before ++ x ∷ after) each)

-- a run that the path admits keeps each rule at each place of a row, and so at each that is examined
pub holds_on_row : (p : Path) (r : Run) (i : ℕ) → Admitted p r → i < length r.rows → All (HoldsAt p r) (places_of_row r i)
unfolding Admitted places_of_row places_of_rule
holds_on_row p r i admitted inside =
    all_flat_map (HoldsAt p r) (places_of_rule r i) rules
    (All-from_get_or (λ rule. All (HoldsAt p r) (places_of_rule r i rule)) rules Start (λ k _.
    All-map (HoldsAt p r) (at_place i (get_or rules k Start)) (below (flow_count r 0 + 1))
    (all_below (λ f. HoldsAt p r (at_place i (get_or rules k Start) f)) (flow_count r 0 + 1) (λ f among.
    admitted (get_or rules k Start) i f inside (omega arith)))))

holds_everywhere : (p : Path) (r : Run) → Admitted p r → All (HoldsAt p r) (places r)
unfolding places
holds_everywhere p r admitted =
    all_flat_map (HoldsAt p r) (places_of_row r) (below (length r.rows))
    (all_below (λ i. All (HoldsAt p r) (places_of_row r i)) (length r.rows) (λ i inside. holds_on_row p r i admitted inside))

-- ---- what is answered

found_none : (t : Result (Unit {0}) Admit) → (t ≡ Err Yes → ⊥) → answer t ≡ Yes → t ≡ Ok tt
found_none (Ok _) never answered = refl
found_none (Err stop) never answered = absurd (never (ap Err answered))

found_stop : (t : Result (Unit {0}) Admit) (stop : Admit) → answer t ≡ stop → (stop ≡ Yes → ⊥) → t ≡ Err stop
found_stop (Ok _) stop is not = absurd (not (sym is))
found_stop (Err other) stop is not = ap Err is

finds_all : (p : Path) (r : Run) → IsPath p → Finds p r (places r) (first (examined p r) (places r))
finds_all p r path = finds_law p r (places r) path

rows_of_places : (p : Path) (r : Run) → first (examined p r) (places r) ≡ Ok tt → (i : ℕ) → i < length r.rows
    → first (examined p r) (places_of_row r i) ≡ Ok tt
unfolding places
rows_of_places p r none i inside =
    passed_below (λ k. first (examined p r) (places_of_row r k)) i (length r.rows)
    (sym (first-flat_map (examined p r) (places_of_row r) (below (length r.rows))) ∙ none) inside

pub admitted_law : (p : Path) (r : Run) → IsPath p → admission p r ≡ Yes → Admitted p r
unfolding admission
admitted_law p r path answered =
    rows_admit p r path (rows_of_places p r (found_none (first (examined p r) (places r)) (finds_all p r path).never_yes answered))

pub weighed_law : (p : Path) (r : Run) → IsPath p → admission p r ≡ Yes → NothingOverflows p r
unfolding admission
weighed_law p r path answered =
    let all = finds_all p r path in (all.none.0 (found_none (first (examined p r) (places r)) all.never_yes answered)).0

pub broken_law : (p : Path) (r : Run) (rule i f : ℕ) → IsPath p → admission p r ≡ Broken rule i f → IsFirstBroken p r rule i f
unfolding admission
broken_law p r rule i f path is =
    ((finds_all p r path).broken rule i f).0 (found_stop (first (examined p r) (places r)) (Broken rule i f) is (λ wrong. cc))

pub broken_found_law : (p : Path) (r : Run) (rule i f : ℕ) → IsPath p → IsFirstBroken p r rule i f → admission p r ≡ Broken rule i f
unfolding admission
broken_found_law p r rule i f path one = ap answer (((finds_all p r path).broken rule i f).1 one)

pub wide_law : (p : Path) (r : Run) (stuck : Stuck) → IsPath p → admission p r ≡ Wide stuck → IsFirstWide p r stuck
unfolding admission
wide_law p r stuck path is =
    ((finds_all p r path).wide stuck).0 (found_stop (first (examined p r) (places r)) (Wide stuck) is (λ wrong. cc))

pub wide_found_law : (p : Path) (r : Run) (stuck : Stuck) → IsPath p → IsFirstWide p r stuck → admission p r ≡ Wide stuck
unfolding admission
wide_found_law p r stuck path one = ap answer (((finds_all p r path).wide stuck).1 one)

-- nothing is found in a run that the path admits where no weighing is stuck
pub complete_law : (p : Path) (r : Run) → IsPath p → Admitted p r → NothingOverflows p r → admission p r ≡ Yes
unfolding admission
complete_law p r path admitted small = ap answer ((finds_all p r path).none.1 (small, holds_everywhere p r admitted))

-- and no rule is found to be broken in it in any case
pub admitted_found_law : (p : Path) (r : Run) → IsPath p → Admitted p r → (admission p r ≡ Yes) ⊎ ((stuck : Stuck) × (admission p r ≡ Wide stuck))
admitted_found_law p r path admitted = by (admission p r) refl
  where
    by : (a : Admit) → admission p r ≡ a → (a ≡ Yes) ⊎ ((stuck : Stuck) × (a ≡ Wide stuck))
    by Yes is = inl refl
    by (Broken rule i f) is =
        let one = broken_law p r rule i f path is in
        absurd (one.breaks (all_amid (HoldsAt p r) one.before (at_place i one.broken f) one.after
        (subst (All (HoldsAt p r)) one.parts (holds_everywhere p r admitted))))
    by (Wide stuck) is = inr (stuck, refl)
