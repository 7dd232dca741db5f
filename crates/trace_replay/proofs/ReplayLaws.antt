-- What the answer of a replay says of the run.
use Rattle.std.proofs.Common.{◌≡◌, ℕ, ◌+◌, ◌-◌, ◌<◌, ◌≤◌, ◌⊎◌, inl, inr, Bool, true, false, Result, Ok, Err, List, [], ◌∷◌, ◌++◌, map, get_or, length, refl, sym, ◌∙◌, ap, subst, arith}
use Rattle.std.specs.Prelude.{All}
use Rattle.std.proofs.lemmas.Bool.Decides.{not_from_Decides}
use Rattle.std.specs.Bool.{Decides}
use Rattle.std.proofs.lemmas.List.Elements.{All-cons, All-head, All-nil, All-tail}
use Rattle.whole.specs.declared.answers.Stuck.{Stuck}
use Rattle.weighing.specs.First.{and_then, below, first}
use Rattle.weighing.proofs.Events.{all_passed, cases_ok, each_passed, first-append, first-flat_map, first_is, first_is_first, passed_below}
use Rattle.run_rows.specs.Fitting.{has_shape}
use Rattle.run_rows.specs.Runs.{Bounded}
use Rattle.run_rows.specs.declared.rows.Run.{Run}
use Rattle.run_rows.proofs.Shaped.{has_shape_decides}
use Rattle.path_server.specs.Limits.{IsSetting}
use Rattle.path_server.specs.Places.{places_of_row as rules_of_row}
use Rattle.path_server.specs.Shapes.{shape_of}
use Rattle.path_server.proofs.AdmissionLaws.{all_amid, rows_admit}
use Rattle.ctrl_types.specs.Limits.{IsController}
use Rattle.ctrl_types.specs.declared.controllers.Controller.{Controller}
use Rattle.ctrl_meaning.specs.Limits.{FitsBoth}
use Rattle.ctrl_meaning.specs.Opening.{opening_row}
use Rattle.question_text.specs.Meaning.{Violates}
use Rattle.question_text.specs.Violation.{violation}
use Rattle.question_text.specs.declared.questions.Question.{Question}
use Rattle.question_text.proofs.Laws as questions
use Rattle.trace_replay.specs.Replaying.{ReplayPlace, fits, obeys, opens, steps, sends, answer, broken_at, each_flow, found, of_question, places, places_of_flows, places_of_row, places_of_rows, replaying, stop_at, weighed_at}
use Rattle.ctrl_meaning.specs.RunOf.{RunOf}
use Rattle.trace_replay.specs.Meaning.{HoldsAt, IsFirstBroken, IsFirstWide, IsStuckAt, IsStuckInRun, NothingOverflows, NothingOverflowsAt, NothingOverflowsInRun}
use Rattle.trace_replay.specs.declared.replaying.RunRule.{RunRule}
use Rattle.trace_replay.specs.declared.replaying.RunRule.TheVariants.{Shape as HasShape}
use Rattle.trace_replay.specs.declared.replaying.Replayed.{Replayed}
use Rattle.trace_replay.specs.declared.replaying.Replayed.TheVariants.{Violating, Keeps, Broken, Wide}
use Rattle.trace_replay.proofs.ReplayOrder.{each_is, rules_passed}
use Rattle.trace_replay.proofs.PlaceLaws.{IsGiven, IsPlace, IsReadable, WeighsAt, after_opening, held_everywhere, on_opening, places_are, weighs_at}

-- ---- where every place of the rows is passed, the run is one of the controller's

flows_part : (c : Controller) (q : Question) (r : Run) (i : ℕ) → first (found c q r) (places_of_row c q r i) ≡ Ok tt
    → (first (found c q r) (map obeys (rules_of_row r i)) ≡ Ok tt)
    × (first (found c q r) (places_of_flows (opening_row c q.setting) q.setting.flows i) ≡ Ok tt)
unfolding places_of_row
flows_part c q r i none =
    let rules_first : List ReplayPlace = map obeys (rules_of_row r i) in
    let flows_then : List ReplayPlace = places_of_flows (opening_row c q.setting) q.setting.flows i in
    cases_ok (first (found c q r) rules_first) (first (found c q r) flows_then)
    (sym (first-append (found c q r) rules_first flows_then) ∙ none)

-- a flow's place among those of all flows
flow_passed : (c : Controller) (q : Question) (r : Run) (place : ℕ → ReplayPlace) (n f : ℕ) → first (found c q r) (each_flow place n) ≡ Ok tt
    → 1 ≤ f → f ≤ n → found c q r (place f) ≡ Ok tt
flow_passed c q r place n f none from to =
    let same : f - 1 + 1 ≡ f = omega arith in
    subst (λ k. found c q r (place k) ≡ Ok tt) same
    (passed_below (λ k. found c q r (place (k + 1))) (f - 1) n (sym (each_is c q r place n) ∙ none) (omega arith))

passed_weighs : (broken : Replayed) (o : Result Bool Stuck) → stop_at broken o ≡ Ok tt → o ≡ Ok true
passed_weighs broken (Ok true) is = refl
passed_weighs broken (Ok false) is = absurd (cc)
passed_weighs broken (Err stuck) is = absurd (cc)

module _ (c : Controller) (q : Question) (r : Run) (given : IsGiven c q r) where
  kept : (place : ReplayPlace) → IsPlace c q place → found c q r place ≡ Ok tt → NothingOverflowsAt c q r place × HoldsAt c q r place
  unfolding found
  kept place is passed = (weighs_at c q r given place is).holds (passed_weighs (broken_at c q place) (weighed_at c q r place) passed)

  overflows : (place : ReplayPlace) → IsPlace c q place → NothingOverflowsAt c q r place → HoldsAt c q r place → found c q r place ≡ Ok tt
  unfolding found
  overflows place is small holds = ap (stop_at (broken_at c q place)) ((weighs_at c q r given place is).holding small holds)

passed_holds : (c : Controller) (q : Question) (r : Run) → IsGiven c q r → (place : ReplayPlace) → IsPlace c q place
    → found c q r place ≡ Ok tt → HoldsAt c q r place
passed_holds c q r given place is passed = (kept c q r given place is passed).1

run_passed : (c : Controller) (q : Question) (r : Run) → IsGiven c q r → first (found c q r) (places_of_rows c q r) ≡ Ok tt → RunOf c q.setting r
unfolding places_of_rows
run_passed c q r given none =
    let h : ℕ = opening_row c q.setting in
    let n : ℕ = q.setting.flows in
    let count = given.shaped.shaped.row_count in
    let row : (i : ℕ) → i < length r.rows → first (found c q r) (places_of_row c q r i) ≡ Ok tt =
    λ i inside.
    passed_below (λ k. first (found c q r) (places_of_row c q r k)) i (length r.rows)
    (sym (first-flat_map (found c q r) (places_of_row c q r) (below (length r.rows))) ∙ none) inside in
    record {
      free = record {
        shaped = given.shaped.shaped;
        admitted = rows_admit q.setting.path r given.setting_in.path (λ i inside.
            rules_passed c q r (rules_of_row r i) (flows_part c q r i (row i inside)).0);
        stepped = λ i controlled f from to.
            let at : IsReadable c q.setting i f = record { controlled = controlled; from = from; to = to } in
            let last = controlled.within in
            let both = cases_ok (first (found c q r) (each_flow (steps i) n)) (first (found c q r) (each_flow (sends i) n))
            (sym (first-append (found c q r) (each_flow (steps i) n) (each_flow (sends i) n))
            ∙ subst (λ ps. first (found c q r) ps ≡ Ok tt) (after_opening h n i controlled.after_opening)
            (flows_part c q r i (row i (omega arith))).1) in
            let stepped = passed_holds c q r given (steps i f) at (flow_passed c q r (steps i) n f both.0 from to) in (
              stepped.0,
              record {
                steps = stepped.1;
                sends = passed_holds c q r given (sends i f) at (flow_passed c q r (sends i) n f both.1 from to);
              },
            );
      };
      opened = λ f from to.
          passed_holds c q r given (opens f) tt
          (flow_passed c q r opens n f
          (subst (λ ps. first (found c q r) ps ≡ Ok tt) (on_opening h n h refl) (flows_part c q r h (row h (omega arith))).1) from to);
    }

-- ---- where a place isn't passed

-- the first place that isn't: what is asked there doesn't hold, or its weighing is stuck; nothing overflows before
record Stops (c : Controller) (q : Question) (r : Run) (stop : Replayed) : Type 0 where
  before : List ReplayPlace
  place : ReplayPlace
  after : List ReplayPlace
  parts : places c q r ≡ before ++ place ∷ after
  weighed : All (NothingOverflowsAt c q r) before
  held : All (HoldsAt c q r) before
  why : ((broken_at c q place ≡ stop) × NothingOverflowsAt c q r place × (HoldsAt c q r place → ⊥))
      ⊎ ((stuck : Stuck) × (Wide stuck ≡ stop) × IsStuckAt c q r place stuck)

stopped_weighs : (broken stop : Replayed) (o : Result Bool Stuck) → stop_at broken o ≡ Err stop
    → ((broken ≡ stop) × (o ≡ Ok false)) ⊎ ((stuck : Stuck) × (Wide stuck ≡ stop) × (o ≡ Err stuck))
stopped_weighs broken stop (Ok true) is = absurd (cc)
stopped_weighs broken stop (Ok false) is = inl (cc, refl)
stopped_weighs broken stop (Err stuck) is = inr (stuck, cc, refl)

front_of : {A : Type 0} (P : A → Type 0) (xs ys : List A) → All P (xs ++ ys) → All P xs
front_of P [] ys each = All-nil P
front_of P (x ∷ xs) ys each = All-cons P x xs (All-head P x (xs ++ ys) each) (front_of P xs ys (All-tail P x (xs ++ ys) each))

rows_stop : (c : Controller) (q : Question) (r : Run) (stop : Replayed) → IsGiven c q r
    → first (found c q r) (places_of_rows c q r) ≡ Err stop → Stops c q r stop
unfolding found
rows_stop c q r stop given stops =
    let one = first_is_first (found c q r) (places_of_rows c q r) stop stops in
    let all : All (IsPlace c q) (one.before ++ one.stop ∷ one.after) = subst (All (IsPlace c q)) one.parts (places_are c q r given.shaped.shaped) in
    let front = front_of (IsPlace c q) one.before (one.stop ∷ one.after) all in
    let here = weighs_at c q r given one.stop (all_amid (IsPlace c q) one.before one.stop one.after all) in
    record {
      before = fits ∷ one.before;
      place = one.stop;
      after = one.after;
      parts = ap (λ ps. fits ∷ ps) one.parts;
      weighed = All-cons (NothingOverflowsAt c q r) fits one.before tt (λ k d inside.
          (kept c q r given (get_or one.before k d) (front k d inside) (one.passed k d inside)).0);
      held = All-cons (HoldsAt c q r) fits one.before given.shaped (λ k d inside.
          (kept c q r given (get_or one.before k d) (front k d inside) (one.passed k d inside)).1);
      why = elim (stopped_weighs (broken_at c q one.stop) stop (weighed_at c q r one.stop) one.answer) [
        | inl fails ↦ let both = here.fails fails.1 in inl (fails.0, both.0, both.1)
        | inr stuck ↦ inr (stuck.0, stuck.1, here.sticks stuck.0 stuck.2)
      ];
    }

-- ---- what is found, of a controller and a question within their limits

abbrev Finds : Controller → Question → Run → Result (Unit {0}) Replayed → Type 0
Finds c q r (Ok _) = RunOf c q.setting r × Bounded r × NothingOverflowsInRun c q r
Finds c q r (Err stop) = Stops c q r stop

all_weighed : (c : Controller) (q : Question) (r : Run) → IsGiven c q r → first (found c q r) (places_of_rows c q r) ≡ Ok tt
    → NothingOverflowsInRun c q r
all_weighed c q r given none =
    let passed = each_passed (found c q r) (places_of_rows c q r) none in
    let all = places_are c q r given.shaped.shaped in
    All-cons (NothingOverflowsAt c q r) fits (places_of_rows c q r) tt (λ k d inside.
    (kept c q r given (get_or (places_of_rows c q r) k d) (all k d inside) (passed k d inside)).0)

rows_find : (c : Controller) (q : Question) (r : Run) → IsGiven c q r → (t : Result (Unit {0}) Replayed)
    → first (found c q r) (places_of_rows c q r) ≡ t → Finds c q r t
rows_find c q r given (Ok _) is = (run_passed c q r given is, given.shaped.bounded, all_weighed c q r given is)
rows_find c q r given (Err stop) is = rows_stop c q r stop given is

-- the shape comes before the rows
first_fits : (c : Controller) (q : Question) (r : Run) (b : Bool) → has_shape (shape_of q.setting (length c.states) c.delay_max) r ≡ b
    → first (found c q r) (places c q r) ≡ and_then (stop_at (Broken HasShape 0 0) (Ok b)) (first (found c q r) (places_of_rows c q r))
unfolding found weighed_at
first_fits c q r b is =
    ap (λ t. and_then (stop_at (Broken HasShape 0 0) (Ok t)) (first (found c q r) (places_of_rows c q r))) is

same_parts : {A : Type 0} (x y : A) (xs ys : List A) → x ∷ xs ≡ y ∷ ys → (x ≡ y) × (xs ≡ ys)
same_parts x y xs ys same = (cc, cc)

module _ (c : Controller) (q : Question) (r : Run) (is : IsController c) (set : IsSetting q.setting) where
  abbrev shape_test : Bool
  shape_test = has_shape (shape_of q.setting (length c.states) c.delay_max) r

  shape_decides : Decides shape_test (FitsBoth c q.setting r)
  shape_decides = has_shape_decides (shape_of q.setting (length c.states) c.delay_max) r

  given_of : FitsBoth c q.setting r → IsGiven c q r
  given_of shaped = record { controller_in = is; setting_in = set; shaped = shaped }

  finds : Finds c q r (first (found c q r) (places c q r))
  finds = by shape_test refl
    where
      by : (b : Bool) → shape_test ≡ b → Finds c q r (first (found c q r) (places c q r))
      by false not =
          subst (Finds c q r) (sym (first_fits c q r false not)) (record {
            before = [];
            place = fits;
            after = places_of_rows c q r;
            parts = refl;
            weighed = All-nil (NothingOverflowsAt c q r);
            held = All-nil (HoldsAt c q r);
            why = inl (refl, tt, not_from_Decides shape_test shape_decides not);
          })
      by true shaped =
          subst (Finds c q r) (sym (first_fits c q r true shaped))
          (rows_find c q r (given_of (shape_decides.0 shaped)) (first (found c q r) (places_of_rows c q r)) refl)

  -- a run of the controller in which nothing overflows is passed at every place
  run_passes : FitsBoth c q.setting r → RunOf c q.setting r → NothingOverflowsInRun c q r → first (found c q r) (places c q r) ≡ Ok tt
  run_passes shaped run_of small =
      let all = places_are c q r shaped.shaped in
      let held = held_everywhere c q r shaped.bounded run_of in
      first_fits c q r true (shape_decides.1 shaped)
      ∙ all_passed (found c q r) (places_of_rows c q r) (λ k d inside.
      overflows c q r (given_of shaped) (get_or (places_of_rows c q r) k d) (all k d inside)
      (All-tail (NothingOverflowsAt c q r) fits (places_of_rows c q r) small k d inside)
      (All-tail (HoldsAt c q r) fits (places_of_rows c q r) held k d inside))

  -- what is amiss at a place is the answer there
  stops_here : (stop : Replayed) (place : ReplayPlace) → WeighsAt c q r place
      → ((broken_at c q place ≡ stop) × NothingOverflowsAt c q r place × (HoldsAt c q r place → ⊥))
      ⊎ ((stuck : Stuck) × (Wide stuck ≡ stop) × IsStuckAt c q r place stuck)
      → found c q r place ≡ Err stop
  unfolding found
  stops_here stop place weighs why =
      elim why [
        | inl broken ↦ ap (stop_at (broken_at c q place)) (weighs.failing broken.1 broken.2) ∙ ap Err broken.0
        | inr stuck ↦ ap (stop_at (broken_at c q place)) (weighs.sticking stuck.0 stuck.2) ∙ ap Err stuck.1
      ]

  shape_stops : (stop : Replayed) (place : ReplayPlace) → fits ≡ place
      → ((broken_at c q place ≡ stop) × NothingOverflowsAt c q r place × (HoldsAt c q r place → ⊥))
      ⊎ ((stuck : Stuck) × (Wide stuck ≡ stop) × IsStuckAt c q r place stuck)
      → first (found c q r) (places c q r) ≡ Err stop
  shape_stops stop place same why =
      elim (subst (λ p. ((broken_at c q p ≡ stop) × NothingOverflowsAt c q r p × (HoldsAt c q r p → ⊥))
      ⊎ ((stuck : Stuck) × (Wide stuck ≡ stop) × IsStuckAt c q r p stuck)) (sym same) why) [
        | inl broken ↦ by shape_test refl broken.2 ∙ ap Err broken.0
        | inr stuck ↦ absurd stuck.2
      ]
    where
      by : (b : Bool) → shape_test ≡ b → (FitsBoth c q.setting r → ⊥) → first (found c q r) (places c q r) ≡ Err (Broken HasShape 0 0)
      by true shaped not = absurd (not (shape_decides.0 shaped))
      by false unshaped not = first_fits c q r false unshaped

  -- the first place at which something is amiss is what is found
  stops_again : (stop : Replayed) → Stops c q r stop → first (found c q r) (places c q r) ≡ Err stop
  stops_again stop one = by one.before one.parts one.weighed one.held
    where
      by : (before : List ReplayPlace) → places c q r ≡ before ++ one.place ∷ one.after → All (NothingOverflowsAt c q r) before
          → All (HoldsAt c q r) before → first (found c q r) (places c q r) ≡ Err stop
      by [] parts weighed held =
          shape_stops stop one.place (same_parts fits one.place (places_of_rows c q r) one.after parts).0 one.why
      by (b ∷ bs) parts weighed held =
          let same = same_parts fits b (places_of_rows c q r) (bs ++ one.place ∷ one.after) parts in
          let shaped : FitsBoth c q.setting r = subst (HoldsAt c q r) (sym same.0) (All-head (HoldsAt c q r) b bs held) in
          let all : All (IsPlace c q) (bs ++ one.place ∷ one.after) = subst (All (IsPlace c q)) same.1 (places_are c q r shaped.shaped) in
          let front = front_of (IsPlace c q) bs (one.place ∷ one.after) all in
          let here = weighs_at c q r (given_of shaped) one.place (all_amid (IsPlace c q) bs one.place one.after all) in
          first_fits c q r true (shape_decides.1 shaped)
          ∙ first_is (found c q r) (places_of_rows c q r) stop (record {
            before = bs;
            stop = one.place;
            after = one.after;
            parts = same.1;
            passed = λ k d inside.
                overflows c q r (given_of shaped) (get_or bs k d) (front k d inside)
                (All-tail (NothingOverflowsAt c q r) b bs weighed k d inside) (All-tail (HoldsAt c q r) b bs held k d inside);
            answer = stops_here stop one.place here one.why;
          })

-- ---- each answer

never_violating : (c : Controller) (q : Question) (place : ReplayPlace) → broken_at c q place ≡ Violating → ⊥
never_violating c q fits is = cc
never_violating c q (obeys p) is = cc
never_violating c q (opens f) is = cc
never_violating c q (steps i f) is = cc
never_violating c q (sends i f) is = cc

never_keeps : (c : Controller) (q : Question) (place : ReplayPlace) → broken_at c q place ≡ Keeps → ⊥
never_keeps c q fits is = cc
never_keeps c q (obeys p) is = cc
never_keeps c q (opens f) is = cc
never_keeps c q (steps i f) is = cc
never_keeps c q (sends i f) is = cc

never_wide : (c : Controller) (q : Question) (place : ReplayPlace) (stuck : Stuck) → broken_at c q place ≡ Wide stuck → ⊥
never_wide c q fits stuck is = cc
never_wide c q (obeys p) stuck is = cc
never_wide c q (opens f) stuck is = cc
never_wide c q (steps i f) stuck is = cc
never_wide c q (sends i f) stuck is = cc

-- a run of the controller in which nothing overflows that is asked of it
record IsWeighed (c : Controller) (q : Question) (r : Run) : Type 0 where
  run_of : RunOf c q.setting r
  bounded : Bounded r
  small : NothingOverflows c q r

violating_by : (c : Controller) (q : Question) (r : Run) (t : Result (Unit {0}) Replayed) (v : Result Bool Stuck) → Finds c q r t
    → violation q r ≡ v → answer t v ≡ Violating → IsWeighed c q r × Violates q r
violating_by c q r (Ok _) (Ok true) finds says is =
    let both = questions.violated_law q r says in
    (record { run_of = finds.0; bounded = finds.1; small = record { in_run = finds.2; in_question = both.0 } }, both.1)
violating_by c q r (Ok _) (Ok false) finds says is = absurd (cc)
violating_by c q r (Ok _) (Err stuck) finds says is = absurd (cc)
violating_by c q r (Err stop) v finds says is =
    elim finds.why [
      | inl broken ↦ absurd (never_violating c q finds.place (broken.0 ∙ is))
      | inr stuck ↦ absurd (let wrong : Wide stuck.0 ≡ Violating = stuck.1 ∙ is in cc)
    ]

keeps_by : (c : Controller) (q : Question) (r : Run) (t : Result (Unit {0}) Replayed) (v : Result Bool Stuck) → Finds c q r t
    → violation q r ≡ v → answer t v ≡ Keeps → IsWeighed c q r × (Violates q r → ⊥)
keeps_by c q r (Ok _) (Ok true) finds says is = absurd (cc)
keeps_by c q r (Ok _) (Ok false) finds says is =
    let both = questions.kept_law q r says in
    (record { run_of = finds.0; bounded = finds.1; small = record { in_run = finds.2; in_question = both.0 } }, both.1)
keeps_by c q r (Ok _) (Err stuck) finds says is = absurd (cc)
keeps_by c q r (Err stop) v finds says is =
    elim finds.why [
      | inl broken ↦ absurd (never_keeps c q finds.place (broken.0 ∙ is))
      | inr stuck ↦ absurd (let wrong : Wide stuck.0 ≡ Keeps = stuck.1 ∙ is in cc)
    ]

broken_by : (c : Controller) (q : Question) (r : Run) (rule : RunRule) (row flow : ℕ) (t : Result (Unit {0}) Replayed) (v : Result Bool Stuck)
    → Finds c q r t → answer t v ≡ Broken rule row flow → IsFirstBroken c q r rule row flow
broken_by c q r rule row flow (Ok _) (Ok true) finds is = absurd (cc)
broken_by c q r rule row flow (Ok _) (Ok false) finds is = absurd (cc)
broken_by c q r rule row flow (Ok _) (Err stuck) finds is = absurd (cc)
broken_by c q r rule row flow (Err stop) v finds is =
    elim finds.why [
      | inl broken ↦ record {
        before = finds.before;
        place = finds.place;
        after = finds.after;
        named = broken.0 ∙ is;
        parts = finds.parts;
        weighed = finds.weighed;
        held = finds.held;
        weighed_here = broken.1;
        breaks = broken.2;
      }
      | inr stuck ↦ absurd (let wrong : Wide stuck.0 ≡ Broken rule row flow = stuck.1 ∙ is in cc)
    ]

wide_by : (c : Controller) (q : Question) (r : Run) (stuck : Stuck) (t : Result (Unit {0}) Replayed) (v : Result Bool Stuck)
    → Finds c q r t → violation q r ≡ v → answer t v ≡ Wide stuck → IsFirstWide c q r stuck
wide_by c q r stuck (Ok _) (Ok true) finds says is = absurd (cc)
wide_by c q r stuck (Ok _) (Ok false) finds says is = absurd (cc)
wide_by c q r stuck (Ok _) (Err other) finds says is =
    let same : other ≡ stuck = cc in
    inr (record {
      run_of = finds.0;
      bounded = finds.1;
      weighed = finds.2;
      overflows = questions.stuck_law q r stuck (says ∙ ap (λ e. let o : Result Bool Stuck = Err e in o) same);
    })
wide_by c q r stuck (Err stop) v finds says is =
    elim finds.why [
      | inl broken ↦ absurd (never_wide c q finds.place stuck (broken.0 ∙ is))
      | inr other ↦
          let whole : Wide other.0 ≡ Wide stuck = other.1 ∙ is in
          let same : other.0 ≡ stuck = cc in
          inl (record {
            before = finds.before;
            place = finds.place;
            after = finds.after;
            parts = finds.parts;
            weighed = finds.weighed;
            held = finds.held;
            overflows = subst (IsStuckAt c q r finds.place) same other.2;
          })
    ]

-- ---- the laws of the call

module _ (c : Controller) (q : Question) (r : Run) (is : IsController c) (set : IsSetting q.setting) where
  pub violating_law : replaying c q r ≡ Violating → RunOf c q.setting r × Violates q r
  unfolding replaying
  violating_law says =
      let both = violating_by c q r (first (found c q r) (places c q r)) (violation q r) (finds c q r is set) refl says in (both.0.run_of, both.1)

  pub keeps_law : replaying c q r ≡ Keeps → RunOf c q.setting r × (Violates q r → ⊥)
  unfolding replaying
  keeps_law says =
      let both = keeps_by c q r (first (found c q r) (places c q r)) (violation q r) (finds c q r is set) refl says in (both.0.run_of, both.1)

  -- what is found to violate or to keep is weighed throughout
  pub violating_weighed : replaying c q r ≡ Violating → Bounded r × NothingOverflows c q r
  unfolding replaying
  violating_weighed says =
      let both = violating_by c q r (first (found c q r) (places c q r)) (violation q r) (finds c q r is set) refl says in (both.0.bounded, both.0.small)

  pub keeps_weighed : replaying c q r ≡ Keeps → Bounded r × NothingOverflows c q r
  unfolding replaying
  keeps_weighed says =
      let both = keeps_by c q r (first (found c q r) (places c q r)) (violation q r) (finds c q r is set) refl says in (both.0.bounded, both.0.small)

  pub broken_law : (rule : RunRule) (row flow : ℕ) → replaying c q r ≡ Broken rule row flow → IsFirstBroken c q r rule row flow
  unfolding replaying
  broken_law rule row flow says =
      broken_by c q r rule row flow (first (found c q r) (places c q r)) (violation q r) (finds c q r is set) says

  pub broken_again : (rule : RunRule) (row flow : ℕ) → IsFirstBroken c q r rule row flow → replaying c q r ≡ Broken rule row flow
  unfolding replaying
  broken_again rule row flow one =
      ap (λ t. answer t (violation q r)) (stops_again c q r is set (Broken rule row flow) (record {
        before = one.before;
        place = one.place;
        after = one.after;
        parts = one.parts;
        weighed = one.weighed;
        held = one.held;
        why = inl (one.named, one.weighed_here, one.breaks);
      }))

  pub wide_law : (stuck : Stuck) → replaying c q r ≡ Wide stuck → IsFirstWide c q r stuck
  unfolding replaying
  wide_law stuck says =
      wide_by c q r stuck (first (found c q r) (places c q r)) (violation q r) (finds c q r is set) refl says

  fits_of : RunOf c q.setting r → Bounded r → FitsBoth c q.setting r
  fits_of run_of bounded = record { shaped = run_of.free.shaped; bounded = bounded }

  -- a run of the controller that is passed everywhere is answered by the question
  rows_passed : RunOf c q.setting r → Bounded r → NothingOverflowsInRun c q r → replaying c q r ≡ of_question (violation q r)
  unfolding replaying
  rows_passed run_of bounded small =
      ap (λ t. answer t (violation q r)) (run_passes c q r is set (fits_of run_of bounded) run_of small)

  stuck_in_run : (stuck : Stuck) → IsStuckInRun c q r stuck → replaying c q r ≡ Wide stuck
  unfolding replaying
  stuck_in_run stuck one =
      ap (λ t. answer t (violation q r)) (stops_again c q r is set (Wide stuck) (record {
        before = one.before;
        place = one.place;
        after = one.after;
        parts = one.parts;
        weighed = one.weighed;
        held = one.held;
        why = inr (stuck, refl, one.overflows);
      }))

  pub wide_again : (stuck : Stuck) → IsFirstWide c q r stuck → replaying c q r ≡ Wide stuck
  wide_again stuck one =
      elim one [
        | inl before ↦ stuck_in_run stuck before
        | inr after ↦ rows_passed after.run_of after.bounded after.weighed ∙ ap of_question (questions.stuck_again q r stuck after.overflows)
      ]

  pub violation_found_law : RunOf c q.setting r → Bounded r → NothingOverflows c q r → Violates q r → replaying c q r ≡ Violating
  violation_found_law run_of bounded small violates =
      rows_passed run_of bounded small.in_run ∙ ap of_question (questions.violated_again q r small.in_question violates)

  pub keeping_found_law : RunOf c q.setting r → Bounded r → NothingOverflows c q r → (Violates q r → ⊥) → replaying c q r ≡ Keeps
  keeping_found_law run_of bounded small keeps =
      rows_passed run_of bounded small.in_run ∙ ap of_question (questions.kept_again q r small.in_question keeps)

  -- no rule is found to be broken in a run of the controller
  never_broken : RunOf c q.setting r → Bounded r → (rule : RunRule) (row flow : ℕ) → replaying c q r ≡ Broken rule row flow → ⊥
  never_broken run_of bounded rule row flow says =
      let one = broken_law rule row flow says in
      one.breaks (all_amid (HoldsAt c q r) one.before one.place one.after
      (subst (All (HoldsAt c q r)) one.parts (held_everywhere c q r bounded run_of)))

  pub violation_answered_law : RunOf c q.setting r → Bounded r → Violates q r
      → (replaying c q r ≡ Violating) ⊎ ((stuck : Stuck) × (replaying c q r ≡ Wide stuck))
  violation_answered_law run_of bounded violates = by (replaying c q r) refl
    where
      by : (a : Replayed) → replaying c q r ≡ a → (a ≡ Violating) ⊎ ((stuck : Stuck) × (a ≡ Wide stuck))
      by Violating says = inl refl
      by Keeps says = absurd ((keeps_law says).1 violates)
      by (Broken rule row flow) says = absurd (never_broken run_of bounded rule row flow says)
      by (Wide stuck) says = inr (stuck, refl)

  pub keeping_answered_law : RunOf c q.setting r → Bounded r → (Violates q r → ⊥)
      → (replaying c q r ≡ Keeps) ⊎ ((stuck : Stuck) × (replaying c q r ≡ Wide stuck))
  keeping_answered_law run_of bounded keeps = by (replaying c q r) refl
    where
      by : (a : Replayed) → replaying c q r ≡ a → (a ≡ Keeps) ⊎ ((stuck : Stuck) × (a ≡ Wide stuck))
      by Violating says = absurd (keeps (violating_law says).1)
      by Keeps says = inl refl
      by (Broken rule row flow) says = absurd (never_broken run_of bounded rule row flow says)
      by (Wide stuck) says = inr (stuck, refl)
