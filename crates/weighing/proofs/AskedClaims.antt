-- What the first wanted answer says where each question is a claim that is weighed.
use Rattle.std.proofs.Common.{◌≡◌, ◌↔◌, inl, inr, ℕ, zero, suc, ◌<◌, Bool, true, false, not, Option, Some, None, Result, Ok, Err, refl, sym, ◌∙◌, ap, subst, arith}
use Rattle.std.proofs.lemmas.Bool.{cases_lt}
use Rattle.whole.specs.declared.answers.Stuck.{Stuck}
use Rattle.condition_tree.specs.Trees.{Says}
use Rattle.weighing.specs.Queries.{AllAnswered, IsFirstSaid, IsFirstStuck, IsFirstWanted, NoneOverflows, NoneWanted, Tells, asked}
use Rattle.weighing.specs.Claim.{Claim, Holds, outcome}
use Rattle.weighing.specs.Overflow.{Answers, NothingOverflows}
use Rattle.weighing.proofs.QueryLaws.{all_answered, asked_is, asked_stops, first_error, first_wanted, none_wanted}
use Rattle.weighing.proofs.Claims.{never_stuck, outcome_answers}

-- ---- an answer is the wanted one or the other

not_both : (wanted : Bool) (answer : Result Bool Stuck) → answer ≡ Ok wanted → answer ≡ Ok (not wanted) → ⊥
not_both true answer is other = let wrong : (let r : Result Bool Stuck = Ok true in r ≡ Ok false) = sym is ∙ other in cc
not_both false answer is other = let wrong : (let r : Result Bool Stuck = Ok false in r ≡ Ok true) = sym is ∙ other in cc

none_is : (wanted : Bool) (question : ℕ → Result Bool Stuck) (n : ℕ) → AllAnswered question n → NoneWanted wanted question n
    → asked wanted question n ≡ Ok None
none_is wanted question n answered none = by (asked_is wanted question n answered).0 (asked_is wanted question n answered).1
  where
    by : (found : Option ℕ) → asked wanted question n ≡ Ok found → asked wanted question n ≡ Ok None
    by None is = is
    by (Some j) is =
        let one = first_wanted wanted question n j is in absurd (not_both wanted (question j) one.here (none j one.within))

first_found : (wanted : Bool) (question : ℕ → Result Bool Stuck) (n k : ℕ) → IsFirstWanted wanted question n k
    → asked wanted question n ≡ Ok (Some k)
first_found wanted question n k one = by (asked_is wanted question n one.answered).0 (asked_is wanted question n one.answered).1
  where
    by : (found : Option ℕ) → asked wanted question n ≡ Ok found → asked wanted question n ≡ Ok (Some k)
    by None is = absurd (not_both wanted (question k) one.here (none_wanted wanted question n is k one.within))
    by (Some j) is =
        let other = first_wanted wanted question n j is in
        elim (cases_lt j k) [
          | inl less ↦ absurd (not_both wanted (question j) other.here (one.before j less))
          | inr most ↦ elim (cases_lt k j) [
            | inl more ↦ absurd (not_both wanted (question k) one.here (other.before k more))
            | inr least ↦
                let same : j ≡ k = omega arith in
                is ∙ ap (λ i. let r : Result (Option ℕ) Stuck = Ok (Some i) in r) same
          ]
        ]

-- ---- claims that mean facts

abbrev MeansFact : Claim → Type 0 → Type 0
MeansFact c fact = Holds c ↔ fact

says_fact : (b : Bool) (c : Claim) (fact : Type 0) → MeansFact c fact → Says b (Holds c) → Says b fact
says_fact true c fact means says = means.0 says
says_fact false c fact means says = λ p. says (means.1 p)

answer_says : (row : ℕ) (c : Claim) (fact : Type 0) (b : Bool) → MeansFact c fact → outcome row c ≡ Ok b → NothingOverflows c × Says b fact
answer_says row c fact true means is = let both = (outcome_answers row c).holds.0 is in (both.0, says_fact true c fact means both.1)
answer_says row c fact false means is = let both = (outcome_answers row c).fails.0 is in (both.0, says_fact false c fact means both.1)

says_answer : (row : ℕ) (c : Claim) (fact : Type 0) (b : Bool) → MeansFact c fact → NothingOverflows c → Says b fact → outcome row c ≡ Ok b
says_answer row c fact true means small says = (outcome_answers row c).holds.1 (small, means.1 says)
says_answer row c fact false means small says = (outcome_answers row c).fails.1 (small, λ holds. says (means.0 holds))

is_answered : (row : ℕ) (c : Claim) → NothingOverflows c → (b : Bool) × (outcome row c ≡ Ok b)
is_answered row c small = by (outcome row c) refl
  where
    by : (t : Result Bool Stuck) → outcome row c ≡ t → (b : Bool) × (outcome row c ≡ Ok b)
    by (Ok b) is = (b, is)
    by (Err stuck) is = absurd (never_stuck row c stuck small is)

module _ (wanted : Bool) (row : ℕ) (claim : ℕ → Claim) (n : ℕ) where
  abbrev question : ℕ → Result Bool Stuck
  question k = outcome row (claim k)

  none_overflows : (m : ℕ) → AllAnswered question m → NoneOverflows claim m
  none_overflows m answered = λ k less.
      let one = answered k less in (answer_says row (claim k) (Holds (claim k)) one.0 ((λ h. h), (λ h. h)) one.1).0

  answered : (m : ℕ) → NoneOverflows claim m → AllAnswered question m
  answered m small = λ k less. is_answered row (claim k) (small k less)

  is_stuck : (stuck : Stuck) → IsFirstStuck row claim n stuck → asked wanted question n ≡ Err stuck
  is_stuck stuck one =
      let so_far = asked_is wanted question one.at (answered one.at one.before) in
      asked_stops wanted question stuck one.at n so_far.0 so_far.1 (((outcome_answers row (claim one.at)).stuck stuck).1 one.here) one.within

  -- what is found of facts that claims mean
  pub tells_law : (fact : ℕ → Type 0) → ((k : ℕ) → k < n → Holds (claim k) ↔ fact k)
      → Tells wanted row claim fact n (asked wanted question n)
  tells_law fact means = record {
    none = (
      λ is. (
        none_overflows n (all_answered wanted question n None is),
        λ k less. (answer_says row (claim k) (fact k) (not wanted) (means k less) (none_wanted wanted question n is k less)).1,
      ),
      λ both. none_is wanted question n (answered n both.0)
          (λ k less. says_answer row (claim k) (fact k) (not wanted) (means k less) (both.0 k less) (both.1 k less)),
    );
    some = λ k. (
      λ is. (
        none_overflows n (all_answered wanted question n (Some k) is),
        let one = first_wanted wanted question n k is in
            let inside = one.within in
            record {
              within = one.within;
              before = λ j less.
                  let among : j < n = omega arith in
                  (answer_says row (claim j) (fact j) (not wanted) (means j among) (one.before j less)).1;
              here = (answer_says row (claim k) (fact k) wanted (means k one.within) one.here).1;
            },
      ),
      λ both.
          let one = both.1 in
          let inside = one.within in
          first_found wanted question n k (record {
            within = one.within;
            before = λ j less.
                let among : j < n = omega arith in
                says_answer row (claim j) (fact j) (not wanted) (means j among) (both.0 j among) (one.before j less);
            here = says_answer row (claim k) (fact k) wanted (means k one.within) (both.0 k one.within) one.here;
            answered = answered n both.0;
          }),
    );
    stuck = λ stuck. (
      λ is.
          let one = first_error wanted question n stuck is in
          record {
            at = one.at;
            within = one.within;
            before = none_overflows one.at one.before;
            here = ((outcome_answers row (claim one.at)).stuck stuck).0 one.here;
          },
      λ one. is_stuck stuck one,
    );
  }
