-- What the first wanted answer says of the questions.
use Rattle.std.proofs.Common.{◌≡◌, ℕ, zero, suc, ◌+◌, ◌<◌, ◌⊎◌, inl, inr, Bool, true, false, not, Option, Some, None, Result, Ok, Err, refl, sym, ◌∙◌, ap, subst, arith, add-one}
use Rattle.std.proofs.lemmas.Bool.{cases_lt}
use Rattle.weighing.specs.Queries.{is_wanted, noted, with_answer, asked, AllAnswered, NoneWanted, IsFirstWanted, IsFirstError}

asked_suc : {E : Type 0} (wanted : Bool) (question : ℕ → Result Bool E) (n : ℕ)
    → asked wanted question (suc n) ≡ with_answer wanted (asked wanted question n) n (question n)
unfolding asked
asked_suc wanted question n = refl

pub asked_none : {E : Type 0} (wanted : Bool) (question : ℕ → Result Bool E) → asked wanted question 0 ≡ Ok None
unfolding asked
asked_none wanted question = refl

-- one more answer
pub asked_more : {E : Type 0} (wanted : Bool) (question : ℕ → Result Bool E) (n : ℕ) (found : Option ℕ) (b : Bool)
    → asked wanted question n ≡ Ok found → question n ≡ Ok b → asked wanted question (n + 1) ≡ Ok (noted found n (is_wanted wanted b))
asked_more {E} wanted question n found b so_far here =
    ap (asked wanted question) (add-one n) ∙ asked_suc wanted question n
    ∙ ap (λ t. with_answer wanted t n (question n)) so_far
    ∙ ap (λ t. let r : Result (Option ℕ) E = Ok found in with_answer wanted r n t) here

-- an error at k, before which there is none, is that of all longer rows of questions
pub asked_stops : {E : Type 0} (wanted : Bool) (question : ℕ → Result Bool E) (e : E) (k n : ℕ) (found : Option ℕ)
    → asked wanted question k ≡ Ok found → question k ≡ Err e → k < n → asked wanted question n ≡ Err e
asked_stops wanted question e k zero found so_far here less = absurd (omega arith)
asked_stops {E} wanted question e k (suc n) found so_far here less =
    elim (cases_lt k n) [
      | inl lower ↦ asked_suc wanted question n
          ∙ ap (λ t. with_answer wanted t n (question n)) (asked_stops wanted question e k n found so_far here lower)
      | inr upper ↦
          let same : k ≡ n = omega arith in
          subst (λ m. asked wanted question (suc m) ≡ Err e) same (
          asked_suc wanted question k
          ∙ ap (λ t. with_answer wanted t k (question k)) so_far
          ∙ ap (λ t. let r : Result (Option ℕ) E = Ok found in with_answer wanted r k t) here)
    ]

-- the last answer and those before it
pub record Parted {E : Type 0} (wanted : Bool) (before : Result (Option ℕ) E) (n : ℕ) (answer : Result Bool E) (found : Option ℕ) : Type 0 where
  pub earlier : Option ℕ
  pub last : Bool
  pub before_is : before ≡ Ok earlier
  pub answer_is : answer ≡ Ok last
  pub found_is : noted earlier n (is_wanted wanted last) ≡ found

parted : {E : Type 0} (wanted : Bool) (before : Result (Option ℕ) E) (n : ℕ) (answer : Result Bool E) (found : Option ℕ)
    → with_answer wanted before n answer ≡ Ok found → Parted wanted before n answer found
parted wanted (Err e) n answer found is = absurd (cc)
parted wanted (Ok earlier) n (Err e) found is = absurd (cc)
parted wanted (Ok earlier) n (Ok last) found is =
    record { earlier = earlier; last = last; before_is = refl; answer_is = refl; found_is = cc }

-- where an answer is found, all questions are answered
pub all_answered : {E : Type 0} (wanted : Bool) (question : ℕ → Result Bool E) (n : ℕ) (found : Option ℕ)
    → asked wanted question n ≡ Ok found → AllAnswered question n
all_answered wanted question zero found is = λ k less. absurd (omega arith)
all_answered wanted question (suc n) found is = λ k less.
    let p = parted wanted (asked wanted question n) n (question n) found (sym (asked_suc wanted question n) ∙ is) in
    elim (cases_lt k n) [
      | inl lower ↦ all_answered wanted question n p.earlier p.before_is k lower
      | inr upper ↦
          let same : n ≡ k = omega arith in
          (p.last, ap question (sym same) ∙ p.answer_is)
    ]

none_noted : (earlier : Option ℕ) (n : ℕ) (b : Bool) → noted earlier n b ≡ None → (earlier ≡ None) × (b ≡ false)
none_noted (Some k) n b is = absurd (cc)
none_noted None n true is = absurd (cc)
none_noted None n false is = (refl, refl)

not_wanted : (wanted b : Bool) → is_wanted wanted b ≡ false → b ≡ not wanted
not_wanted true b is = is
not_wanted false true is = refl
not_wanted false false is = absurd (cc)

is_the_wanted : (wanted b : Bool) → is_wanted wanted b ≡ true → b ≡ wanted
is_the_wanted true b is = is
is_the_wanted false true is = absurd (cc)
is_the_wanted false false is = refl

-- where no answer is the wanted one
pub none_wanted : {E : Type 0} (wanted : Bool) (question : ℕ → Result Bool E) (n : ℕ)
    → asked wanted question n ≡ Ok None → NoneWanted wanted question n
none_wanted wanted question zero is = λ k less. absurd (omega arith)
none_wanted {E} wanted question (suc n) is = λ k less.
    let p = parted wanted (asked wanted question n) n (question n) None (sym (asked_suc wanted question n) ∙ is) in
    let none = none_noted p.earlier n (is_wanted wanted p.last) p.found_is in
    elim (cases_lt k n) [
      | inl lower ↦ none_wanted wanted question n (p.before_is ∙ ap (λ o. let r : Result (Option ℕ) E = Ok o in r) none.0) k lower
      | inr upper ↦
          let same : n ≡ k = omega arith in
          ap question (sym same) ∙ p.answer_is ∙ ap (λ b. let r : Result Bool E = Ok b in r) (not_wanted wanted p.last none.1)
    ]

some_noted : (earlier : Option ℕ) (n k : ℕ) (b : Bool) → noted earlier n b ≡ Some k
    → (earlier ≡ Some k) ⊎ ((earlier ≡ None) × (b ≡ true) × (n ≡ k))
some_noted (Some j) n k b is = inl is
some_noted None n k true is = inr (refl, refl, cc)
some_noted None n k false is = absurd (cc)

-- where the wanted answer is found at k
pub first_wanted : {E : Type 0} (wanted : Bool) (question : ℕ → Result Bool E) (n k : ℕ)
    → asked wanted question n ≡ Ok (Some k) → IsFirstWanted wanted question n k
first_wanted {E} wanted question zero k is =
    absurd (let none : (let r : Result (Option ℕ) E = Ok None in r ≡ Ok (Some k)) = sym (asked_none wanted question) ∙ is in cc)
first_wanted {E} wanted question (suc n) k is =
    let p = parted wanted (asked wanted question n) n (question n) (Some k) (sym (asked_suc wanted question n) ∙ is) in
    elim (some_noted p.earlier n k (is_wanted wanted p.last) p.found_is) [
      | inl earlier ↦
          let f = first_wanted wanted question n k (p.before_is ∙ ap (λ o. let r : Result (Option ℕ) E = Ok o in r) earlier) in
          record {
            within = let inside = f.within in omega arith;
            before = f.before;
            here = f.here;
            answered = all_answered wanted question (suc n) (Some k) is;
          }
      | inr here ↦ record {
        within = let same = here.2 in omega arith;
        before = subst (NoneWanted wanted question) here.2
            (none_wanted wanted question n (p.before_is ∙ ap (λ o. let r : Result (Option ℕ) E = Ok o in r) here.0));
        here = ap question (sym here.2) ∙ p.answer_is
            ∙ ap (λ b. let r : Result Bool E = Ok b in r) (is_the_wanted wanted p.last here.1);
        answered = all_answered wanted question (suc n) (Some k) is;
      }
    ]

stopped : {E : Type 0} (wanted : Bool) (before : Result (Option ℕ) E) (n : ℕ) (answer : Result Bool E) (e : E)
    → with_answer wanted before n answer ≡ Err e → (before ≡ Err e) ⊎ ((found : Option ℕ) × (before ≡ Ok found) × (answer ≡ Err e))
stopped wanted (Err f) n answer e is = inl is
stopped wanted (Ok found) n (Err f) e is = inr (found, refl, cc)
stopped wanted (Ok found) n (Ok b) e is = absurd (cc)

-- an error is the first one
pub first_error : {E : Type 0} (wanted : Bool) (question : ℕ → Result Bool E) (n : ℕ) (e : E)
    → asked wanted question n ≡ Err e → IsFirstError question n e
first_error {E} wanted question zero e is =
    absurd (let none : (let r : Result (Option ℕ) E = Ok None in r ≡ Err e) = sym (asked_none wanted question) ∙ is in cc)
first_error wanted question (suc n) e is =
    elim (stopped wanted (asked wanted question n) n (question n) e (sym (asked_suc wanted question n) ∙ is)) [
      | inl earlier ↦
          let f = first_error wanted question n e earlier in
          record { at = f.at; within = let inside = f.within in omega arith; before = f.before; here = f.here }
      | inr here ↦ record {
        at = n;
        within = omega arith;
        before = all_answered wanted question n here.0 here.1;
        here = here.2;
      }
    ]

-- where all questions are answered, something is found, or nothing
pub asked_is : {E : Type 0} (wanted : Bool) (question : ℕ → Result Bool E) (n : ℕ)
    → AllAnswered question n → (found : Option ℕ) × (asked wanted question n ≡ Ok found)
asked_is wanted question zero answered = (None, asked_none wanted question)
asked_is {E} wanted question (suc n) answered =
    let before = asked_is wanted question n (λ k less. answered k (omega arith)) in
    let here = answered n (omega arith) in (
      noted before.0 n (is_wanted wanted here.0),
      asked_suc wanted question n
          ∙ ap (λ t. with_answer wanted t n (question n)) before.1
          ∙ ap (λ t. let r : Result (Option ℕ) E = Ok before.0 in with_answer wanted r n t) here.1,
    )
