-- The first event of a list: of two lists one after the other, of counted places, and that it is the first.
use Rattle.std.proofs.Common.{◌≡◌, ℕ, zero, suc, ◌+◌, ◌<◌, ◌⊎◌, inl, inr, Result, Ok, Err, List, [], ◌∷◌, ◌++◌, map, length, get_or, take, drop, refl, sym, ◌∙◌, ap, subst, arith, add-one}
use Rattle.std.specs.List.{flat_map}
use Rattle.std.specs.Prelude.{All}
use Rattle.std.proofs.Math.Seq.{drop-cons}
use Rattle.std.proofs.lemmas.List.{take-append-drop}
use Rattle.std.proofs.lemmas.Bool.{cases_lt}
use Rattle.std.proofs.lemmas.List.Elements.{All-cons, All-head, All-nil, All-tail}
use Rattle.weighing.specs.First.{and_then, below, first, IsFirst}

pub first-append : {A E : Type 0} (test : A → Result (Unit {0}) E) (xs ys : List A)
    → first test (xs ++ ys) ≡ and_then (first test xs) (first test ys)
first-append test [] ys = refl
first-append {A} {E} test (x ∷ xs) ys =
    elim (test x) as (λ t. and_then t (first test (xs ++ ys)) ≡ and_then (and_then t (first test xs)) (first test ys))
    [ Ok _ ↦ first-append test xs ys | Err e ↦ refl ]

ok_not_err : {E : Type 0} (e : E) → (let r : Result (Unit {0}) E = Ok tt in r ≡ Err e) → ⊥
ok_not_err e same = cc

-- both answers are Ok where the two together are
pub cases_ok : {E : Type 0} (t u : Result (Unit {0}) E) → and_then t u ≡ Ok tt → (t ≡ Ok tt) × (u ≡ Ok tt)
cases_ok (Ok _) u same = (refl, same)
cases_ok (Err e) u same = absurd (ok_not_err e (sym same))

-- an error of the two together is the first's, or the second's where the first is passed
cases_err : {E : Type 0} (t u : Result (Unit {0}) E) (e : E) → and_then t u ≡ Err e → (t ≡ Err e) ⊎ ((t ≡ Ok tt) × (u ≡ Err e))
cases_err (Ok _) u e same = inr (refl, same)
cases_err (Err _) u e same = inl same

-- the first event of lists that stand one after another is the first among the lists' events
pub first-flat_map : {A B E : Type 0} (test : B → Result (Unit {0}) E) (g : A → List B) (xs : List A)
    → first test (flat_map g xs) ≡ first (λ x. first test (g x)) xs
first-flat_map test g [] = refl
first-flat_map test g (x ∷ xs) =
    first-append test (g x) (flat_map g xs) ∙ ap (and_then (first test (g x))) (first-flat_map test g xs)

pub first-map : {A B E : Type 0} (test : B → Result (Unit {0}) E) (g : A → B) (xs : List A)
    → first test (map g xs) ≡ first (λ x. test (g x)) xs
first-map test g [] = refl
first-map test g (x ∷ xs) = ap (and_then (test (g x))) (first-map test g xs)

first_below_suc : {E : Type 0} (test : ℕ → Result (Unit {0}) E) (n : ℕ) (t u : Result (Unit {0}) E)
    → first test (below n) ≡ t → test n ≡ u → first test (below (suc n)) ≡ and_then t (and_then u (Ok tt))
first_below_suc {E} test n t u passed here =
    first-append test (below n) (n ∷ [])
    ∙ ap (λ v. and_then v (and_then (test n) (Ok tt))) passed
    ∙ ap (λ v. and_then t (and_then v (Ok tt))) here

-- one more number
pub first_more : {E : Type 0} (test : ℕ → Result (Unit {0}) E) (n : ℕ)
    → first test (below n) ≡ Ok tt → test n ≡ Ok tt → first test (below (n + 1)) ≡ Ok tt
first_more test n passed here = rw add-one (first_below_suc test n (Ok tt) (Ok tt) passed here)

-- an event at k, before which there is none, is the first of all longer lists
pub first_stops : {E : Type 0} (test : ℕ → Result (Unit {0}) E) (e : E) (k n : ℕ)
    → first test (below k) ≡ Ok tt → test k ≡ Err e → k < n → first test (below n) ≡ Err e
first_stops test e k zero passed here less = absurd (omega arith)
first_stops test e k (suc n) passed here less =
    elim (cases_lt k n) [
      | inl lower ↦ first_below_suc test n (Err e) (test n) (first_stops test e k n passed here lower) refl
      | inr upper ↦
          let same : k ≡ n = omega arith in
          subst (λ m. first test (below (suc m)) ≡ Err e) same (first_below_suc test k (Ok tt) (Err e) passed here)
    ]

-- where no test stops, each is passed
pub each_passed : {A E : Type 0} (test : A → Result (Unit {0}) E) (xs : List A)
    → first test xs ≡ Ok tt → All (λ x. test x ≡ Ok tt) xs
each_passed test [] none = All-nil (λ x. test x ≡ Ok tt)
each_passed {A} {E} test (x ∷ xs) none =
    let Passed : A → Type 0 = λ y. test y ≡ Ok tt in
    let split = cases_ok (test x) (first test xs) none in
    All-cons Passed x xs split.0 (each_passed test xs split.1)

-- where each is passed, no test stops
pub all_passed : {A E : Type 0} (test : A → Result (Unit {0}) E) (xs : List A)
    → All (λ x. test x ≡ Ok tt) xs → first test xs ≡ Ok tt
all_passed test [] each = refl
all_passed {A} {E} test (x ∷ xs) each =
    let Passed : A → Type 0 = λ y. test y ≡ Ok tt in
    ap (λ t. and_then t (first test xs)) (All-head Passed x xs each) ∙ all_passed test xs (All-tail Passed x xs each)

-- what the first answer is, is the answer of the first that isn't passed
pub first_is_first : {A E : Type 0} (test : A → Result (Unit {0}) E) (xs : List A) (e : E)
    → first test xs ≡ Err e → IsFirst test xs e
first_is_first {A} test [] e stops = absurd (ok_not_err e stops)
first_is_first {A} {E} test (x ∷ xs) e stops =
    elim (cases_err (test x) (first test xs) e stops) [
      | inl here ↦ record {
        before = [];
        stop = x;
        after = xs;
        parts = refl;
        passed = All-nil (λ y. test y ≡ Ok tt);
        answer = here;
      }
      | inr later ↦
          let rest = first_is_first test xs e later.1 in
          record {
            before = x ∷ rest.before;
            stop = rest.stop;
            after = rest.after;
            parts = ap (λ ys. x ∷ ys) rest.parts;
            passed = All-cons (λ y. test y ≡ Ok tt) x rest.before later.0 rest.passed;
            answer = rest.answer;
          }
    ]

-- the first answer is that of the first that isn't passed
pub first_is : {A E : Type 0} (test : A → Result (Unit {0}) E) (xs : List A) (e : E)
    → IsFirst test xs e → first test xs ≡ Err e
first_is test xs e one =
    ap (first test) one.parts
    ∙ first-append test one.before (one.stop ∷ one.after)
    ∙ ap (λ t. and_then t (first test (one.stop ∷ one.after))) (all_passed test one.before one.passed)
    ∙ ap (λ t. and_then t (first test one.after)) one.answer

-- an event at place i, before which there is none, is the first of the list
pub first_stops_at : {A E : Type 0} (test : A → Result (Unit {0}) E) (e : E) (xs : List A) (i : ℕ) (d : A) → i < length xs
    → first test (take i xs) ≡ Ok tt → test (get_or xs i d) ≡ Err e → first test xs ≡ Err e
first_stops_at {A} {E} test e xs i d inside passed here =
    ap (first test) (sym (take-append-drop i xs))
    ∙ first-append test (take i xs) (drop i xs)
    ∙ ap (λ t. and_then t (first test (drop i xs))) passed
    ∙ ap (first test) (drop-cons xs i d inside)
    ∙ ap (λ t. and_then t (first test (drop (suc i) xs))) here

-- where no number below n stops, none of them does
pub passed_below : {E : Type 0} (test : ℕ → Result (Unit {0}) E) (i n : ℕ)
    → first test (below n) ≡ Ok tt → i < n → test i ≡ Ok tt
passed_below test i zero none inside = absurd (omega arith)
passed_below test i (suc n) none inside =
    let split = cases_ok (first test (below n)) (and_then (test n) (Ok tt)) (sym (first-append test (below n) (n ∷ [])) ∙ none) in
    elim (cases_lt i n) [
      | inl lower ↦ passed_below test i n split.0 lower
      | inr upper ↦
          let same : n ≡ i = omega arith in
          subst (λ m. test m ≡ Ok tt) same (cases_ok (test n) (Ok tt) split.1).0
    ]

then_none : {E : Type 0} (u : Result (Unit {0}) E) → and_then u (Ok tt) ≡ u
then_none (Ok _) = refl
then_none (Err e) = refl

-- the numbers below n + 1 are those below n, and then n
pub first_one_more : {E : Type 0} (test : ℕ → Result (Unit {0}) E) (n : ℕ)
    → first test (below (n + 1)) ≡ and_then (first test (below n)) (test n)
first_one_more test n =
    ap (λ m. first test (below m)) (add-one n)
    ∙ first_below_suc test n (first test (below n)) (test n) refl refl
    ∙ ap (and_then (first test (below n))) (then_none (test n))
