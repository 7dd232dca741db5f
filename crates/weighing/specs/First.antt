-- The first event of an ordered list: what the first test that isn't passed answers.
use Rattle.std.specs.Prelude.{◌≡◌, ℕ, zero, suc, Result, Ok, Err, List, [], ◌∷◌, ◌++◌, All}

-- the second answer where the first is passed
abbrev pub and_then : {E : Type 0} → Result (Unit {0}) E → Result (Unit {0}) E → Result (Unit {0}) E
and_then (Err e) next = Err e
and_then (Ok _) next = next

-- the answer of the first test in the list that isn't passed; Ok where all are
abbrev pub first : {A E : Type 0} → (A → Result (Unit {0}) E) → List A → Result (Unit {0}) E
first test [] = Ok tt
first test (x ∷ xs) = and_then (test x) (first test xs)

-- the numbers below n, in order
abbrev pub below : ℕ → List ℕ
below zero = []
below (suc n) = below n ++ n ∷ []

-- e is what the test answers at one of the list, and each one before it is passed
pub record IsFirst {A E : Type 0} (test : A → Result (Unit {0}) E) (xs : List A) (e : E) : Type 0 where
  pub before : List A
  pub stop : A
  pub after : List A
  pub parts : xs ≡ before ++ stop ∷ after
  pub passed : All (λ x. test x ≡ Ok tt) before
  pub answer : test stop ≡ Err e
