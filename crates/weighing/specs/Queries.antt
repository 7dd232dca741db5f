-- Questions that are asked in order, all of them before any of the answers counts.
use Rattle.std.specs.Prelude.{◌≡◌, ◌↔◌, ℕ, zero, suc, ◌<◌, Bool, true, false, not, Option, Some, None, Result, Ok, Err}
use Rattle.whole.specs.declared.answers.Stuck.{Stuck}
use Rattle.condition_tree.specs.Trees.{Says}
use Rattle.weighing.specs.Claim.{Claim}
use Rattle.weighing.specs.Overflow.{IsFirstOverflow, NothingOverflows}

-- whether a truth is the wanted one
abbrev pub is_wanted : Bool → Bool → Bool
is_wanted true b = b
is_wanted false b = not b

-- the place found so far, or n where its answer is the first that is wanted
abbrev pub noted : Option ℕ → ℕ → Bool → Option ℕ
noted (Some k) n wanted = Some k
noted None n true = Some n
noted None n false = None

abbrev pub with_answer : {E : Type 0} → Bool → Result (Option ℕ) E → ℕ → Result Bool E → Result (Option ℕ) E
with_answer wanted (Err e) n answer = Err e
with_answer wanted (Ok found) n (Err e) = Err e
with_answer wanted (Ok found) n (Ok b) = Ok (noted found n (is_wanted wanted b))

-- of the questions below n, the first whose answer is the wanted truth; or the first error, wherever it stands
unfoldable pub asked : {E : Type 0} → Bool → (ℕ → Result Bool E) → ℕ → Result (Option ℕ) E
asked wanted question zero = Ok None
asked wanted question (suc n) = with_answer wanted (asked wanted question n) n (question n)

-- every question below n has an answer
abbrev pub AllAnswered : {E : Type 0} → (ℕ → Result Bool E) → ℕ → Type 0
AllAnswered question n = (k : ℕ) → k < n → (b : Bool) × (question k ≡ Ok b)

-- no question below n has the wanted truth for an answer
abbrev pub NoneWanted : {E : Type 0} → Bool → (ℕ → Result Bool E) → ℕ → Type 0
NoneWanted wanted question n = (k : ℕ) → k < n → question k ≡ Ok (not wanted)

-- the question at k is the first whose answer is the wanted truth
pub record IsFirstWanted {E : Type 0} (wanted : Bool) (question : ℕ → Result Bool E) (n k : ℕ) : Type 0 where
  pub within : k < n
  pub before : NoneWanted wanted question k
  pub here : question k ≡ Ok wanted
  pub answered : AllAnswered question n

-- the first error of the questions below n
pub record IsFirstError {E : Type 0} (question : ℕ → Result Bool E) (n : ℕ) (e : E) : Type 0 where
  pub at : ℕ
  pub within : at < n
  pub before : AllAnswered question at
  pub here : question at ≡ Err e

-- ---- where each question is a claim that is weighed on one row

-- no product and no sum of the claims below n overflows
abbrev pub NoneOverflows : (ℕ → Claim) → ℕ → Type 0
NoneOverflows claim n = (k : ℕ) → k < n → NothingOverflows (claim k)

-- the first product or sum of the claims below n, in order, that overflows
pub record IsFirstStuck (row : ℕ) (claim : ℕ → Claim) (n : ℕ) (stuck : Stuck) : Type 0 where
  pub at : ℕ
  pub within : at < n
  pub before : NoneOverflows claim at
  pub here : IsFirstOverflow row (claim at) stuck

-- the fact at k is the first of those below n whose truth is the wanted one
pub record IsFirstSaid (wanted : Bool) (fact : ℕ → Type 0) (n k : ℕ) : Type 0 where
  pub within : k < n
  pub before : (j : ℕ) → j < k → Says (not wanted) (fact j)
  pub here : Says wanted (fact k)

-- what is found of facts, each weighed as a claim, all of them before any counts: the first whose truth is the wanted one,
-- or the first product or sum that overflows
pub record Tells (wanted : Bool) (row : ℕ) (claim : ℕ → Claim) (fact : ℕ → Type 0) (n : ℕ) (found : Result (Option ℕ) Stuck) : Type 0 where
  pub none : (found ≡ Ok None) ↔ (NoneOverflows claim n × ((k : ℕ) → k < n → Says (not wanted) (fact k)))
  pub some : (k : ℕ) → (found ≡ Ok (Some k)) ↔ (NoneOverflows claim n × IsFirstSaid wanted fact n k)
  pub stuck : (stuck : Stuck) → (found ≡ Err stuck) ↔ IsFirstStuck row claim n stuck
