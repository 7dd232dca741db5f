-- Steps that may fail, one after the other. A step gives a value and what is left, or says what is wrong.
use Rattle.std.specs.Prelude.{◌≡◌, ℕ, zero, suc, ◌+◌, List, [], ◌∷◌, ◌++◌, Result, Ok, Err}
use Rattle.whole.specs.declared.answers.ReadFault.{ReadFault}
use Rattle.whole.specs.declared.answers.ReadFault.TheVariants.{Refused, NoMemory}
use Rattle.whole.specs.declared.answers.Refusal.{Refusal}

infixl 10 ◌>>=◌
abbrev pub ◌>>=◌ : {A B E : Type 0} → Result A E → (A → Result B E) → Result B E
(Ok x) >>= f = f x
(Err e) >>= f = Err e

-- a call that leaves `rest` gives what the step gives
abbrev pub Gives : {X R E : Type 0} → Result X E → R → Result (X × R) E → Type 0
Gives (Ok x) rest read = read ≡ Ok (x, rest)
Gives (Err fault) rest read = read ≡ Err fault

-- a fault of a call that isn't want of memory is the refusal that the step gives
abbrev pub Fails : {Y : Type 0} → ReadFault → Result Y Refusal → Type 0
Fails NoMemory read = Unit {0}
Fails (Refused refusal) read = read ≡ Err refusal

-- a call gives what is read, unless memory runs out
abbrev pub GivesUnless : {X : Type 0} → Result X ReadFault → Result X Refusal → Type 0
GivesUnless (Ok x) read = read ≡ Ok x
GivesUnless (Err fault) read = Fails fault read

-- a call that leaves `rest` gives what the step gives, unless memory runs out
abbrev pub GivesRestUnless : {X R : Type 0} → Result X ReadFault → R → Result (X × R) Refusal → Type 0
GivesRestUnless (Ok x) rest read = read ≡ Ok (x, rest)
GivesRestUnless (Err fault) rest read = Fails fault read

-- a step for each of `count` numbers from `first` on
unfoldable pub each : {X R E : Type 0} → (ℕ → R → Result (X × R) E) → ℕ → ℕ → R → Result (List X × R) E
each step zero first rest = Ok ([], rest)
each step (suc count) first rest = do
  x ← step first rest
  xs ← each step count (first + 1) x.1
  Ok (x.0 ∷ xs.0, xs.1)

-- the pieces of text of each value, which are numbered from `first` on
unfoldable pub numbered : {X Y : Type 0} → (ℕ → X → List Y) → ℕ → List X → List Y
numbered lines first [] = []
numbered lines first (x ∷ xs) = lines first x ++ numbered lines (first + 1) xs

-- what holds of each value and its number
unfoldable pub AllNumbered : {X : Type 0} → (ℕ → X → Type 0) → ℕ → List X → Type 0
AllNumbered P first [] = Unit {0}
AllNumbered P first (x ∷ xs) = P first x × AllNumbered P (first + 1) xs
