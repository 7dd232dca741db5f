use Rattle.std.specs.Prelude.{◌≡◌, ℕ, ◌+◌, ◌-◌, ◌^◌, ◌<◌, min, List, ◌++◌, ◌⊎◌, Option, IfSome}
use Rattle.std.specs.Option.{option_map}

-- a counter after one more event, which stays at its last value
abbrev pub one_more : ℕ → ℕ
one_more n = min (n + 1) (2 ^ 64 - 1)

-- a counter went up in a call, where one that stands at its last value counts as having gone up
abbrev pub HasRisen : ℕ → ℕ → Type 0
HasRisen old new = (old < new) ⊎ (new ≡ 2 ^ 64 - 1)

-- the bytes are what is told, if anything is
abbrev pub Tells : Option (List ℕ) → List ℕ → Type 0
Tells told bytes = IfSome told (λ held. bytes ≡ held)

-- a text that may be told has got these bytes at its end
abbrev pub Appends : Option (List ℕ) → Option (List ℕ) → List ℕ → Type 0
Appends old new bytes = new ≡ option_map (λ text. text ++ bytes) old

-- a folder, by the names of its files: what each holds, if that is told, how often it couldn't be read, and how often it held
-- more than was allowed
pub record Told : Type 0 where
  pub content : List ℕ → Option (List ℕ)
  pub faults : List ℕ → ℕ
  pub excesses : List ℕ → ℕ

-- a sink: the text that it got, if that is told, and how often it couldn't take one
pub record Got : Type 0 where
  pub text : Option (List ℕ)
  pub faults : ℕ
