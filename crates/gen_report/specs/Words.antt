-- The words of `gen SEED SIZE`.
use Rattle.std.specs.Prelude.{◌&&◌, ℕ, List, [], ◌∷◌, Option, None, Some, Result, Ok, Err, codes, nat_le, ◌^◌, ◌-◌, if◌then◌else◌, option_and_then, option_map}
use Rattle.std.specs.Str.{bytes_eq}
use Rattle.text_lines.specs.Numbers.{read_natural}
use Rattle.text_lines.specs.declared.items.ItemFault.{ItemFault}

abbrev pub within : ℕ → ℕ → Result ℕ ItemFault → Option ℕ
within low high (Ok n) = if nat_le low n && nat_le n high then Some n else None
within low high (Err fault) = None

-- the number that a word spells, digits with no leading zero, where it is from low to high
abbrev pub number_in : ℕ → ℕ → List ℕ → Option ℕ
number_in low high word = within low high (read_natural word)

-- a seed, and the number of steps
pub record Seeded : Type 0 where
  pub seed : ℕ
  pub size : ℕ

abbrev pub seeded : List ℕ → List ℕ → Option Seeded
seeded seed size = option_and_then (λ s. option_map (λ n. record { seed = s; size = n }) (number_in 1 32 size)) (number_in 0 (2 ^ 64 - 1) seed)

-- the seed and the size of `gen SEED SIZE`
abbrev pub seeded_by : List (List ℕ) → Option Seeded
seeded_by [] = None
seeded_by (word ∷ []) = None
seeded_by (word ∷ seed ∷ []) = None
seeded_by (word ∷ seed ∷ size ∷ []) = if bytes_eq word (codes "gen") then seeded seed size else None
seeded_by (word ∷ seed ∷ size ∷ more ∷ words) = None
