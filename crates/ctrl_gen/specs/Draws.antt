-- The numbers of a seed: a linear congruential generator over 64 bits.
use Rattle.std.specs.Prelude.{◌≡◌, ℕ, zero, suc, ◌+◌, ◌*◌, ◌/◌, ◌%◌, ◌^◌, List, [], ◌∷◌, ◌++◌}

-- what is drawn from a state of the generator, with the state after it
abbrev pub Drawing : Type 0 → Type 0
Drawing A = ℕ → A × ℕ

abbrev pub next : ℕ → ℕ
next x = (x * 6364136223846793005 + 1442695040888963407) % 2 ^ 64

-- the next number below so many sides
unfoldable pub draw : ℕ → Drawing ℕ
draw sides x = ((next x / 2 ^ 33) % sides, next x)

-- one after another for the numbers 1 to n
unfoldable pub each : {A : Type 0} → (ℕ → Drawing A) → ℕ → Drawing (List A)
each drawing zero x = ([], x)
each drawing (suc n) x =
    let before = each drawing n x in
    let last = drawing (suc n) before.1 in
    (before.0 ++ last.0 ∷ [], last.1)

-- this value was drawn, and the generator has come to this state
abbrev pub IsDrawn : {A : Type 0} → A → ℕ → A × ℕ → Type 0
IsDrawn value state drawn = (value ≡ drawn.0) × (state ≡ drawn.1)
