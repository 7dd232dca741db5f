-- Things with numbers in order, as they are drawn one after another.
use Rattle.std.proofs.Common.{◌≡◌, ℕ, zero, suc, ◌+◌, ◌<◌, List, [], ◌∷◌, ◌++◌, subst, arith}
use Rattle.ctrl_gen.specs.Draws.{Drawing, draw, each}

-- so many things, the first of which has this number
pub data Numbered {X : Type 0} (Is : ℕ → X → Type 0) : ℕ → ℕ → List X → Type 0 where
  none : {k : ℕ} → Numbered Is k zero []
  next : {k n : ℕ} {x : X} {xs : List X} → Is k x → Numbered Is (suc k) n xs → Numbered Is k (suc n) (x ∷ xs)

pub numbered_push : {X : Type 0} (Is : ℕ → X → Type 0) {k n : ℕ} {xs : List X} (x : X) (j : ℕ) → Numbered Is k n xs → j ≡ n + k → Is j x → Numbered Is k (suc n) (xs ++ x ∷ [])
numbered_push Is {k} x j none e is = let same : j ≡ k = omega arith in next (subst (λ i. Is i x) same is) none
numbered_push Is {k} x j (next {n = n} first rest) e is = let later : j ≡ n + suc k = omega arith in next first (numbered_push Is x j rest later is)

pub each_numbered : {X : Type 0} (Is : ℕ → X → Type 0) (drawing : ℕ → Drawing X) → ((j x : ℕ) → Is j (drawing j x).0) → (n x : ℕ) → Numbered Is 1 n (each drawing n x).0
unfolding each
each_numbered Is drawing holds zero x = none
each_numbered Is drawing holds (suc n) x =
    let before = each drawing n x in
    let last : suc n ≡ n + 1 = omega arith in
    numbered_push Is (drawing (suc n) before.1).0 (suc n) (each_numbered Is drawing holds n x) last (holds (suc n) before.1)

-- a number that is drawn is below the number of sides
pub draw_below : (sides x : ℕ) → 0 < sides → (draw sides x).0 < sides
unfolding draw
draw_below sides x some = omega arith
