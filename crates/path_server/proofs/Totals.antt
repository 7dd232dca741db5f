-- The exact sums of the comparisons' parts: of parts joined, and of terms for each flow.
use Rattle.std.proofs.Common.{◌≡◌, ℕ, zero, suc, ℤ, ◌+ℤ◌, ◌*ℤ◌, List, [], ◌∷◌, ◌++◌, arith}
use Rattle.std.proofs.lemmas.Int.{ints}
use Rattle.whole.proofs.Integers.{*ℤ-+ℤ}
use Rattle.weighing.specs.Claim.{total}
use Rattle.weighing.specs.Weighed.{times}
use Rattle.weighing.specs.declared.weighings.Summand.{Summand}
use Rattle.run_rows.specs.Runs.{over_flows}
use Rattle.claims.specs.Subjects.{each_flow}

pub total-append : (xs ys : List Summand) → total (xs ++ ys) ≡ total xs +ℤ total ys
total-append [] ys = omega (arith, ints)
total-append (t ∷ xs) ys = let rest = total-append xs ys in omega (arith, ints)

-- one term for each flow
pub total-each_flow : (k : ℤ) (x : ℕ → ℤ) (n : ℕ) → total (each_flow (λ f. times k (x f) ∷ []) n) ≡ k *ℤ over_flows x n
unfolding over_flows
total-each_flow k x zero = omega (arith, ints)
total-each_flow k x (suc n) =
    let before = total-each_flow k x n in
    let joined = total-append (each_flow (λ f. times k (x f) ∷ []) n) (times k (x (suc n)) ∷ []) in
    simp *ℤ-+ℤ (omega (arith, ints))

-- two terms for each flow
pub total-each_flow_2 : (k m : ℤ) (x y : ℕ → ℤ) (n : ℕ)
    → total (each_flow (λ f. times k (x f) ∷ times m (y f) ∷ []) n) ≡ k *ℤ over_flows x n +ℤ m *ℤ over_flows y n
unfolding over_flows
total-each_flow_2 k m x y zero = omega (arith, ints)
total-each_flow_2 k m x y (suc n) =
    let before = total-each_flow_2 k m x y n in
    let joined = total-append (each_flow (λ f. times k (x f) ∷ times m (y f) ∷ []) n) (times k (x (suc n)) ∷ times m (y (suc n)) ∷ []) in
    simp *ℤ-+ℤ (omega (arith, ints))
