-- The claims of a path with one or two flows on a row are few.
use Rattle.std.proofs.Common.{◌≡◌, ℕ, zero, suc, ◌<◌, ◌≤◌, ◌==◌, ◌⊎◌, inl, inr, true, false, Option, Some, None, subst, arith}
use Rattle.std.specs.Prelude.{nat_lt}
use Rattle.std.proofs.lemmas.Bool.{cases_lt}
use Rattle.std.proofs.lemmas.Bool.Decides.{nat_tests}
use Rattle.whole.specs.declared.answers.Pair.{Pair}
use Rattle.claims.specs.Subjects.{part}
use Rattle.path_server.specs.Claims.{acceptance_claims, buffer_claims, ceiling_claims, floor_claims, full_or_none, growth_claims, loss_claims, nothing_waits, queue_fits, queue_was_full, service_claims, start_claims, waste_claims, waste_rate_claims}
use Rattle.path_server.specs.RowClaims.{claims_of_rule, row_claims}
use Rattle.path_server.specs.Servers.{Server}
use Rattle.made_sizes.proofs.Measures.{Measured, measured_own}

abbrev server : Pair → ℕ → Option Pair → Server
server rate jitter buffer = record { rate = rate; jitter = jitter; buffer = buffer }

module _ (rate : Pair) (jitter : ℕ) where
  -- the first row
  first_of_one : (buffer : Option Pair) → Measured (row_claims part 1 (server rate jitter buffer) 0) 19 24 60
  unfolding row_claims claims_of_rule start_claims growth_claims service_claims ceiling_claims floor_claims nothing_waits waste_claims acceptance_claims
      queue_fits buffer_claims queue_was_full full_or_none loss_claims waste_rate_claims
  first_of_one None = measured_own (row_claims part 1 (server rate jitter None) 0) 19 24 60 (omega arith) (omega arith) (omega arith)
  first_of_one (Some b) = measured_own (row_claims part 1 (server rate jitter (Some b)) 0) 19 24 60 (omega arith) (omega arith) (omega arith)

  first_of_two : (buffer : Option Pair) → Measured (row_claims part 2 (server rate jitter buffer) 0) 19 24 60
  unfolding row_claims claims_of_rule start_claims growth_claims service_claims ceiling_claims floor_claims nothing_waits waste_claims acceptance_claims
      queue_fits buffer_claims queue_was_full full_or_none loss_claims waste_rate_claims
  first_of_two None = measured_own (row_claims part 2 (server rate jitter None) 0) 19 24 60 (omega arith) (omega arith) (omega arith)
  first_of_two (Some b) = measured_own (row_claims part 2 (server rate jitter (Some b)) 0) 19 24 60 (omega arith) (omega arith) (omega arith)

  -- a row behind it
  module _ (i : ℕ) (some : nat_lt 0 i ≡ true) (other : (i == 0) ≡ false) where
    later_of_one : (buffer : Option Pair) → Measured (row_claims part 1 (server rate jitter buffer) i) 19 24 60
    unfolding row_claims claims_of_rule start_claims growth_claims service_claims ceiling_claims floor_claims nothing_waits waste_claims acceptance_claims
        queue_fits buffer_claims queue_was_full full_or_none loss_claims waste_rate_claims
    later_of_one None = rw (some, other) (measured_own _ 19 24 60 (omega arith) (omega arith) (omega arith))
    later_of_one (Some b) = rw (some, other) (measured_own _ 19 24 60 (omega arith) (omega arith) (omega arith))

    later_of_two : (buffer : Option Pair) → Measured (row_claims part 2 (server rate jitter buffer) i) 19 24 60
    unfolding row_claims claims_of_rule start_claims growth_claims service_claims ceiling_claims floor_claims nothing_waits waste_claims acceptance_claims
        queue_fits buffer_claims queue_was_full full_or_none loss_claims waste_rate_claims
    later_of_two None = rw (some, other) (measured_own _ 19 24 60 (omega arith) (omega arith) (omega arith))
    later_of_two (Some b) = rw (some, other) (measured_own _ 19 24 60 (omega arith) (omega arith) (omega arith))

  for_flows : (n i : ℕ) (buffer : Option Pair) → 1 ≤ n → n ≤ 2 → (i < 1) ⊎ (1 ≤ i) → Measured (row_claims part n (server rate jitter buffer) i) 19 24 60
  for_flows zero i buffer from to row = absurd (omega arith)
  for_flows (suc zero) i buffer from to (inl first) =
      let is : 0 ≡ i = omega arith in subst (λ (k : ℕ). Measured (row_claims part 1 (server rate jitter buffer) k) 19 24 60) is (first_of_one buffer)
  for_flows (suc zero) i buffer from to (inr later) = later_of_one i (grind (arith, nat_tests)) (grind (arith, nat_tests)) buffer
  for_flows (suc (suc zero)) i buffer from to (inl first) =
      let is : 0 ≡ i = omega arith in subst (λ (k : ℕ). Measured (row_claims part 2 (server rate jitter buffer) k) 19 24 60) is (first_of_two buffer)
  for_flows (suc (suc zero)) i buffer from to (inr later) = later_of_two i (grind (arith, nat_tests)) (grind (arith, nat_tests)) buffer
  for_flows (suc (suc (suc n))) i buffer from to row = absurd (omega arith)

pub path_measured : (n : ℕ) (p : Server) (i : ℕ) → 1 ≤ n → n ≤ 2 → Measured (row_claims part n p i) 19 24 60
path_measured n p i from to = for_flows p.rate p.jitter n i p.buffer from to (cases_lt i 1)
