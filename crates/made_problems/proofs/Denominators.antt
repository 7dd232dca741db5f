-- The denominators of drawn numbers divide 12.
use Rattle.std.proofs.Common.{◌≡◌, ℕ, zero, suc, ◌≤◌, false, List, refl, arith}
use Rattle.std.specs.Prelude.{All, nat_lt}
use Rattle.std.specs.Int.{◌∣◌}
use Rattle.std.proofs.lemmas.Grind.{common_steps}
use Rattle.std.proofs.lemmas.Int.{ints}
use Rattle.std.proofs.lemmas.List.Elements.{All-weaker}
use Rattle.std.proofs.lemmas.Nat.Gcd.{dvd_of_mod-eq-zero, le_of_dvd}
use Rattle.weighing.specs.Scaled.{IsNum, den_of}
use Rattle.weighing.specs.declared.scales.Num.{Num}
use Rattle.ctrl_types.specs.Denominators.{least_common}
use Rattle.ctrl_types.proofs.DenominatorLaws.{is_least_common}
use Rattle.ctrl_gen.specs.Problems.{over}

pub record IsSmall (q : Num) : Type 0 where
  pub size : IsNum q
  pub divides : den_of q ∣ 12

divides_12 : (d : ℕ) → 1 ≤ d → d ≤ 4 → d ∣ 12
divides_12 zero from to = absurd (omega arith)
divides_12 (suc zero) from to = dvd_of_mod-eq-zero 1 refl
divides_12 (suc (suc zero)) from to = dvd_of_mod-eq-zero 2 refl
divides_12 (suc (suc (suc zero))) from to = dvd_of_mod-eq-zero 3 refl
divides_12 (suc (suc (suc (suc zero)))) from to = dvd_of_mod-eq-zero 4 refl
divides_12 (suc (suc (suc (suc (suc d))))) from to = absurd (omega arith)

pub small : (n d : ℕ) → n ≤ 1000 → 1 ≤ d → d ≤ 4 → IsSmall (over n d)
small n d size from to = record {
  size = record { num_to = omega (arith, ints); den_from = omega (arith, ints); den_to = omega (arith, ints) };
  divides = divides_12 d from to;
}

within : (l : ℕ) → l ≤ 12 → nat_lt 1000000 l ≡ false
within l to = grind (arith, common_steps)

pub common_within : (nums : List Num) → All IsSmall nums → nat_lt 1000000 (least_common nums) ≡ false
common_within nums each =
    let least = is_least_common nums (All-weaker IsSmall IsNum (λ q is. is.size) nums each) in
    let divides : least_common nums ∣ 12 = least.least 12 (All-weaker IsSmall (λ (q : Num). den_of q ∣ 12) (λ q is. is.divides) nums each) in
    within (least_common nums) (le_of_dvd (omega arith) divides)
