-- Values at a scale and at its multiples, and what a comparison of a sum with zero says of them.
use Rattle.std.proofs.Common.{◌≡◌, ℕ, ◌*◌, ◌/◌, ◌<◌, ℤ, pos, ◌-ℤ◌, ◌*ℤ◌, ◌<ℤ◌, sym, ◌∙◌, ap, arith}
use Rattle.std.specs.Int.{◌∣◌}
use Rattle.std.proofs.lemmas.Int.{ints}
use Rattle.std.proofs.Math.IntN.{*ℤ_comm}
use Rattle.std.proofs.Math.Nat.{div-mul_cancel, mul-div_cancel}
use Rattle.whole.proofs.Integers.{*ℤ_assoc, *ℤ-≤ℤ, *ℤ-<ℤ, ≤ℤ_of_*ℤ, <ℤ_of_*ℤ, *ℤ_cancel}
use Rattle.weighing.specs.Scaled.{den_of}
use Rattle.weighing.specs.Weighed.{Stands}
use Rattle.weighing.specs.declared.scales.Num.{Num}
use Rattle.weighing.specs.declared.weighings.Rel5.{Rel5}
use Rattle.weighing.specs.declared.weighings.Rel5.TheVariants.{AtMost, Below, AtLeast, Above, Equal}
use Rattle.claim_values.specs.Values.{Compares, number}

part_scaled : (k m d : ℕ) → 0 < d → d ∣ m → k * (m / d) ≡ (k * m) / d
part_scaled k m d some divides =
    let back : m / d * d ≡ m = div-mul_cancel d divides in
    let whole : k * (m / d) * d ≡ k * m = omega (arith, ap (λ n. k * n) back) in
    sym (mul-div_cancel (k * (m / d)) some) ∙ ap (λ n. n / d) whole

pub number_scaled : (k m : ℕ) (n : Num) → 0 < den_of n → den_of n ∣ m → pos k *ℤ number m n ≡ number (k * m) n
number_scaled k m n some divides =
    sym (*ℤ_assoc (pos k) n.num (pos (m / den_of n)))
    ∙ ap (λ z. z *ℤ pos (m / den_of n)) (*ℤ_comm (pos k) n.num)
    ∙ *ℤ_assoc n.num (pos k) (pos (m / den_of n))
    ∙ ap (λ q. n.num *ℤ pos q) (part_scaled k m (den_of n) some divides)

-- the relation of a sum to zero is that of two values whose difference is a multiple of it
pub stands_means : (rel : Rel5) (k t x y : ℤ) → pos 0 <ℤ k → k *ℤ t ≡ x -ℤ y
    → (Stands rel t → Compares rel x y) × (Compares rel x y → Stands rel t)
stands_means AtMost k t x y some is =
    let none : k *ℤ pos 0 ≡ pos 0 = omega (arith, ints) in (
      λ h. let scaled = *ℤ-≤ℤ k t (pos 0) (omega (arith, ints)) h in omega (arith, ints),
      λ h. ≤ℤ_of_*ℤ k t (pos 0) some (omega (arith, ints)),
    )
stands_means Below k t x y some is =
    let none : k *ℤ pos 0 ≡ pos 0 = omega (arith, ints) in (
      λ h. let scaled = *ℤ-<ℤ k t (pos 0) some h in omega (arith, ints),
      λ h. <ℤ_of_*ℤ k t (pos 0) some (omega (arith, ints)),
    )
stands_means AtLeast k t x y some is =
    let none : k *ℤ pos 0 ≡ pos 0 = omega (arith, ints) in (
      λ h. let scaled = *ℤ-≤ℤ k (pos 0) t (omega (arith, ints)) h in omega (arith, ints),
      λ h. ≤ℤ_of_*ℤ k (pos 0) t some (omega (arith, ints)),
    )
stands_means Above k t x y some is =
    let none : k *ℤ pos 0 ≡ pos 0 = omega (arith, ints) in (
      λ h. let scaled = *ℤ-<ℤ k (pos 0) t some h in omega (arith, ints),
      λ h. <ℤ_of_*ℤ k (pos 0) t some (omega (arith, ints)),
    )
stands_means Equal k t x y some is =
    let none : k *ℤ pos 0 ≡ pos 0 = omega (arith, ints) in (
      λ h. let scaled : k *ℤ t ≡ pos 0 = ap (λ z. k *ℤ z) h ∙ none in omega (arith, ints),
      λ h. *ℤ_cancel k t (pos 0) some (is ∙ (let same : x -ℤ y ≡ k *ℤ pos 0 = omega (arith, ints) in same)),
    )
