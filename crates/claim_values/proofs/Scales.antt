-- Scales grow from denominator to denominator: each is the least common multiple of the one before and of a number's denominator.
use Rattle.std.proofs.Common.{◌≡◌, ℕ, ◌+◌, ◌*◌, ◌<◌, ◌≤◌, List, [], ◌∷◌, get_or, length, drop, sym, ◌∙◌, ap, arith}
use Rattle.std.specs.Prelude.{All, fold}
use Rattle.std.proofs.lemmas.Int.{ints}
use Rattle.std.specs.Int.{◌∣◌}
use Rattle.std.proofs.Math.Nat.{dvd-mul_left, dvd-mul_right, pos_of_dvd_of_pos, mul-lt-mul_of_pos_left}
use Rattle.std.proofs.lemmas.Nat.Gcd.{le_of_dvd}
use Rattle.std.proofs.lemmas.List.{drop_more}
use Rattle.std.proofs.lemmas.List.Elements.{All-head, All-tail, All-get_or, All-drop}
use Rattle.whole.proofs.Divisors.{IsLcm-lcm_of}
use Rattle.weighing.specs.Scaled.{IsNum, common, den_of}
use Rattle.weighing.specs.declared.scales.Num.{Num}

pub some_den : (n : Num) → IsNum n → 0 < den_of n
some_den n is = let from = is.den_from in omega (arith, ints)

-- what a common scale is of a scale and of a denominator
pub record IsCommon (s : ℕ) (n : Num) : Type 0 where
  pub some : 1 ≤ common s n
  pub grown : s ≤ common s n
  pub of_scale : s ∣ common s n
  pub of_den : den_of n ∣ common s n
  pub least : (m : ℕ) → s ∣ m → den_of n ∣ m → common s n ∣ m

pub is_common : (s : ℕ) (n : Num) → 1 ≤ s → IsNum n → IsCommon s n
is_common s n from is =
    let d : ℕ = den_of n in
    let some_s : 0 < s = omega arith in
    let some_d : 0 < d = some_den n is in
    let lcm = IsLcm-lcm_of s d some_s some_d in
    let product : 0 < s * d = omega (arith, mul-lt-mul_of_pos_left some_d some_s) in
    let some : 0 < common s n = pos_of_dvd_of_pos (lcm.2 (s * d) (dvd-mul_right s d) (dvd-mul_left d s)) product in
    record { some = omega arith; grown = le_of_dvd some lcm.0; of_scale = lcm.0; of_den = lcm.1; least = lcm.2 }

-- ---- the numbers of a list, one after another

abbrev pub scale_over : {X : Type 0} → (X → Num) → ℕ → List X → ℕ
scale_over num s xs = fold (λ m x. common m (num x)) s xs

pub scale_grows : {X : Type 0} (num : X → Num) (s : ℕ) (xs : List X) → 1 ≤ s → All (λ x. IsNum (num x)) xs → s ≤ scale_over num s xs
scale_grows num s [] from each = omega arith
scale_grows {X} num s (x ∷ xs) from each =
    let P : X → Type 0 = λ y. IsNum (num y) in
    let here = is_common s (num x) from (All-head P x xs each) in
    let rest = scale_grows num (common s (num x)) xs here.some (All-tail P x xs each) in
    omega (arith, here.grown, rest)

-- one more denominator in the scale
pub record ScaleStep {X : Type 0} (num : X → Num) (s start : ℕ) (xs : List X) (i : ℕ) (x : X) : Type 0 where
  pub number_in : IsNum (num x)
  pub least_to : common s (num x) ≤ 1000000
  pub next : scale_over num (common s (num x)) (drop (i + 1) xs) ≡ scale_over num start xs
  pub some : 1 ≤ common s (num x)

pub scale_step : {X : Type 0} (num : X → Num) (s start : ℕ) (xs : List X) (i : ℕ) (d : X) → i < length xs → All (λ x. IsNum (num x)) xs → 1 ≤ s
    → scale_over num s (drop i xs) ≡ scale_over num start xs → scale_over num start xs ≤ 1000000 → ScaleStep num s start xs i (get_or xs i d)
scale_step {X} num s start xs i d inside each from so_far small =
    let P : X → Type 0 = λ y. IsNum (num y) in
    let x : X = get_or xs i d in
    let number : IsNum (num x) = All-get_or P xs i d inside each in
    let here = is_common s (num x) from number in
    let next : scale_over num (common s (num x)) (drop (i + 1) xs) ≡ scale_over num start xs =
    ap (scale_over num s) (sym (drop_more xs i d inside)) ∙ so_far in
    let rest = scale_grows num (common s (num x)) (drop (i + 1) xs) here.some (All-drop P (i + 1) xs each) in
    record { number_in = number; least_to = omega (arith, rest, next, small); next = next; some = here.some }
