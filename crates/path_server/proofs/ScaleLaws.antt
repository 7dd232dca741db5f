-- The factors of the comparisons, multiplied up to those of the inequalities.
use Rattle.std.proofs.Common.{◌≡◌, ℕ, zero, suc, ◌*◌, ◌/◌, ◌<◌, ℤ, pos, ◌*ℤ◌, ◌≤ℤ◌, ◌<ℤ◌, neg_ℤ, unsigned_abs, Some, sym, ◌∙◌, ap, arith}
use Rattle.std.proofs.lemmas.Int.{ints}
use Rattle.std.specs.Int.{◌∣◌}
use Rattle.std.proofs.Math.IntN.{*ℤ_comm}
use Rattle.std.proofs.Math.Nat.{div-mul_cancel, mul-div_cancel, dvd-mul_left, dvd-mul_right, mul_comm, mul-lt-mul_of_pos_left}
use Rattle.whole.specs.Numbers.{lcm_of}
use Rattle.whole.specs.declared.answers.Pair.{Pair}
use Rattle.whole.proofs.Divisors.{IsLcm-lcm_of}
use Rattle.whole.proofs.Integers.{*ℤ-neg_ℤ, *ℤ-one}
use Rattle.path_server.specs.Claims.{common_scale, rate_scale}
use Rattle.path_server.specs.Limits.{IsNumber, IsServer}
use Rattle.path_server.specs.Rules.{buffer_den, unit}
use Rattle.path_server.specs.Servers.{Server}
use Rattle.path_server.proofs.Measures.{Measures}

pub rate_measures : (p : Server) → Measures p (rate_scale p) (buffer_den p.buffer)
rate_measures p = record {
  unit_is = *ℤ_comm (buffer_den p.buffer) p.rate.den;
  minus_is = *ℤ-neg_ℤ (buffer_den p.buffer) p.rate.den ∙ ap neg_ℤ (*ℤ_comm (buffer_den p.buffer) p.rate.den);
  rate_is = *ℤ-one (buffer_den p.buffer);
}

-- k times the common multiple m of a and b is their product: so is k times what m is of one of them the other
record IsCofactor (a b m k : ℕ) : Type 0 where
  some : 0 < k
  whole : k * m ≡ a * b
  left : k * (m / a) ≡ b
  right : k * (m / b) ≡ a

other_part : (a b m k : ℕ) → 0 < a → a ∣ m → k * m ≡ a * b → k * (m / a) ≡ b
other_part a b m k some d e =
    let back : m / a * a ≡ m = div-mul_cancel a d in
    let both : k * (m / a) * a ≡ b * a = omega (arith, e, ap (λ n. k * n) back) in
    sym (mul-div_cancel (k * (m / a)) some) ∙ ap (λ n. n / a) both ∙ mul-div_cancel b some

cofactor_of : (a b : ℕ) → 0 < a → 0 < b → IsCofactor a b (lcm_of a b) (a * b / lcm_of a b)
cofactor_of a b some_a some_b =
    let least = IsLcm-lcm_of a b some_a some_b in
    let m : ℕ = lcm_of a b in
    let k : ℕ = a * b / m in
    let whole : k * m ≡ a * b = div-mul_cancel m (least.2 (a * b) (dvd-mul_right a b) (dvd-mul_left b a)) in
    let product : 0 < a * b = omega (arith, mul-lt-mul_of_pos_left some_b some_a) in record {
      some = above_zero k m (a * b) whole product;
      whole = whole;
      left = other_part a b m k some_a least.0 whole;
      right = other_part b a m k some_b least.1 (whole ∙ mul_comm a b);
    }
  where
    above_zero : (k m n : ℕ) → k * m ≡ n → 0 < n → 0 < k
    above_zero zero m n e some = omega (arith, e)
    above_zero (suc k) m n e some = omega arith

-- a number above 0 is its size
size_is : (z : ℤ) → pos 1 ≤ℤ z → pos (unsigned_abs z) ≡ z
size_is z h = omega (arith, ints)

some_size : (z : ℤ) → pos 1 ≤ℤ z → 0 < unsigned_abs z
some_size z h = omega (arith, ints)

-- by what the common scale is multiplied
abbrev pub common_cofactor : Server → Pair → ℤ
common_cofactor p b =
    let m = lcm_of (unsigned_abs p.rate.den) (unsigned_abs b.den) in pos (unsigned_abs p.rate.den * unsigned_abs b.den / m)

pub record MeasuresAll (p : Server) (b : Pair) : Type 0 where
  pub some : pos 0 <ℤ common_cofactor p b
  pub measures : Measures p (common_scale p b) (common_cofactor p b)
  pub buffer_is : common_cofactor p b *ℤ (common_scale p b).buffer ≡ p.rate.den

pub common_measures : (p : Server) (b : Pair) → IsServer p → IsNumber b → p.buffer ≡ Some b → MeasuresAll p b
common_measures p b path number is =
    let u : ℕ = unsigned_abs p.rate.den in
    let v : ℕ = unsigned_abs b.den in
    let u_is : pos u ≡ p.rate.den = size_is p.rate.den path.rate.den_from in
    let v_is : pos v ≡ b.den = size_is b.den number.den_from in
    let den_is : b.den ≡ buffer_den p.buffer = sym (ap buffer_den is) in
    let k = cofactor_of u v (some_size p.rate.den path.rate.den_from) (some_size b.den number.den_from) in
    let unit_is : common_cofactor p b *ℤ pos (lcm_of u v) ≡ unit p =
    (ap pos k.whole ∙ ap (λ n. n *ℤ pos v) u_is ∙ ap (λ n. p.rate.den *ℤ n) (v_is ∙ den_is)) in record {
      some = let some = k.some in omega (arith, ints);
      measures = record {
        unit_is = unit_is;
        minus_is = *ℤ-neg_ℤ (common_cofactor p b) (pos (lcm_of u v)) ∙ ap neg_ℤ unit_is;
        rate_is = ap pos k.left ∙ v_is ∙ den_is;
      };
      buffer_is = ap pos k.right ∙ u_is;
    }
