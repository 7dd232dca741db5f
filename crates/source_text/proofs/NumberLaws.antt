-- Numbers that count as 2^32 - 1 where they exceed it.
use Rattle.std.proofs.Common.{◌≡◌, ℕ, ◌+◌, ◌-◌, ◌*◌, ◌^◌, ◌<◌, List, [], ◌∷◌, arith}
use Rattle.text_lines.specs.Numbers.{value_after}
use Rattle.source_text.specs.Cutting.{saturated}

pub saturated_small : (n : ℕ) → n < 2 ^ 32 → saturated n ≡ n
saturated_small n small = omega arith

step_saturates : (m n d : ℕ) → saturated m ≡ saturated n → saturated (m * 10 + d) ≡ saturated (n * 10 + d)
step_saturates m n d e = omega arith

-- more digits behind numbers that count alike
pub saturated_after : (m n : ℕ) (digits : List ℕ) → saturated m ≡ saturated n → saturated (value_after m digits) ≡ saturated (value_after n digits)
unfolding value_after
saturated_after m n [] e = e
saturated_after m n (c ∷ digits) e = saturated_after (m * 10 + (c - 48)) (n * 10 + (c - 48)) digits (step_saturates m n (c - 48) e)
