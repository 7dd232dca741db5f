-- Whole numbers multiplied by a number above 0: their order stays
use Rattle.std.proofs.Common.{◌≡◌, ℕ, suc, ◌/◌, ◌<◌, ℤ, pos, negsuc, ◌*ℤ◌, ◌<ℤ◌, ◌≤ℤ◌, unsigned_abs, int_div, neg_ℤ, ap, ◌∙◌, subst₂, arith, Ordering, Less, Equal, Greater, int_cmp}
use Rattle.std.proofs.lemmas.Int.{ints}
use Rattle.std.proofs.Math.Nat.{div-mul_cancel}
use Rattle.std.proofs.Math.IntN.{*ℤ_comm}
use Rattle.std.specs.Int.{◌∣◌}
use Rattle.std.specs.Ordering.{MatchOrdering}
use Rattle.std.specs.Cmp.{int_ranks, int_cmp_is}
use Rattle.whole.proofs.Integers.{*ℤ-<ℤ, *ℤ_cancel, neg_ℤ-*ℤ}

less_scaled : (a b : ℤ) (k : ℕ) → 0 < k → a <ℤ b → (a *ℤ pos k) <ℤ (b *ℤ pos k)
less_scaled a b k some h =
    subst₂ (λ x y. x <ℤ y) (*ℤ_comm (pos k) a) (*ℤ_comm (pos k) b) (*ℤ-<ℤ (pos k) a b (omega (arith, ints)) h)

match_scaled : (a b : ℤ) (k : ℕ) → 0 < k → (o : Ordering) → MatchOrdering o (a <ℤ b) (a ≡ b) (b <ℤ a) → MatchOrdering o ((a *ℤ pos k) <ℤ (b *ℤ pos k)) (a *ℤ pos k ≡ b *ℤ pos k) ((b *ℤ pos k) <ℤ (a *ℤ pos k))
match_scaled a b k some Less h = less_scaled a b k some h
match_scaled a b k some Equal h = ap (λ z. z *ℤ pos k) h
match_scaled a b k some Greater h = less_scaled b a k some h

-- two numbers compare as their products with one factor do
pub int_cmp-scaled : (a b : ℤ) (k : ℕ) → 0 < k → int_cmp a b ≡ int_cmp (a *ℤ pos k) (b *ℤ pos k)
int_cmp-scaled a b k some =
    int_cmp_is (a *ℤ pos k) (b *ℤ pos k) (int_cmp a b) (match_scaled a b k some (int_cmp a b) (int_ranks a b))

-- a factor above 0 cancels
pub cancel_scale : (a b : ℤ) (k : ℕ) → 0 < k → a *ℤ pos k ≡ b *ℤ pos k → a ≡ b
cancel_scale a b k some e =
    *ℤ_cancel (pos k) a b (omega (arith, ints)) (*ℤ_comm (pos k) a ∙ e ∙ *ℤ_comm b (pos k))

-- an exact division
pub exact_quotient : (a d : ℤ) → pos 1 ≤ℤ d → unsigned_abs d ∣ unsigned_abs a → int_div a d *ℤ d ≡ a
exact_quotient (pos a) (pos d) some h = ap pos (div-mul_cancel d h)
exact_quotient (negsuc a) (pos d) some h = neg_ℤ-*ℤ (pos (suc a / d)) (pos d) ∙ ap (λ n. neg_ℤ (pos n)) (div-mul_cancel d h)
exact_quotient a (negsuc d) some h = absurd (omega (arith, ints))
