-- How two fractions compare, by their whole parts and by what is left of them
use Rattle.std.proofs.Common.{◌≡◌, ℕ, ◌+◌, ◌*◌, ◌/◌, ◌%◌, ◌<◌, sym, ◌∙◌, subst, arith, refl, inl, inr, ◌⊎◌, mul-lt-mul_of_pos_right, mul-le-mul_left, mul-pos, Ordering, Less, Equal, Greater, mod-lt, div-add-mod'}
use Rattle.std.specs.Ordering.{nat_cmp, ordering_then, MatchOrdering}
use Rattle.std.specs.Cmp.{ranks, nat_cmp_is}

-- the greater whole part decides, since what is left is less than one
less_by_whole : (q p b d r s : ℕ) → r < b → 0 < d → q < p → (q * b + r) * d < (p * d + s) * b
less_by_whole q p b d r s small some h =
    omega (arith, mul-lt-mul_of_pos_right small some, mul-le-mul_left (b * d) h)

-- with equal whole parts what is left decides
same_whole : (q b d r s : ℕ) (o : Ordering) → MatchOrdering o (r * d < s * b) (r * d ≡ s * b) (s * b < r * d) → MatchOrdering o ((q * b + r) * d < (q * d + s) * b) ((q * b + r) * d ≡ (q * d + s) * b) ((q * d + s) * b < (q * b + r) * d)
same_whole q b d r s Less h = omega arith
same_whole q b d r s Equal h = omega arith
same_whole q b d r s Greater h = omega arith

by_whole : (q p b d r s : ℕ) → r < b → s < d → (o : Ordering) → MatchOrdering o (q < p) (q ≡ p) (p < q) → ordering_then o (nat_cmp (r * d) (s * b)) ≡ nat_cmp ((q * b + r) * d) ((p * d + s) * b)
by_whole q p b d r s left right Less h =
    nat_cmp_is _ _ Less (less_by_whole q p b d r s left (omega arith) h)
by_whole q p b d r s left right Equal h =
    subst (λ n. nat_cmp (r * d) (s * b) ≡ nat_cmp ((q * b + r) * d) ((n * d + s) * b)) h
    (nat_cmp_is _ _ (nat_cmp (r * d) (s * b)) (same_whole q b d r s (nat_cmp (r * d) (s * b)) (ranks (r * d) (s * b))))
by_whole q p b d r s left right Greater h =
    nat_cmp_is _ _ Greater (less_by_whole p q d b s r right (omega arith) h)

pub compare_by_whole : (a b c d : ℕ) → 0 < b → 0 < d → ordering_then (nat_cmp (a / b) (c / d)) (nat_cmp (a % b * d) (c % d * b)) ≡ nat_cmp (a * d) (c * b)
compare_by_whole a b c d left right =
    let e = by_whole (a / b) (c / d) b d (a % b) (c % d) (mod-lt a left) (mod-lt c right) (nat_cmp (a / b) (c / d)) (ranks (a / b) (c / d)) in
    rw (div-add-mod' a b, div-add-mod' c d) at e

-- where one rest is zero, the rests compare as their fractions do
ended : (r s b d : ℕ) → 0 < b → 0 < d → (r ≡ 0) ⊎ (s ≡ 0) → (o : Ordering) → MatchOrdering o (r < s) (r ≡ s) (s < r) → MatchOrdering o (r * d < s * b) (r * d ≡ s * b) (s * b < r * d)
ended r s b d left right (inl none) Less h = grind (arith, mul-pos)
ended r s b d left right (inl none) Equal h = grind arith
ended r s b d left right (inl none) Greater h = absurd (omega arith)
ended r s b d left right (inr none) Less h = absurd (omega arith)
ended r s b d left right (inr none) Equal h = grind arith
ended r s b d left right (inr none) Greater h = grind (arith, mul-pos)

pub compare_ended : (r s b d : ℕ) → 0 < b → 0 < d → (r ≡ 0) ⊎ (s ≡ 0) → nat_cmp r s ≡ nat_cmp (r * d) (s * b)
compare_ended r s b d left right none =
    nat_cmp_is _ _ (nat_cmp r s) (ended r s b d left right none (nat_cmp r s) (ranks r s))

-- with equal whole parts the fractions compare as their rests do
pub compare_rests : (a b c d : ℕ) → 0 < b → 0 < d → Equal ≡ nat_cmp (a / b) (c / d) → nat_cmp (a % b * d) (c % d * b) ≡ nat_cmp (a * d) (c * b)
compare_rests a b c d left right same =
    subst (λ o. ordering_then o (nat_cmp (a % b * d) (c % d * b)) ≡ nat_cmp (a * d) (c * b)) (sym same) (compare_by_whole a b c d left right)

decided : (o rest : Ordering) → (o ≡ Equal → ⊥) → ordering_then o rest ≡ o
decided Less rest h = refl
decided Equal rest h = absurd (h refl)
decided Greater rest h = refl

-- whole parts that differ decide
pub compare_wholes : (a b c d : ℕ) → 0 < b → 0 < d → (nat_cmp (a / b) (c / d) ≡ Equal → ⊥) → nat_cmp (a / b) (c / d) ≡ nat_cmp (a * d) (c * b)
compare_wholes a b c d left right differ =
    sym (decided (nat_cmp (a / b) (c / d)) (nat_cmp (a % b * d) (c % d * b)) differ) ∙ compare_by_whole a b c d left right
