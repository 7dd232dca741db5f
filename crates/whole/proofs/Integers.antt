-- The ring and the order of the whole numbers: what std has not of `*ℤ`.
-- A number is its part above 0 less its part below 0, so each law is one of naturals.
use Rattle.std.proofs.Common.{◌≡◌, ◌+◌, ◌*◌, ◌≤◌, ◌<◌, ℤ, pos, negsuc, ◌+ℤ◌, ◌-ℤ◌, ◌*ℤ◌, ◌≤ℤ◌, ◌<ℤ◌, neg_ℤ, unsigned_abs, refl, ◌∙◌, ap, arith, ◌⊎◌, inl, inr}
use Rattle.std.proofs.lemmas.Int.{ints, by_lt_z}
use Rattle.std.proofs.Math.IntN.{*ℤ_comm}
use Rattle.std.proofs.Math.Nat.{mul-le-mul_left, mul-lt-mul_of_pos_left}
use borrow.Author.Differences.{up, down, product_is, sum_is_lem, neg_is, same_in, le_in, lt_in}

-- ---- the ring

pub +ℤ-*ℤ : (a b c : ℤ) → (a +ℤ b) *ℤ c ≡ a *ℤ c +ℤ b *ℤ c
+ℤ-*ℤ a b c =
    same_in _ _ (omega (arith, product_is (a +ℤ b) c, product_is a c, product_is b c, sum_is_lem (a *ℤ c) (b *ℤ c), ap (λ n. n * up c) (sum_is_lem a b), ap (λ n. n * down c) (sum_is_lem a b)))

pub *ℤ-+ℤ : (a b c : ℤ) → a *ℤ (b +ℤ c) ≡ a *ℤ b +ℤ a *ℤ c
*ℤ-+ℤ a b c =
    same_in _ _ (omega (arith, product_is a (b +ℤ c), product_is a b, product_is a c, sum_is_lem (a *ℤ b) (a *ℤ c), ap (λ n. up a * n) (sum_is_lem b c), ap (λ n. down a * n) (sum_is_lem b c)))

pub *ℤ_assoc : (a b c : ℤ) → a *ℤ b *ℤ c ≡ a *ℤ (b *ℤ c)
*ℤ_assoc a b c =
    let ab = product_is a b in
    let bc = product_is b c in
    same_in _ _ (omega (arith, product_is (a *ℤ b) c, product_is a (b *ℤ c), ap (λ n. n * up c) ab.0, ap (λ n. n * down c) ab.0, ap (λ n. n * up c) ab.1, ap (λ n. n * down c) ab.1, ap (λ n. up a * n) bc.0, ap (λ n. down a * n) bc.0, ap (λ n. up a * n) bc.1, ap (λ n. down a * n) bc.1))

pub neg_ℤ-*ℤ : (a b : ℤ) → neg_ℤ a *ℤ b ≡ neg_ℤ (a *ℤ b)
neg_ℤ-*ℤ a b =
    let na = neg_is a in
    same_in _ _ (omega (arith, product_is (neg_ℤ a) b, product_is a b, neg_is (a *ℤ b), ap (λ n. n * up b) na.0, ap (λ n. n * down b) na.0, ap (λ n. n * up b) na.1, ap (λ n. n * down b) na.1))

pub *ℤ-neg_ℤ : (a b : ℤ) → a *ℤ neg_ℤ b ≡ neg_ℤ (a *ℤ b)
*ℤ-neg_ℤ a b = *ℤ_comm a (neg_ℤ b) ∙ neg_ℤ-*ℤ b a ∙ ap neg_ℤ (*ℤ_comm b a)

pub neg_ℤ-+ℤ : (a b : ℤ) → neg_ℤ (a +ℤ b) ≡ neg_ℤ a +ℤ neg_ℤ b
neg_ℤ-+ℤ a b = omega (arith, ints)

pub one-*ℤ : (a : ℤ) → pos 1 *ℤ a ≡ a
one-*ℤ a = same_in _ _ (omega (arith, product_is (pos 1) a))

pub *ℤ-one : (a : ℤ) → a *ℤ pos 1 ≡ a
*ℤ-one a = *ℤ_comm a (pos 1) ∙ one-*ℤ a

-- `0 - x`, as the code negates, is the negation
pub zero-sub_ℤ : (a : ℤ) → pos 0 -ℤ a ≡ neg_ℤ a
zero-sub_ℤ a = omega (arith, ints)

-- ---- the order

pub ≤ℤ_or_> : (a b : ℤ) → (a ≤ℤ b) ⊎ (b <ℤ a)
≤ℤ_or_> a b = by_lt_z b a inr inl

down-zero : (k : ℤ) → pos 0 ≤ℤ k → down k ≡ 0
down-zero (pos n) h = refl
down-zero (negsuc n) h = absurd (omega (arith, ints))

-- a factor of at least 0 keeps an order
pub *ℤ-≤ℤ : (k a b : ℤ) → pos 0 ≤ℤ k → a ≤ℤ b → (k *ℤ a) ≤ℤ (k *ℤ b)
*ℤ-≤ℤ k a b some h =
    let gap : up a + down b ≤ up b + down a = omega (arith, ints) in
    let none : down k ≡ 0 = down-zero k some in
    let scaled : up k * (up a + down b) ≤ up k * (up b + down a) = mul-le-mul_left (up k) gap in
    record { le = le_in (k *ℤ a) (k *ℤ b) (omega (arith, product_is k a, product_is k b, scaled, ap (λ n. n * up a) none, ap (λ n. n * down a) none, ap (λ n. n * up b) none, ap (λ n. n * down b) none)) }

-- a factor above 0 keeps a strict one
pub *ℤ-<ℤ : (k a b : ℤ) → pos 0 <ℤ k → a <ℤ b → (k *ℤ a) <ℤ (k *ℤ b)
*ℤ-<ℤ k a b some h =
    let gap : up a + down b < up b + down a = omega (arith, ints) in
    let none : down k ≡ 0 = down-zero k (omega (arith, ints)) in
    let above : 0 < up k = omega (arith, ints) in
    let scaled : up k * (up a + down b) < up k * (up b + down a) = mul-lt-mul_of_pos_left gap above in
    record { lt = lt_in (k *ℤ a) (k *ℤ b) (omega (arith, product_is k a, product_is k b, scaled, ap (λ n. n * up a) none, ap (λ n. n * down a) none, ap (λ n. n * up b) none, ap (λ n. n * down b) none)) }

pub <ℤ-not-≤ℤ : (a b : ℤ) → a <ℤ b → b ≤ℤ a → ⊥
<ℤ-not-≤ℤ a b less most = omega (arith, ints)

-- and is taken away again
pub ≤ℤ_of_*ℤ : (k a b : ℤ) → pos 0 <ℤ k → (k *ℤ a) ≤ℤ (k *ℤ b) → a ≤ℤ b
≤ℤ_of_*ℤ k a b some h = elim (≤ℤ_or_> a b) [ inl le ↦ le | inr lt ↦ absurd (<ℤ-not-≤ℤ _ _ (*ℤ-<ℤ k b a some lt) h) ]

pub <ℤ_of_*ℤ : (k a b : ℤ) → pos 0 <ℤ k → (k *ℤ a) <ℤ (k *ℤ b) → a <ℤ b
<ℤ_of_*ℤ k a b some h = by (≤ℤ_or_> b a)
  where
    by : (b ≤ℤ a) ⊎ (a <ℤ b) → a <ℤ b
    by (inl le) = absurd (<ℤ-not-≤ℤ _ _ h (*ℤ-≤ℤ k b a (omega (arith, ints)) le))
    by (inr lt) = lt

pub *ℤ_cancel : (k a b : ℤ) → pos 0 <ℤ k → k *ℤ a ≡ k *ℤ b → a ≡ b
*ℤ_cancel k a b some e =
    let one : a ≤ℤ b = ≤ℤ_of_*ℤ k a b some (omega (arith, ints, e)) in
    let two : b ≤ℤ a = ≤ℤ_of_*ℤ k b a some (omega (arith, ints, e)) in omega (arith, ints)

pub neg_ℤ-≤ℤ : (a b : ℤ) → a ≤ℤ b → neg_ℤ b ≤ℤ neg_ℤ a
neg_ℤ-≤ℤ a b h = omega (arith, ints)

pub neg_ℤ-<ℤ : (a b : ℤ) → a <ℤ b → neg_ℤ b <ℤ neg_ℤ a
neg_ℤ-<ℤ a b h = omega (arith, ints)

-- a number is 0 exactly where its size is
pub zero_of_size : (a : ℤ) → unsigned_abs a ≡ 0 → a ≡ pos 0
zero_of_size a h = omega (arith, ints)

pub unsigned_abs-neg_ℤ : (a : ℤ) → unsigned_abs (neg_ℤ a) ≡ unsigned_abs a
unsigned_abs-neg_ℤ a = omega (arith, ints)

pub unsigned_abs-+ℤ : (a b : ℤ) → unsigned_abs (a +ℤ b) ≤ unsigned_abs a + unsigned_abs b
unsigned_abs-+ℤ a b = omega (arith, ints)
