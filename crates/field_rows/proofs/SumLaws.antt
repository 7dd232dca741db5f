-- Laws of finite sums.
use Rattle.std.proofs.Common.{◌≡◌, ℕ, zero, suc, ◌+◌, ◌<◌, pos, refl, sym, ap, ◌∙◌, inl, inr, ◌⊎◌, arith, add-one}
use Rattle.std.proofs.lemmas.Bool.{eq-eqb, ne_eqb, cases_order}
use Rattle.std.proofs.Math.Nat.{eq-or-lt_of_le}
use Rattle.ordered_field.specs.Rational.{ℚ, whole, ◌+ℚ◌, ◌*ℚ◌, neg_ℚ}
use Rattle.ordered_field.proofs.RingLaws.{+ℚ_comm, +ℚ_assoc, +ℚ-zero, *ℚ-+ℚ, *ℚ-zero, neg_ℚ-+ℚ, +ℚ-exchange}
use Rattle.ordered_field.proofs.OrderFacts.{neg_ℚ-zero}
use Rattle.field_rows.specs.Rows.{row_value, put}
use Rattle.field_rows.specs.Sums.{sum_below}

pub sum_below-zero : (f : ℕ → ℚ) → sum_below 0 f ≡ whole (pos 0)
unfolding sum_below
sum_below-zero f = refl

pub sum_below-more : (n : ℕ) (f : ℕ → ℚ) → sum_below (n + 1) f ≡ sum_below n f +ℚ f n
unfolding sum_below
sum_below-more n f = rw add-one refl

-- sums of the same terms
pub sum_below-same : (n : ℕ) (f g : ℕ → ℚ) → ((k : ℕ) → k < n → f k ≡ g k) → sum_below n f ≡ sum_below n g
unfolding sum_below
sum_below-same zero f g same = refl
sum_below-same (suc n) f g same =
    let rest : sum_below n f ≡ sum_below n g = sum_below-same n f g (λ k below. same k (omega arith)) in
    let last : f n ≡ g n = same n (omega arith) in
    cc

pub sum_below-+ℚ : (n : ℕ) (f g : ℕ → ℚ) → sum_below n (λ k. f k +ℚ g k) ≡ sum_below n f +ℚ sum_below n g
unfolding sum_below
sum_below-+ℚ zero f g = sym (+ℚ-zero _)
sum_below-+ℚ (suc n) f g = ap (λ s. s +ℚ (f n +ℚ g n)) (sum_below-+ℚ n f g) ∙ +ℚ-exchange _ _ _ _

pub sum_below-scaled : (n : ℕ) (a : ℚ) (f : ℕ → ℚ) → sum_below n (λ k. a *ℚ f k) ≡ a *ℚ sum_below n f
unfolding sum_below
sum_below-scaled zero a f = sym (*ℚ-zero a)
sum_below-scaled (suc n) a f = ap (λ s. s +ℚ a *ℚ f n) (sum_below-scaled n a f) ∙ sym (*ℚ-+ℚ a _ _)

pub sum_below-neg : (n : ℕ) (f : ℕ → ℚ) → sum_below n (λ k. neg_ℚ (f k)) ≡ neg_ℚ (sum_below n f)
unfolding sum_below
sum_below-neg zero f = sym neg_ℚ-zero
sum_below-neg (suc n) f = ap (λ s. s +ℚ neg_ℚ (f n)) (sum_below-neg n f) ∙ sym (neg_ℚ-+ℚ _ _)

-- ---- one place

pub put-here : (j k : ℕ) (y : ℚ) (x : ℕ → ℚ) → k ≡ j → put j y x k ≡ y
unfolding put
put-here j k y x here = rw (eq-eqb k j here) refl

pub put-elsewhere : (j k : ℕ) (y : ℚ) (x : ℕ → ℚ) → (k ≡ j → ⊥) → put j y x k ≡ x k
unfolding put
put-elsewhere j k y x apart = rw (ne_eqb k j apart) refl

pub same_or_apart : (j k : ℕ) → (k ≡ j) ⊎ (k ≡ j → ⊥)
same_or_apart j k = by_order (cases_order k j)
  where
    by_order : (k ≡ j) ⊎ ((k < j) ⊎ (j < k)) → (k ≡ j) ⊎ (k ≡ j → ⊥)
    by_order (inl here) = inl here
    by_order (inr (inl less)) = inr (λ e. absurd (omega arith))
    by_order (inr (inr more)) = inr (λ e. absurd (omega arith))

-- a term stands out of a sum
pub sum_below-split : (n j : ℕ) (f : ℕ → ℚ) → j < n → sum_below n f ≡ f j +ℚ sum_below n (put j (whole (pos 0)) f)
unfolding sum_below
sum_below-split zero j f inside = absurd (omega arith)
sum_below-split (suc n) j f inside = by_place (sum_below-split n j f) (eq-or-lt_of_le {n = j} {m = n} (omega arith))
  where
    by_place : (j < n → sum_below n f ≡ f j +ℚ sum_below n (put j (whole (pos 0)) f)) → (j ≡ n) ⊎ (j < n) → sum_below n f +ℚ f n ≡ f j +ℚ (sum_below n (put j (whole (pos 0)) f) +ℚ put j (whole (pos 0)) f n)
    by_place before_last (inl last) =
        let others : sum_below n (put j (whole (pos 0)) f) ≡ sum_below n f = sum_below-same n _ _ (λ k below. put-elsewhere j k _ f (λ e. absurd (omega arith))) in
        let here : put j (whole (pos 0)) f n ≡ whole (pos 0) = put-here j n _ f (sym last) in
        rw (others, here, +ℚ-zero, last) (+ℚ_comm _ _)
    by_place before_last (inr before) =
        let others : sum_below n f ≡ f j +ℚ sum_below n (put j (whole (pos 0)) f) = before_last before in
        let here : put j (whole (pos 0)) f n ≡ f n = put-elsewhere j n _ f (λ e. absurd (omega arith)) in
        ap (λ s. s +ℚ f n) others ∙ +ℚ_assoc _ _ _ ∙ ap (λ v. f j +ℚ (sum_below n (put j (whole (pos 0)) f) +ℚ v)) (sym here)

-- the value of a row with one more coefficient
pub row_value-more : (n : ℕ) (c x : ℕ → ℚ) (total next a y : ℚ) → total ≡ row_value n c x → c n ≡ a → x n ≡ y → next ≡ total +ℚ a *ℚ y → next ≡ row_value (n + 1) c x
row_value-more n c x total next a y so_far coefficient number step =
    let more : row_value (n + 1) c x ≡ row_value n c x +ℚ c n *ℚ x n = sum_below-more n (λ k. c k *ℚ x k) in
    cc
