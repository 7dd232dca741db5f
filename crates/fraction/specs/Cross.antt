-- The order of the cross products, for fractions with denominators of at least 1.
use Rattle.std.specs.Prelude.{◌≡◌, ℕ, ◌<◌, ℤ, pos, ◌*ℤ◌, ◌≤ℤ◌, unsigned_abs}
use Rattle.std.specs.Ordering.{int_cmp, int_eq, eq_by_cmp, eq_of_both, on, as_partial_cmp}
use Rattle.std.specs.declared.cmp.Ordering.{Ordering}
use Rattle.std.specs.declared.cmp.Ordering.TheVariants.{Less, Equal}
use Rattle.std.specs.Cmp.{IsTotalOrder, IsPartialOrder, partial_order_from_agreeing_total, int_cmp_total, both_ways, signed_Decides, first_so, second_so}
use Rattle.std.specs.Cmp.Derive.{both_true}
use Rattle.std.proofs.Common.{refl, ap, ap₂, sym, ◌∙◌, mul_comm}
use Rattle.lowest_terms.specs.Coprime.{IsCoprime}
use Rattle.lowest_terms.proofs.Scaling.{int_cmp-scaled}
use Rattle.whole.proofs.Integers.{*ℤ_assoc}
use Rattle.lowest_terms.proofs.Uniqueness.{same_signed_lowest_terms}
use Rattle.lowest_terms.proofs.Reduction.{size_some, pos-size}

-- how num x / den x compares with num y / den y
abbrev pub cross_cmp : {K : Type 0} → (K → ℤ) → (K → ℤ) → K → K → Ordering
cross_cmp num den x y = int_cmp (num x *ℤ den y) (num y *ℤ den x)

-- how m / b compares with n / d
abbrev pub cross : ℤ → ℕ → ℤ → ℕ → Ordering
cross m b n d = int_cmp (m *ℤ pos d) (n *ℤ pos b)

swapped : (m : ℤ) (j k : ℕ) → m *ℤ pos j *ℤ pos k ≡ m *ℤ pos k *ℤ pos j
swapped m j k = *ℤ_assoc m (pos j) (pos k) ∙ ap (λ n. m *ℤ pos n) (mul_comm j k) ∙ sym (*ℤ_assoc m (pos k) (pos j))

pub cross_trans : (m n k : ℤ) (b d f : ℕ) → 0 < b → 0 < d → 0 < f → cross m b n d ≡ Less → cross n d k f ≡ Less → cross m b k f ≡ Less
cross_trans m n k b d f pb pd pf left right =
    int_cmp-scaled (m *ℤ pos f) (k *ℤ pos b) d pd
    ∙ int_cmp_total.trans (m *ℤ pos f *ℤ pos d) (n *ℤ pos b *ℤ pos f) (k *ℤ pos b *ℤ pos d)
    (ap (λ z. int_cmp z (n *ℤ pos b *ℤ pos f)) (swapped m f d) ∙ sym (int_cmp-scaled (m *ℤ pos d) (n *ℤ pos b) f pf) ∙ left)
    (ap₂ int_cmp (swapped n b f) (swapped k b d) ∙ sym (int_cmp-scaled (n *ℤ pos f) (k *ℤ pos d) b pb) ∙ right)

pub cross_congr : (m n k : ℤ) (b d f : ℕ) → 0 < b → 0 < d → 0 < f → cross m b n d ≡ Equal → cross m b k f ≡ cross n d k f
cross_congr m n k b d f pb pd pf same =
    int_cmp-scaled (m *ℤ pos f) (k *ℤ pos b) d pd
    ∙ int_cmp_total.congr (m *ℤ pos f *ℤ pos d) (n *ℤ pos f *ℤ pos b) (k *ℤ pos b *ℤ pos d)
    (ap₂ int_cmp (swapped m f d) (swapped n f b) ∙ sym (int_cmp-scaled (m *ℤ pos d) (n *ℤ pos b) f pf) ∙ same)
    ∙ ap (int_cmp (n *ℤ pos f *ℤ pos b)) (swapped k b d)
    ∙ sym (int_cmp-scaled (n *ℤ pos f) (k *ℤ pos d) b pb)

module _ {K : Type 0} (num den : K → ℤ) (positive : (x : K) → pos 1 ≤ℤ den x) where
  some : (x : K) → 0 < unsigned_abs (den x)
  some x = size_some (den x) (positive x)

  pub cross_cmp_is : (x y : K) → cross_cmp num den x y ≡ cross (num x) (unsigned_abs (den x)) (num y) (unsigned_abs (den y))
  cross_cmp_is x y = ap₂ (λ d b. int_cmp (num x *ℤ d) (num y *ℤ b)) (sym (pos-size (den y) (positive y))) (sym (pos-size (den x) (positive x)))

  pub cross_total : IsTotalOrder (cross_cmp num den)
  cross_total = record {
    antisymm = λ x y. int_cmp_total.antisymm (num x *ℤ den y) (num y *ℤ den x);
    trans = λ x y z less more.
        cross_cmp_is x z
        ∙ cross_trans (num x) (num y) (num z) (unsigned_abs (den x)) (unsigned_abs (den y)) (unsigned_abs (den z)) (some x) (some y) (some z)
        (sym (cross_cmp_is x y) ∙ less)
        (sym (cross_cmp_is y z) ∙ more);
    congr = λ x y z same.
        cross_cmp_is x z
        ∙ cross_congr (num x) (num y) (num z) (unsigned_abs (den x)) (unsigned_abs (den y)) (unsigned_abs (den z)) (some x) (some y) (some z)
        (sym (cross_cmp_is x y) ∙ same)
        ∙ sym (cross_cmp_is y z);
  }

  -- in lowest terms, equal cross products are those of equal parts
  equal_parts : ((x : K) → IsCoprime (unsigned_abs (num x)) (unsigned_abs (den x))) → (x y : K) → num x *ℤ den y ≡ num y *ℤ den x → (num x ≡ num y) × (den x ≡ den y)
  equal_parts lowest x y e =
      let same = same_signed_lowest_terms (num x) (num y) (unsigned_abs (den x)) (unsigned_abs (den y)) (some x) (some y) (lowest x) (lowest y)
      (ap (λ d. num x *ℤ d) (pos-size (den y) (positive y)) ∙ e ∙ ap (λ d. num y *ℤ d) (sym (pos-size (den x) (positive x)))) in
      (same.0, sym (pos-size (den x) (positive x)) ∙ ap pos same.1 ∙ pos-size (den y) (positive y))

  pub cross_ties : ((x : K) → IsCoprime (unsigned_abs (num x)) (unsigned_abs (den x))) → (x y : K) → eq_of_both (on num int_eq) (on den int_eq) x y ≡ eq_by_cmp (cross_cmp num den) x y
  cross_ties lowest x y =
      both_ways _ _
      (λ e.
      let same_num : num x ≡ num y = (signed_Decides (num x) (num y)).0 (first_so _ _ e) in
      let same_den : den x ≡ den y = (signed_Decides (den x) (den y)).0 (second_so _ _ e) in
      (signed_Decides (num x *ℤ den y) (num y *ℤ den x)).1 (ap₂ (λ n d. n *ℤ d) same_num (sym same_den)))
      (λ e.
      let same = equal_parts lowest x y ((signed_Decides (num x *ℤ den y) (num y *ℤ den x)).0 e) in
      both_true ((signed_Decides (num x) (num y)).1 same.0) ((signed_Decides (den x) (den y)).1 same.1))

  pub cross_partial : ((x : K) → IsCoprime (unsigned_abs (num x)) (unsigned_abs (den x))) → IsPartialOrder (eq_of_both (on num int_eq) (on den int_eq)) (as_partial_cmp (cross_cmp num den))
  cross_partial lowest = partial_order_from_agreeing_total (cross_cmp num den) cross_total (λ x y. refl) (cross_ties lowest)
