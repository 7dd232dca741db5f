-- The rational number that a numerator and a denominator of at least 1 stand for.
use Rattle.std.specs.Prelude.{◌≡◌, ℤ, pos, ◌*ℤ◌, ◌≤ℤ◌, ◌<ℤ◌, unsigned_abs, IsTrue, ◌↔◌, ◌&&◌}
use Rattle.std.specs.Ordering.{int_cmp, int_eq}
use Rattle.std.specs.declared.cmp.Ordering.TheVariants.{Less}
use Rattle.std.specs.Cmp.{int_ranked, int_cmp_is, signed_Decides, first_so, second_so}
use Rattle.std.specs.Cmp.Derive.{both_true}
use Rattle.std.proofs.Common.{refl, ap, ap₂, sym, ◌∙◌, subst₂}
use Rattle.ordered_field.specs.Rational.{ℚ, fraction}
use Rattle.ordered_field.specs.Order.{◌<ℚ◌}
use Rattle.ordered_field.specs.LowestTerms.{Ratio, InLowestTerms}
use Rattle.ordered_field.proofs.Fractions.{fraction-same, fraction-cross, fraction-<ℚ, <ℚ-fraction}
use Rattle.lowest_terms.specs.Coprime.{IsCoprime}
use Rattle.lowest_terms.proofs.Reduction.{size_some, pos-size}
use Rattle.lowest_terms.proofs.Uniqueness.{same_signed_lowest_terms}

abbrev pub ratio : ℤ → ℤ → Ratio
ratio num den = record { num = num; den = unsigned_abs den }

-- num / den
abbrev pub rational : (num den : ℤ) → pos 1 ≤ℤ den → ℚ
rational num den some = fraction num (unsigned_abs den) (size_some den some)

pub in_lowest_terms : (num den : ℤ) (some : pos 1 ≤ℤ den) → IsCoprime (unsigned_abs num) (unsigned_abs den) → InLowestTerms (ratio num den) (rational num den some)
in_lowest_terms num den some lowest = record {
  reduced = record { some = size_some den some; coprime = lowest };
  stands = refl;
}

module _ (m b n d : ℤ) (pb : pos 1 ≤ℤ b) (pd : pos 1 ≤ℤ d) where
  -- a number is that of its parts
  pub same_value : m ≡ n → b ≡ d → rational m b pb ≡ rational n d pd
  same_value same_num same_den =
      fraction-same m n (unsigned_abs b) (unsigned_abs d) (size_some b pb) (size_some d pd) (ap₂ (λ k z. k *ℤ pos (unsigned_abs z)) same_num (sym same_den))

  -- equal rationals in lowest terms have equal parts
  pub equal_values : IsCoprime (unsigned_abs m) (unsigned_abs b) → IsCoprime (unsigned_abs n) (unsigned_abs d) → IsTrue (int_eq m n && int_eq b d) ↔ (rational m b pb ≡ rational n d pd)
  equal_values left right = (
    λ e.
        let same_num : m ≡ n = (signed_Decides m n).0 (first_so _ _ e) in
        let same_den : b ≡ d = (signed_Decides b d).0 (second_so _ _ e) in
        same_value same_num same_den,
    λ e.
        let same = same_signed_lowest_terms m n (unsigned_abs b) (unsigned_abs d) (size_some b pb) (size_some d pd) left right (fraction-cross m n (unsigned_abs b) (unsigned_abs d) (size_some b pb) (size_some d pd) e) in
        let same_den : b ≡ d = sym (pos-size b pb) ∙ ap pos same.1 ∙ pos-size d pd in
        both_true ((signed_Decides m n).1 same.0) ((signed_Decides b d).1 same_den),
  )

  -- the order of the rationals is that of the cross products
  pub ordered_values : (int_cmp (m *ℤ d) (n *ℤ b) ≡ Less) ↔ (rational m b pb <ℚ rational n d pd)
  ordered_values = (
    λ e. fraction-<ℚ m n (unsigned_abs b) (unsigned_abs d) (size_some b pb) (size_some d pd)
        (subst₂ (λ x y. (m *ℤ x) <ℤ (n *ℤ y)) (sym (pos-size d pd)) (sym (pos-size b pb)) (int_ranked (m *ℤ d) (n *ℤ b) Less (sym e))),
    λ h. sym (int_cmp_is (m *ℤ d) (n *ℤ b) Less
        (subst₂ (λ x y. (m *ℤ x) <ℤ (n *ℤ y)) (pos-size d pd) (pos-size b pb) (<ℚ-fraction m n (unsigned_abs b) (unsigned_abs d) (size_some b pb) (size_some d pd) h))),
  )
