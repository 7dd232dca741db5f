-- A rational has one pair in lowest terms, so whether it is too wide is seen at that pair.
use Rattle.std.proofs.Common.{◌≡◌, ℕ, ◌<◌, ◌≤◌, unsigned_abs, ◌⊎◌, inl, inr, ap₂, sym, ◌∙◌, subst, subst₂, arith}
use Rattle.ordered_field.specs.Rational.{ℚ}
use Rattle.ordered_field.specs.LowestTerms.{Ratio, InLowestTerms, IsCommonDenominator}
use Rattle.ordered_field.specs.Wideness.{Exceeds, SumExceeds, SumIsWide}
use Rattle.ordered_field.proofs.Fractions.{fraction-cross}
use Rattle.lowest_terms.proofs.Uniqueness.{same_signed_lowest_terms}
use Rattle.whole.proofs.Divisors.{same_from_IsLcm}

pub same_pair : (p q : Ratio) (x : ℚ) → InLowestTerms p x → InLowestTerms q x → p ≡ q
same_pair p q x left right =
    let same = same_signed_lowest_terms p.num q.num p.den q.den left.reduced.some right.reduced.some left.reduced.coprime right.reduced.coprime
    (fraction-cross p.num q.num p.den q.den left.reduced.some right.reduced.some (sym left.stands ∙ right.stands)) in
    ap₂ (λ n d. record { num = n; den = d }) same.0 same.1

pub exceeds_not : (limit : ℕ) (p : Ratio) (x : ℚ) → InLowestTerms p x → unsigned_abs p.num ≤ limit → p.den ≤ limit → Exceeds limit x → ⊥
exceeds_not limit p x lowest num den e = by (e.overflows)
  where
    by : (limit < unsigned_abs e.pair.num) ⊎ (limit < e.pair.den) → ⊥
    by (inl h) = let at : limit < unsigned_abs p.num = subst (λ q. limit < unsigned_abs q.num) (same_pair e.pair p x e.lowest lowest) h in omega arith
    by (inr h) = let at : limit < p.den = subst (λ q. limit < q.den) (same_pair e.pair p x e.lowest lowest) h in omega arith

pub sum_wide_not : (limit : ℕ) (p q : Ratio) (l : ℕ) (x y : ℚ) → InLowestTerms p x → InLowestTerms q y → IsCommonDenominator p q l → (SumExceeds limit p q l → ⊥) → SumIsWide limit x y → ⊥
sum_wide_not limit p q l x y left right least kept w =
    let same_left = same_pair w.left p x w.left_lowest left in
    let same_right = same_pair w.right q y w.right_lowest right in
    let moved : IsCommonDenominator p q w.over = subst₂ (λ r s. IsCommonDenominator r s w.over) same_left same_right w.least in
    let same_over : w.over ≡ l = same_from_IsLcm p.den q.den w.over l moved least in
    kept (subst (SumExceeds limit p q) same_over (subst₂ (λ r s. SumExceeds limit r s w.over) same_left same_right w.overflows))
