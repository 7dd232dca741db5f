use Rattle.std.proofs.Common.{◌≡◌, pos, ◌≤ℤ◌, ◌*ℤ◌, FitsSigned, to_z-of_z, subst, subst₂, sym, ◌∙◌, arith, w64}
use Rattle.std.proofs.lemmas.Int.{ints}
use Rattle.whole.proofs.Integers.{one-*ℤ}
use Rattle.lowest_terms.proofs.CoprimeLaws.{IsCoprime-one}
use Rattle.fraction.proofs.Widths.{same_coprime}
use Rattle.fraction.proofs.short_terms.short_denominators.Goals as goal

pub returns-then-b-d : goal.returns-then-b-d
returns-then-b-d c =
    let b : FitsSigned w64 c.args.b = c.ranges.b in
    let same : c.args.b ≡ c.args.d = omega (arith, ints) in
    let common = simp to_z-of_z at c.widened.ensures.common in
    let num : c.widened.result.num ≡ pos 1 = c.widened.ensures.num in
    let den : c.widened.result.den ≡ pos 1 = c.widened.ensures.den in
    record {
      common = subst (λ z. pos 1 ≤ℤ z) (sym common) c.requires.left;
      num = subst₂ (λ n g. n *ℤ g ≡ c.args.b) (sym num) (sym common) (one-*ℤ c.args.b);
      den = subst₂ (λ n g. n *ℤ g ≡ c.args.d) (sym den) (sym common) (one-*ℤ c.args.b ∙ same);
      positive = subst (λ z. pos 1 ≤ℤ z) (sym den) (omega (arith, ints));
      lowest = same_coprime _ _ (pos 1) (pos 1) num den (IsCoprime-one 1);
    }

pub returns-else-b-d : goal.returns-else-b-d
returns-else-b-d c =
    let b : FitsSigned w64 c.args.b = c.ranges.b in
    let d : FitsSigned w64 c.args.d = c.ranges.d in
    simp to_z-of_z at c.reduce_short.ensures
