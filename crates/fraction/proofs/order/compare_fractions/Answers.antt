use Rattle.std.proofs.Common.{◌≡◌, ◌*ℤ◌, pos, unsigned_abs, ap₂, sym, ◌∙◌, arith, int_cmp, FitsSigned, to_z-of_z}
use Rattle.std.specs.Int.{w128}
use Rattle.std.proofs.lemmas.Int.{ints}
use Rattle.lowest_terms.proofs.Scaling.{int_cmp-scaled}
use Rattle.lowest_terms.proofs.Reduction.{size_some, pos-size}
use Rattle.fraction.proofs.order.compare_fractions.Goals as goal

pub returns-then-b-d : goal.returns-then-b-d
returns-then-b-d c =
    let a = c.args in
    let same : a.b ≡ a.d = omega (arith, ints) in
    let whole : pos (unsigned_abs a.d) ≡ a.d = pos-size a.d c.requires.right in
    let m : FitsSigned w128 a.m = c.ranges.m in
    let n : FitsSigned w128 a.n = c.ranges.n in
    (simp to_z-of_z at c.cmp.ensures)
    ∙ int_cmp-scaled a.m a.n (unsigned_abs a.d) (size_some a.d c.requires.right)
    ∙ ap₂ (λ d b. int_cmp (a.m *ℤ d) (a.n *ℤ b)) whole (whole ∙ sym same)
