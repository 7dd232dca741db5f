use Rattle.std.proofs.Common.{◌≡◌, ◌*ℤ◌, pos, unsigned_abs, ap₂, sym, ◌∙◌, arith, int_cmp}
use Rattle.std.proofs.lemmas.Int.{ints}
use Rattle.lowest_terms.proofs.Scaling.{int_cmp-scaled}
use Rattle.lowest_terms.proofs.Reduction.{size_some, pos-size}
use Rattle.fraction.proofs.Widths.{widened_product}
use Rattle.fraction.proofs.short.ShortFrac.compare.Goals as goal

pub returns-then-self-other : goal.returns-then-self-other
returns-then-self-other c =
    let a = c.args.self in
    let b = c.args.other in
    let same : a.den ≡ b.den = omega (arith, ints) in
    let whole : pos (unsigned_abs b.den) ≡ b.den = pos-size b.den b.positive in
    c.cmp.ensures
    ∙ int_cmp-scaled a.num b.num (unsigned_abs b.den) (size_some b.den b.positive)
    ∙ ap₂ (λ d e. int_cmp (a.num *ℤ d) (b.num *ℤ e)) whole (whole ∙ sym same)

pub returns : goal.returns
returns c =
    let a = c.args.self in
    let b = c.args.other in
    c.cmp-2.ensures
    ∙ ap₂ int_cmp
    (widened_product a.num b.den c.from.result c.from-2.result a.num_short b.den_short c.from.ensures c.from-2.ensures)
    (widened_product b.num a.den c.from-3.result c.from-4.result b.num_short a.den_short c.from-3.ensures c.from-4.ensures)
