use Rattle.std.proofs.Common.{ap₂, sym, ◌∙◌}
use Rattle.ordered_field.specs.Rational.{◌*ℚ◌}
use Rattle.fraction.specs.Mixed.{kept_value}
use Rattle.fraction.proofs.WholeParts.{whole_product_value}
use Rattle.fraction.proofs.mixed.MixedFrac.whole_product.Goals as goal

pub returns-in_ok-product-in-Short-Short : goal.returns-in_ok-product-in-Short-Short
returns-in_ok-product-in-Short-Short c =
    let m = c.in-Short-Short.left in
    let n = c.in-Short-Short.right in
    let s = c.in_ok-product-in-Short-Short.product in
    let e = c.in_ok-product-in-Short-Short.ensures in
    whole_product_value m.num m.den n.num n.den s.num s.den m.positive n.positive s.positive e.0.0 e.0.1 e.0.2 e.1
    ∙ ap₂ (λ j k. kept_value j *ℚ kept_value k) (sym c.in-Short-Short.is-0) (sym c.in-Short-Short.is-1)
