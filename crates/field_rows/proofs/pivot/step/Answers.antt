use Rattle.std.proofs.Common.{◌≡◌, ℕ, pos, sym, subst, ◌∙◌, inl, inr}
use Rattle.ordered_field.specs.Rational.{ℚ, whole, ◌*ℚ◌}
use Rattle.ordered_field.specs.Wideness.{Exceeds, SumIsWide, FmaIsWide}
use Rattle.ordered_field.proofs.RingLaws.{zero-+ℚ}
use Rattle.field_rows.specs.Zeros.{ZeroFits}
use Rattle.field_rows.proofs.ZeroLaws.{zero_fits}
use Rattle.field_rows.proofs.OperationLaws.{added_nothing, nothing_added}
use Rattle.field_rows.proofs.pivot.step.Goals as goal

-- to nothing a product is added, that stands for itself
from_nothing : (limit : ℕ) (k y p : ℚ) → ZeroFits limit p → p ≡ k *ℚ y → (Exceeds limit (k *ℚ y) → ⊥) → FmaIsWide limit (whole (pos 0)) k y → ⊥
from_nothing limit k y p fits is kept (inl wide) = kept wide
from_nothing limit k y p fits is kept (inr wide) = fits.left_sum (subst (λ v. SumIsWide limit (whole (pos 0)) v) (sym is) wide)

pub returns-in-Some-None-clause-exact : goal.returns-in-Some-None-clause-exact
returns-in-Some-None-clause-exact g c = rw (c.in-Some-None.is-0, c.in-Some-None.is-1) (sym (added_nothing _ _))

pub returns-in-Some-None-clause-kept : goal.returns-in-Some-None-clause-kept
returns-in-Some-None-clause-kept g c =
    let field = g.F.OrderedField in
    let met = g.met.F.OrderedField in
    let x = c.in-Some-None.x in
    let k = c.args.k in
    let x_fits = zero_fits field.LIMIT (field.pair x) (field.value x) met.limits.0 (met.meaning x) (met.within x) in
    let k_fits = zero_fits field.LIMIT (field.pair k) (field.value k) met.limits.0 (met.meaning k) (met.within k) in
    rw (c.in-Some-None.is-0, c.in-Some-None.is-1) (nothing_added field.LIMIT (field.value x) (field.value k) x_fits k_fits)

pub returns-in_ok-added-in-None-Some-clause-exact : goal.returns-in_ok-added-in-None-Some-clause-exact
returns-in_ok-added-in-None-Some-clause-exact g c = rw (c.in-None-Some.is-0, c.in-None-Some.is-1) (c.in_ok-added-in-None-Some.ensures.exact ∙ sym (zero-+ℚ _))

pub returns-in_ok-added-in-None-Some-clause-kept : goal.returns-in_ok-added-in-None-Some-clause-kept
returns-in_ok-added-in-None-Some-clause-kept g c =
    let field = g.F.OrderedField in
    let met = g.met.F.OrderedField in
    let p = c.in_ok-added-in-None-Some.added in
    let p_fits = zero_fits field.LIMIT (field.pair p) (field.value p) met.limits.0 (met.meaning p) (met.within p) in
    rw (c.in-None-Some.is-0, c.in-None-Some.is-1) (from_nothing field.LIMIT (field.value c.args.k) (field.value c.in-None-Some.y) (field.value p) p_fits c.in_ok-added-in-None-Some.ensures.exact c.in_ok-added-in-None-Some.ensures.kept)

pub returns-in-None-None-clause-exact : goal.returns-in-None-None-clause-exact
returns-in-None-None-clause-exact g c = rw (c.in-None-None.is-0, c.in-None-None.is-1) (c.zero.ensures ∙ sym (added_nothing _ _))

pub returns-in-None-None-clause-kept : goal.returns-in-None-None-clause-kept
returns-in-None-None-clause-kept g c =
    let field = g.F.OrderedField in
    let met = g.met.F.OrderedField in
    let k = c.args.k in
    let z = c.zero.result in
    let k_fits = zero_fits field.LIMIT (field.pair k) (field.value k) met.limits.0 (met.meaning k) (met.within k) in
    let z_fits = zero_fits field.LIMIT (field.pair z) (field.value z) met.limits.0 (met.meaning z) (met.within z) in
    rw (c.in-None-None.is-0, c.in-None-None.is-1) (nothing_added field.LIMIT (whole (pos 0)) (field.value k) (subst (ZeroFits field.LIMIT) c.zero.ensures z_fits) k_fits)
