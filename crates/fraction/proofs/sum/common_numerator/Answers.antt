use Rattle.std.proofs.Common.{rules, ◌≡◌, ◌+ℤ◌, ◌*ℤ◌, unsigned_abs, ◌<◌, ◌≤◌, FitsSigned, to_z, of_z, to_z-of_z, inl, inr, ap₂, subst, ◌∙◌}
use Rattle.std.specs.Int.{w128}
use Rattle.std.proofs.lemmas.Result.{IfOk-weaker, on_ok_weaker, on_err_weaker}
use Rattle.fraction.proofs.SumSteps.{on_err_of, overflows_none}
use Rattle.fraction.proofs.sum.common_numerator.Goals as goal
use Rattle.fraction.proofs.sum.common_numerator.Goals.{After-bounded_sum}
use Rattle.fraction.proofs.sum.common_numerator.Given.{Over}

pub returns-in_err-right-clause-wide : goal.returns-in_err-right-clause-wide
returns-in_err-right-clause-wide g c =
    let n : FitsSigned w128 c.args.n = search rules in
    let x : FitsSigned w128 c.args.dens.num = search rules in
    on_err_of _ (inr (inr (inl (simp to_z-of_z at c.in_err-right.ensures.wide))))

-- what the last step adds up is the sum of the two products
summed : (g : Over) (c : After-bounded_sum g) → to_z w128 (of_z w128 c.in_ok-left.left) +ℤ to_z w128 (of_z w128 c.in_ok-right.right) ≡ c.args.m *ℤ c.args.dens.den +ℤ c.args.n *ℤ c.args.dens.num
summed g c =
    let m : FitsSigned w128 c.args.m = search rules in
    let n : FitsSigned w128 c.args.n = search rules in
    let x : FitsSigned w128 c.args.dens.num = search rules in
    let y : FitsSigned w128 c.args.dens.den = search rules in
    let left : FitsSigned w128 c.in_ok-left.left = search rules in
    let right : FitsSigned w128 c.in_ok-right.right = search rules in
    ap₂ (λ a b. a +ℤ b)
    (to_z-of_z left ∙ (simp to_z-of_z at c.in_ok-left.ensures.exact))
    (to_z-of_z right ∙ (simp to_z-of_z at c.in_ok-right.ensures.exact))

pub returns-clause-exact : goal.returns-clause-exact
returns-clause-exact g c =
    IfOk-weaker c.bounded_sum.result _ _ (λ z e. e ∙ summed g c) c.bounded_sum.ensures.exact

pub returns-clause-kept : goal.returns-clause-kept
returns-clause-kept g c =
    let m : FitsSigned w128 c.args.m = search rules in
    let n : FitsSigned w128 c.args.n = search rules in
    let d : FitsSigned w128 c.args.d = search rules in
    let x : FitsSigned w128 c.args.dens.num = search rules in
    let y : FitsSigned w128 c.args.dens.den = search rules in
    let over = simp to_z-of_z at c.in_ok-_over.ensures.kept in
    let left = simp to_z-of_z at c.in_ok-left.ensures.kept in
    let right = simp to_z-of_z at c.in_ok-right.ensures.kept in
    on_ok_weaker c.bounded_sum.result
    (λ h. overflows_none g.L.Limit.LIMIT c.args.m c.args.n c.args.dens.num c.args.dens.den c.args.d over left right
    (subst (λ z. unsigned_abs z ≤ g.L.Limit.LIMIT) (summed g c) h))
    c.bounded_sum.ensures.kept

pub returns-clause-wide : goal.returns-clause-wide
returns-clause-wide g c =
    on_err_weaker c.bounded_sum.result (λ h. inr (inr (inr (subst (λ z. g.L.Limit.LIMIT < unsigned_abs z) (summed g c) h)))) c.bounded_sum.ensures.wide
