use Rattle.std.proofs.Common.{◌-◌, ◌*ℤ◌, ◌<◌, ◌≤◌, ◌∙◌, FitsSigned, IfErr, ℕ, ap, length, subst, to_z-of_z}
use Rattle.std.specs.Int.{w128}
use Rattle.linear_form.specs.Sums.{coef_at}
use Rattle.lra_theory.specs.Clashes.{IsStuckStep}
use Rattle.lra_theory.specs.Totals.{sum_at}
use Rattle.lra_theory.specs.Literals.{form_terms}
use Rattle.lra_theory.proofs.SumLaws.{lone_terms, listed_terms}
use Rattle.lra_theory.proofs.sums.add_form.Goals as goal

pub returns-then-form-columns-clause-stuck : goal.returns-then-form-columns-clause-stuck
returns-then-form-columns-clause-stuck c =
    let mult : FitsSigned w128 c.args.mult = c.ranges.mult in
    let factor : FitsSigned w128 c.args.factor = c.ranges.factor in
    let below : c.args.form < c.args.rows.now.columns = subst (λ n. c.args.form < n) c.columns.ensures c.if-form-columns.true in
    subst (λ ts. IfErr c.add_terms.result (λ k. (column : ℕ) × (column < length c.args.sums.now.items) × IsStuckStep column c.args.position (sum_at c.args.sums.now.items column) c.args.mult (c.args.factor *ℤ coef_at column ts) k)) (lone_terms c.args.rows.now c.args.form below) (simp to_z-of_z at c.add_terms.ensures.stuck)

pub returns-else-form-columns-clause-stuck : goal.returns-else-form-columns-clause-stuck
returns-else-form-columns-clause-stuck c =
    let mult : FitsSigned w128 c.args.mult = c.ranges.mult in
    let factor : FitsSigned w128 c.args.factor = c.ranges.factor in
    let least : c.args.rows.now.columns ≤ c.args.form = subst (λ n. n ≤ c.args.form) c.columns.ensures c.if-form-columns.false in
    subst (λ ts. IfErr c.add_terms-else-form-columns.result (λ k. (column : ℕ) × (column < length c.args.sums.now.items) × IsStuckStep column c.args.position (sum_at c.args.sums.now.items column) c.args.mult (c.args.factor *ℤ coef_at column ts) k)) (c.form_terms-terms.ensures ∙ ap (λ n. form_terms c.args.rows.now (c.args.form - n)) c.columns-else-form-columns.ensures ∙ listed_terms c.args.rows.now c.args.form least) (simp to_z-of_z at c.add_terms-else-form-columns.ensures.stuck)
