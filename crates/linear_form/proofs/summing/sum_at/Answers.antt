use Rattle.std.proofs.Common.{◌<◌, length, All, List, sym, ◌∙◌, subst}
use Rattle.whole.specs.Numbers.{IsWithin}
use Rattle.linear_form.specs.declared.lists.Term.{Term}
use Rattle.linear_form.proofs.Running.{loop_step, loop_end}
use Rattle.linear_form.proofs.summing.sum_at.Goals as goal

pub loop-term-preserved : goal.loop-term-preserved
loop-term-preserved c =
    let same = c.as_slice-term-items.ensures in
    let P : List Term → Type 0 = λ ts. All (λ t. t.column < length c.args.values.now) ts in
    let Q : List Term → Type 0 = λ ts. All (λ t. IsWithin t.coef) ts in
    let step = loop_step c.args.values.now c.as_slice-term-items.result.now c.loop-term.term-index _ _ _ _ c.loop-term-test.true (subst P (sym same) c.requires.columns) (subst Q (sym same) c.requires.coefs) c.requires.entries c.checked_fma.ensures.exact c.in_ok-sum.was in
    (step.0, sym step.1 ∙ c.loop-term.invariant.1)

pub returns-clause-sum : goal.returns-clause-sum
returns-clause-sum c = loop_end _ _ _ _ _ c.loop-term-test.false c.loop-term.invariant.1
