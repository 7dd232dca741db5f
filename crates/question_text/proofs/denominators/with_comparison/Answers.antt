use Rattle.std.proofs.Common.{ap, sym, ◌∙◌}
use Rattle.ctrl_types.specs.Denominators.{with_numbers}
use Rattle.ctrl_types.specs.Statements.{coefs}
use Rattle.ctrl_types.proofs.DenominatorLaws.{numbers-append}
use Rattle.question_text.proofs.denominators.with_comparison.Goals as goal

pub returns-clause-exact : goal.returns-clause-exact
returns-clause-exact c =
    c.with_expr-2.ensures.exact ∙ ap (λ o. with_numbers o (coefs c.args.right.now.terms)) c.with_expr.ensures.exact
    ∙ sym (numbers-append c.args.den (coefs c.args.left.now.terms) (coefs c.args.right.now.terms))
