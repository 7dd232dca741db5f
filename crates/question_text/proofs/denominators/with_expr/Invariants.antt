use Rattle.std.proofs.Common.{◌≡◌, drop}
use Rattle.std.specs.Prelude.{IfSome}
use Rattle.ctrl_types.specs.Denominators.{IsScale, with_numbers}
use Rattle.ctrl_types.specs.Statements.{coefs}
use Rattle.question_text.proofs.denominators.with_expr.Given as goal

abbrev pub invariant-loop-term : goal.invariant-loop-term
invariant-loop-term l = record {
  told : with_numbers l.common (coefs (drop l.term-index l.term-items)) ≡ with_numbers l.fn.den (coefs l.term-items);
  within : IfSome l.common IsScale;
}
