use Rattle.std.proofs.Common.{◌≡◌, drop, map}
use Rattle.std.specs.Prelude.{IfSome}
use Rattle.ctrl_types.specs.declared.expressions.LinTerm.{LinTerm}
use Rattle.ctrl_types.specs.Denominators.{IsScale, with_numbers}
use Rattle.ctrl_types.proofs.sums.with_lin.Given as goal

abbrev pub invariant-loop-term : goal.invariant-loop-term
invariant-loop-term l = record {
  told : with_numbers l.common (map (λ (t : LinTerm). t.coef) (drop l.term-index l.term-items)) ≡ with_numbers l.fn.den (map (λ (t : LinTerm). t.coef) l.term-items);
  within : IfSome l.common IsScale;
}
