use Rattle.std.proofs.Common.{◌≡◌, drop}
use Rattle.std.specs.Prelude.{All}
use Rattle.weighing.specs.Scaled.{IsNum}
use Rattle.ctrl_types.specs.declared.expressions.LinTerm.{LinTerm}
use Rattle.ctrl_types.specs.Names.{terms_of}
use Rattle.ctrl_types.proofs.LoopLaws.{front_terms}
use Rattle.ctrl_types.proofs.sums.lin.Given as goal

abbrev pub invariant-loop-term : goal.invariant-loop-term
invariant-loop-term l = record {
  told : front_terms l.terms (terms_of l.scope.states.now l.signals (drop l.term-index l.term-items)) ≡ terms_of l.scope.states.now l.signals l.term-items;
  within : All (λ (t : LinTerm). IsNum t.coef) l.terms;
}
