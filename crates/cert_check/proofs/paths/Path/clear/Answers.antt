use Rattle.std.proofs.Common.{◌∙◌, ap, arith}
use Rattle.std.proofs.lemmas.List.{drop_all}
use Rattle.cert_check.specs.Tables.{Assumed, without_first}
use Rattle.cert_check.proofs.PathLaws.{drop_first, same_assumed}
use Rattle.cert_check.proofs.paths.Path.clear.Goals as goal

pub loop-step-preserved : goal.loop-step-preserved
loop-step-preserved c = (
  ap (λ (p : Assumed). p.atoms) c.retract.ensures ∙ c.loop-step.invariant.0,
  ap (λ (p : Assumed). p.lits) c.retract.ensures ∙ ap without_first c.loop-step.invariant.1 ∙ drop_first c.args.self.now.lits c.loop-step._step,
)

pub returns : goal.returns
returns c =
    same_assumed c.loop-step.self c.args.self.now.atoms _ c.loop-step.invariant.0 (c.loop-step.invariant.1 ∙ drop_all c.loop-step._step c.args.self.now.lits (omega arith))
