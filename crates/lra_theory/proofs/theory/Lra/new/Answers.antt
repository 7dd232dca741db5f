use Rattle.std.proofs.Common.{sym, subst}
use Rattle.lra_theory.specs.Soundness.{IsGood}
use Rattle.lra_theory.proofs.NewLaws.{good_rows, is_fresh, is_kept}
use Rattle.lra_theory.proofs.theory.Lra.new.Goals as goal

pub opened-requires : goal.opened-requires
opened-requires g c = subst (λ r. IsGood r) (sym c.in_ok-rows.ensures) (good_rows c.args.clauses.now c.requires.formed)

pub invariant_of-result : goal.invariant_of-result
invariant_of-result g c =
    is_kept g.F.OrderedField.value c.args.clauses.now c.requires.formed c.in_ok-rows.rows c.in_ok-rows.ensures c.in_ok-simplex.simplex c.in_ok-simplex.ensures.opened c.new.result.told.items c.new.result.refused c.new.ensures.told c.new.ensures.refused

pub returns-clause-fresh : goal.returns-clause-fresh
returns-clause-fresh g c =
    is_fresh g.F.OrderedField.LIMIT g.F.OrderedField.value c.args.clauses.now c.in_ok-rows.rows c.in_ok-rows.ensures c.in_ok-simplex.simplex c.in_ok-simplex.ensures.opened c.new.result.told.items c.new.result.refused c.new.ensures.told c.new.ensures.refused
