use Rattle.std.proofs.Common.{false, pos, ◌+◌, unsigned_abs, subst, sym, take}
use Rattle.linear_form.specs.Sums.{entry}
use Rattle.clause_form.specs.declared.clauses.Atom.TheVariants.{Row}
use Rattle.corner_guide.proofs.TruthLaws.{AgreeAll, agree_count, agree_next, rows_agree, agree_all}
use Rattle.corner_guide.proofs.model.truths.Goals as goal

pub loop-atom-preserved : goal.loop-atom-preserved
loop-atom-preserved g c =
    subst (AgreeAll c.args.clauses.now (entry c.args.values.now.values) (unsigned_abs c.args.values.now.over) (take (c.loop-atom.atom-index + 1) c.args.clauses.now.atoms))
    (sym c.in-Ok.ensures.ok)
    (agree_next c.args.clauses.now (entry c.args.values.now.values) (unsigned_abs c.args.values.now.over) c.loop-atom.atom-index
    (Row 0 (pos 0) (pos 0) false) c.as_slice-atom-items.result.now c.as_slice-atom-items.ensures c.loop-atom.truths c.in_ok-truth.truth c.loop-atom-test.true c.loop-atom.invariant c.in_ok-truth.ensures)

pub returns-clause-count : goal.returns-clause-count
returns-clause-count g c =
    agree_count c.args.clauses.now (entry c.args.values.now.values) (unsigned_abs c.args.values.now.over) c.args.clauses.now.atoms c.loop-atom.truths
    (agree_all c.args.clauses.now (entry c.args.values.now.values) (unsigned_abs c.args.values.now.over) c.loop-atom.atom-index c.as_slice-atom-items.result.now c.as_slice-atom-items.ensures
    c.loop-atom.truths c.loop-atom-test.false c.loop-atom.invariant)

pub returns-clause-agree : goal.returns-clause-agree
returns-clause-agree g c =
    rows_agree c.args.clauses.now (entry c.args.values.now.values) (unsigned_abs c.args.values.now.over) c.loop-atom.truths
    (agree_all c.args.clauses.now (entry c.args.values.now.values) (unsigned_abs c.args.values.now.over) c.loop-atom.atom-index c.as_slice-atom-items.result.now c.as_slice-atom-items.ensures
    c.loop-atom.truths c.loop-atom-test.false c.loop-atom.invariant)
