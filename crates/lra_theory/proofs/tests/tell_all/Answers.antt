use Rattle.std.proofs.Common.{length, refl}
use Rattle.lra_theory.specs.Relations.{relations}
use Rattle.lra_theory.specs.Standings.{lits_of, seen}
use Rattle.lra_theory.proofs.TestLaws.{below_free, told_more}
use Rattle.lra_theory.proofs.tests.tell_all.Goals as goal

pub tell-requires-clause-free : goal.tell-requires-clause-free
tell-requires-clause-free g c =
    below_free c.loop-atom.atom (lits_of c.loop-atom.theory.told c.loop-atom.theory.refused) c.loop-atom.invariant.told

pub loop-atom-preserved : goal.loop-atom-preserved
loop-atom-preserved g c =
    let value = g.F.OrderedField.value in
    told_more (relations g.F.OrderedField.LIMIT value) c.loop-atom.atom (length c.args.signs.now) (seen value c.loop-atom.theory)
    (seen value c.tell.new.self) _ c.loop-atom.invariant c.in-Fine.ensures refl
