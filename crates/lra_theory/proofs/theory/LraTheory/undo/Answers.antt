use Rattle.std.proofs.Common.{◌≤◌, subst}
use Rattle.lra_theory.specs.Relations.{IsAfterUndo}
use Rattle.lra_theory.specs.Standings.{lits_of, state_of}
use Rattle.lra_theory.proofs.CutLaws.{undo-nothing}
use Rattle.lra_theory.proofs.theory.LraTheory.undo.Goals as goal

pub returns-else-mark-len-clause-state : goal.returns-else-mark-len-clause-state
returns-else-mark-len-clause-state g c =
    let value = g.F.OrderedField.value in
    let i = c.self.inside in
    subst (λ k. IsAfterUndo (state_of value k.rows (lits_of k.told k.refused) k.simplex) c.args.mark (state_of value i.rows (lits_of i.trail.told.items i.trail.refused) i.simplex)) c.self.view_is
    (undo-nothing value i.trail.told.items i.trail.refused i.simplex c.args.mark i.rows c.self.invariant.sound (subst (λ n. n ≤ c.args.mark) c.len.ensures c.if-mark-len.false))
