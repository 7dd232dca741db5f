use Rattle.simplex.proofs.BuiltLaws.{IsBuilt-undone, IsSound-built}
use Rattle.simplex.proofs.simplex.Simplex.undo.Goals as goal

pub invariant_of-self : goal.invariant_of-self
invariant_of-self g c =
    rw c.undo.ensures (IsBuilt-undone g.F.OrderedField.value c.self.inside.assignment c.self.inside.limits c.self.inside.rest c.args.mark c.self.invariant)

pub returns-clause-sound : goal.returns-clause-sound
returns-clause-sound g c =
    rw c.undo.ensures
    (IsSound-built g.F.OrderedField.value c.self.inside.assignment _ c.self.inside.pivots.items c.self.inside.rest (IsBuilt-undone g.F.OrderedField.value c.self.inside.assignment c.self.inside.limits c.self.inside.rest c.args.mark c.self.invariant))
