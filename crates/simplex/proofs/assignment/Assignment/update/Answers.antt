use Rattle.std.proofs.Common.{◌≡◌, ℕ, sym, subst}
use Rattle.ordered_field.specs.Delta.{delta_value}
use Rattle.simplex.specs.Moves.{moved_value}
use Rattle.simplex.specs.States.{value_in}
use Rattle.simplex.specs.Assignments.{IsKept, IsMoved}
use Rattle.simplex.proofs.UpdateLaws.{kept_by, moved_by}
use Rattle.simplex.proofs.assignment.Assignment.update.Goals as goal

pub invariant_of-self-2 : goal.invariant_of-self-2
invariant_of-self-2 g c =
    let value = g.F.OrderedField.value in
    let t = c.self.inside.tableau in
    let olds = c.self.inside.values.items in
    let to = delta_value value c.args.to in
    let non_basic = rw (← c.self.view_is) at c.requires.non_basic in
    let inside = rw (← c.self.view_is) at c.requires.within in
    let done = subst (λ xs. (v : ℕ) → value_in g.F.OrderedField.value c.moved.new.moved.items v ≡ moved_value g.F.OrderedField.value c.self.inside.tableau (value_in g.F.OrderedField.value xs) c.args.variable (delta_value g.F.OrderedField.value c.args.to) v) c.as_slice.ensures.value c.in_ok-moved.ensures.moved in
    subst (λ x. IsKept g.F.OrderedField.value c.self.inside.tableau x.items) (sym c.swap.ensures.x_after) (kept_by value t olds c.moved.new.moved.items c.args.variable to c.self.invariant non_basic inside done c.in_ok-moved.ensures.length)

pub returns-clause-moved : goal.returns-clause-moved
returns-clause-moved g c =
    let value = g.F.OrderedField.value in
    let t = c.self.inside.tableau in
    let olds = c.self.inside.values.items in
    let to = delta_value value c.args.to in
    let non_basic = rw (← c.self.view_is) at c.requires.non_basic in
    let inside = rw (← c.self.view_is) at c.requires.within in
    let done = subst (λ xs. (v : ℕ) → value_in g.F.OrderedField.value c.moved.new.moved.items v ≡ moved_value g.F.OrderedField.value c.self.inside.tableau (value_in g.F.OrderedField.value xs) c.args.variable (delta_value g.F.OrderedField.value c.args.to) v) c.as_slice.ensures.value c.in_ok-moved.ensures.moved in
    rw (← c.self.view_is)
    (subst (λ x. IsMoved g.F.OrderedField.value (record { table = c.self.inside.tableau; values = c.self.inside.values.items }) c.args.variable (delta_value g.F.OrderedField.value c.args.to) (record { table = c.self.inside.tableau; values = x.items })) (sym c.swap.ensures.x_after) (moved_by value t olds c.moved.new.moved.items c.args.variable to c.self.invariant non_basic inside done))
