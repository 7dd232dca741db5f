-- The condition that a guard stands for, as a tree of the logic.
use Rattle.std.specs.Prelude.{ℕ}
use Rattle.weighing.specs.declared.weighings.Rel5.{Rel5}
pub use Rattle.condition_syntax.specs.Trees.{Tree, always, never, leaf, opposite, end_of_all, all_of, end_of_any, any_of, conjunction, disjunction, Leaf, compares, delayed, comparisons, EachExpr, EachDelay}
use Rattle.ctrl_types.specs.declared.expressions.Lin.{Lin}
use Rattle.ctrl_types.specs.declared.gates.Gate.{Gate}
use Rattle.ctrl_types.specs.declared.gates.Gate.TheOpen.{Gate-F}
use Rattle.ctrl_types.specs.declared.gates.Gate.TheFolds.{fold-Gate}

-- names are replaced by what they stand for, and the number of a test of delay is one of rows
abbrev pub Test : Type 0
Test = Tree (Leaf Lin ℕ)

abbrev pub comparison : Lin → Rel5 → Lin → Test
comparison left rel right = leaf (compares left rel right)

abbrev pub delay : ℕ → Test
delay k = leaf (delayed k)

-- one level of a guard, whose parts are already seen as trees
abbrev pub test_step : Gate-F Test → Test
test_step Gate-F.True = always
test_step Gate-F.False = never
test_step (Gate-F.Cmp left rel right) = comparison left rel right
test_step (Gate-F.Delay k) = delay k
test_step (Gate-F.Not inner) = opposite inner.value
test_step (Gate-F.And parts) = conjunction parts.items
test_step (Gate-F.Or parts) = disjunction parts.items

abbrev pub test_of : Gate → Test
test_of = fold-Gate Test test_step
