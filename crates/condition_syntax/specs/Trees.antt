-- The condition that is written, as a tree of the logic.
use Rattle.std.specs.Prelude.{ℕ}
use Rattle.condition_tree.specs.Trees.{EachLeaf, leaf_count}
pub use Rattle.condition_tree.specs.Trees.{Tree, always, never, leaf, opposite, end_of_all, all_of, end_of_any, any_of, conjunction, disjunction, conjoined, disjoined}
use Rattle.weighing.specs.declared.weighings.Rel5.{Rel5}
use Rattle.weighing.specs.declared.scales.Num.{Num}
use Rattle.condition_syntax.specs.declared.expressions.Expr.{Expr}
use Rattle.condition_syntax.specs.declared.conditions.Cond.{Cond}
use Rattle.condition_syntax.specs.declared.conditions.Cond.TheOpen.{Cond-F}
use Rattle.condition_syntax.specs.declared.conditions.Cond.TheFolds.{fold-Cond}

-- a comparison of two expressions, or a test of delay by a number of rows
pub data Leaf (E N : Type 0) : Type 0 where
  compares : E → Rel5 → E → Leaf E N
  delayed : N → Leaf E N

abbrev pub Condition : Type 0
Condition = Tree (Leaf Expr Num)

abbrev pub comparison : Expr → Rel5 → Expr → Condition
comparison left rel right = leaf (compares left rel right)

abbrev pub delay : Num → Condition
delay number = leaf (delayed number)

-- one level of a condition, whose parts are already seen as trees
abbrev pub condition_step : Cond-F Condition → Condition
condition_step Cond-F.True = always
condition_step Cond-F.False = never
condition_step (Cond-F.Cmp left rel right) = comparison left rel right
condition_step (Cond-F.Delay number) = delay number
condition_step (Cond-F.Not part) = opposite part.value
condition_step (Cond-F.And parts) = conjunction parts.items
condition_step (Cond-F.Or parts) = disjunction parts.items

abbrev pub condition_of : Cond → Condition
condition_of = fold-Cond Condition condition_step

-- how many comparisons a condition has; tests of delay count
abbrev pub comparisons : {E N : Type 0} → Tree (Leaf E N) → ℕ
comparisons c = leaf_count c

abbrev pub LeafExprs : {E N : Type 0} → (E → Type 0) → Leaf E N → Type 0
LeafExprs P (compares left rel right) = P left × P right
LeafExprs P (delayed number) = Unit {0}

-- each expression is such a one
abbrev pub EachExpr : {E N : Type 0} → (E → Type 0) → Tree (Leaf E N) → Type 0
EachExpr P c = EachLeaf (LeafExprs P) c

abbrev pub LeafDelay : {E N : Type 0} → (N → Type 0) → Leaf E N → Type 0
LeafDelay P (compares left rel right) = Unit {0}
LeafDelay P (delayed number) = P number

-- each number of a test of delay is such a one
abbrev pub EachDelay : {E N : Type 0} → (N → Type 0) → Tree (Leaf E N) → Type 0
EachDelay P c = EachLeaf (LeafDelay P) c
