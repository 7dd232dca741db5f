-- A condition of a question as a tree of the logic.
use Rattle.weighing.specs.declared.weighings.Rel5.{Rel5}
use Rattle.condition_tree.specs.Trees.{EachLeaf}
pub use Rattle.condition_tree.specs.Trees.{Tree, always, never, leaf, opposite, end_of_all, all_of, end_of_any, any_of, conjunction, disjunction}
use Rattle.question_text.specs.declared.conditions.QLin.{QLin}
use Rattle.question_text.specs.declared.conditions.QCond.{QCond}
use Rattle.question_text.specs.declared.conditions.QCond.TheOpen.{QCond-F}
use Rattle.question_text.specs.declared.conditions.QCond.TheFolds.{fold-QCond}

pub data Comparison : Type 0 where
  compares : QLin → Rel5 → QLin → Comparison

abbrev pub Condition : Type 0
Condition = Tree Comparison

abbrev pub comparison : QLin → Rel5 → QLin → Condition
comparison left rel right = leaf (compares left rel right)

-- one level of a condition, whose parts are already seen as trees
abbrev pub condition_step : QCond-F Condition → Condition
condition_step QCond-F.True = always
condition_step QCond-F.False = never
condition_step (QCond-F.Cmp left rel right) = comparison left rel right
condition_step (QCond-F.Not inner) = opposite inner.value
condition_step (QCond-F.And parts) = conjunction parts.items
condition_step (QCond-F.Or parts) = disjunction parts.items

abbrev pub condition_of : QCond → Condition
condition_of = fold-QCond Condition condition_step

abbrev pub Sides : (QLin → QLin → Type 0) → Comparison → Type 0
Sides P (compares left rel right) = P left right

-- each comparison has such sides
abbrev pub EachComparison : (QLin → QLin → Type 0) → Condition → Type 0
EachComparison P c = EachLeaf (Sides P) c
