-- The sizes of formulas that bound what clauses are made of them: their sums, their atoms and their clauses.
use Rattle.std.specs.Prelude.{◌≡◌, ℕ, ◌+◌, ◌≤◌, ◌⊎◌, List, [], ◌∷◌, length}
use Rattle.condition_tree.specs.Trees.{Tree, always, never, leaf, opposite, end_of_all, all_of, end_of_any, any_of, EachLeaf}
use Rattle.linear_form.specs.declared.lists.Term.{Term}
use Rattle.linear_form.specs.declared.relations.Comparison.{Comparison}

-- ---- the weight of a tree, where a leaf weighs 1

-- what is missing where a conjunction, or a disjunction, goes on with something else: it is the last part
abbrev pub open_all : {L : Type 0} → ℕ → Tree L → ℕ
open_all more always = more
open_all more never = more
open_all more (leaf l) = more
open_all more (opposite c) = more
open_all more end_of_all = 0
open_all more (all_of c rest) = 0
open_all more end_of_any = more
open_all more (any_of c rest) = more

abbrev pub open_any : {L : Type 0} → ℕ → Tree L → ℕ
open_any more always = more
open_any more never = more
open_any more (leaf l) = more
open_any more (opposite c) = more
open_any more end_of_all = more
open_any more (all_of c rest) = more
open_any more end_of_any = 0
open_any more (any_of c rest) = 0

-- each conjunction and disjunction weighs so much at its end, and so much for each of its parts
abbrev pub weight : {L : Type 0} → ℕ → ℕ → Tree L → ℕ
weight ends parts always = ends
weight ends parts never = ends
weight ends parts (leaf l) = 1
weight ends parts (opposite c) = weight ends parts c
weight ends parts end_of_all = ends
weight ends parts (all_of c rest) = weight ends parts c + (parts + (weight ends parts rest + open_all (ends + parts) rest))
weight ends parts end_of_any = ends
weight ends parts (any_of c rest) = weight ends parts c + (parts + (weight ends parts rest + open_any (ends + parts) rest))

-- a leaf gives an atom, and a conjunction or a disjunction gives one
abbrev pub atoms_in : {L : Type 0} → Tree L → ℕ
atoms_in = weight 1 0

-- a conjunction or a disjunction gives a clause, and one more for each part
abbrev pub clauses_in : {L : Type 0} → Tree L → ℕ
clauses_in = weight 2 2

abbrev pub weights : {L : Type 0} → ℕ → ℕ → List (Tree L) → ℕ
weights ends parts [] = 0
weights ends parts (f ∷ fs) = weight ends parts f + weights ends parts fs

-- ---- the sums of the comparisons

-- it stands in the list
abbrev pub IsAmong : {T : Type 0} → List T → T → Type 0
IsAmong [] x = ⊥
IsAmong (y ∷ ys) x = (x ≡ y) ⊎ IsAmong ys x

-- each comparison is of one of these sums
abbrev pub HasSums : List (List Term) → Tree Comparison → Type 0
HasSums sums f = EachLeaf (λ (c : Comparison). IsAmong sums c.terms) f

abbrev pub EachHasSums : List (List Term) → List (Tree Comparison) → Type 0
EachHasSums sums [] = Unit {0}
EachHasSums sums (f ∷ fs) = HasSums sums f × EachHasSums sums fs

-- ---- formulas over so many columns, with these sums, that are small enough

pub record AreFew (columns : ℕ) (sums : List (List Term)) (formulas : List (Tree Comparison)) : Type 0 where
  pub sums_of : EachHasSums sums formulas
  pub few_sums : columns + length sums ≤ 2048
  pub few_atoms : weights 1 0 formulas ≤ 4096
  pub few_clauses : weights 2 2 formulas ≤ 1048576
