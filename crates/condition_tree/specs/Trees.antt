-- A condition as a tree of the logic: leaves joined by not, and, or. Controllers, questions, path rules and formulas share it.
use Rattle.std.specs.Prelude.{ℕ, ◌+◌, Bool, true, false, not, ◌&&◌, ◌||◌, ◌⊎◌, List, [], ◌∷◌, ◌++◌}

-- a conjunction is its first part and the conjunction of the others, and so is a disjunction
pub data Tree (L : Type 0) : Type 0 where
  always : Tree L
  never : Tree L
  leaf : L → Tree L
  opposite : Tree L → Tree L
  end_of_all : Tree L
  all_of : Tree L → Tree L → Tree L
  end_of_any : Tree L
  any_of : Tree L → Tree L → Tree L

abbrev pub conjunction : {L : Type 0} → List (Tree L) → Tree L
conjunction [] = end_of_all
conjunction (c ∷ cs) = all_of c (conjunction cs)

abbrev pub disjunction : {L : Type 0} → List (Tree L) → Tree L
disjunction [] = end_of_any
disjunction (c ∷ cs) = any_of c (disjunction cs)

-- one part alone is the whole
abbrev pub conjoined : {L : Type 0} → List (Tree L) → Tree L
conjoined [] = end_of_all
conjoined (c ∷ []) = c
conjoined (c ∷ d ∷ cs) = conjunction (c ∷ d ∷ cs)

abbrev pub disjoined : {L : Type 0} → List (Tree L) → Tree L
disjoined [] = end_of_any
disjoined (c ∷ []) = c
disjoined (c ∷ d ∷ cs) = disjunction (c ∷ d ∷ cs)

-- what a condition means, where each leaf has a meaning
abbrev pub Truth : {L : Type 0} → (L → Type 0) → Tree L → Type 0
Truth meaning always = Unit {0}
Truth meaning never = ⊥
Truth meaning (leaf l) = meaning l
Truth meaning (opposite c) = Truth meaning c → ⊥
Truth meaning end_of_all = Unit {0}
Truth meaning (all_of c rest) = Truth meaning c × Truth meaning rest
Truth meaning end_of_any = ⊥
Truth meaning (any_of c rest) = Truth meaning c ⊎ Truth meaning rest

-- a test's answer says whether the fact holds
abbrev pub Says : Bool → Type 0 → Type 0
Says true P = P
Says false P = P → ⊥

-- the same as a test, where each leaf has one
abbrev pub is_true : {L : Type 0} → (L → Bool) → Tree L → Bool
is_true test always = true
is_true test never = false
is_true test (leaf l) = test l
is_true test (opposite c) = not (is_true test c)
is_true test end_of_all = true
is_true test (all_of c rest) = is_true test c && is_true test rest
is_true test end_of_any = false
is_true test (any_of c rest) = is_true test c || is_true test rest

-- a value for each kind of node
pub record Algebra (A : Type 0) : Type 0 where
  pub on_always : A
  pub on_never : A
  pub on_opposite : A → A
  pub on_end_of_all : A
  pub on_all : A → A → A
  pub on_end_of_any : A
  pub on_any : A → A → A

-- the value of a tree, leaf by leaf and node by node
abbrev pub folded : {L A : Type 0} → Algebra A → (L → A) → Tree L → A
folded g f always = g.on_always
folded g f never = g.on_never
folded g f (leaf l) = f l
folded g f (opposite c) = g.on_opposite (folded g f c)
folded g f end_of_all = g.on_end_of_all
folded g f (all_of c rest) = g.on_all (folded g f c) (folded g f rest)
folded g f end_of_any = g.on_end_of_any
folded g f (any_of c rest) = g.on_any (folded g f c) (folded g f rest)

-- what the leaves give, joined in their written order; the other nodes give nothing of their own
abbrev pub gathering : {A : Type 0} → A → (A → A → A) → Algebra A
gathering nothing join = record {
  on_always = nothing;
  on_never = nothing;
  on_opposite = λ a. a;
  on_end_of_all = nothing;
  on_all = join;
  on_end_of_any = nothing;
  on_any = join;
}

-- each leaf is such a leaf
abbrev pub EachLeaf : {L : Type 0} → (L → Type 0) → Tree L → Type 0
EachLeaf P always = Unit {0}
EachLeaf P never = Unit {0}
EachLeaf P (leaf l) = P l
EachLeaf P (opposite c) = EachLeaf P c
EachLeaf P end_of_all = Unit {0}
EachLeaf P (all_of c rest) = EachLeaf P c × EachLeaf P rest
EachLeaf P end_of_any = Unit {0}
EachLeaf P (any_of c rest) = EachLeaf P c × EachLeaf P rest

-- the leaves, in their written order
abbrev pub leaves : {L : Type 0} → Tree L → List L
leaves always = []
leaves never = []
leaves (leaf l) = l ∷ []
leaves (opposite c) = leaves c
leaves end_of_all = []
leaves (all_of c rest) = leaves c ++ leaves rest
leaves end_of_any = []
leaves (any_of c rest) = leaves c ++ leaves rest

-- how many leaves there are
abbrev pub leaf_count : {L : Type 0} → Tree L → ℕ
leaf_count always = 0
leaf_count never = 0
leaf_count (leaf l) = 1
leaf_count (opposite c) = leaf_count c
leaf_count end_of_all = 0
leaf_count (all_of c rest) = leaf_count c + leaf_count rest
leaf_count end_of_any = 0
leaf_count (any_of c rest) = leaf_count c + leaf_count rest

-- the same condition over other leaves
abbrev pub with_leaves : {L M : Type 0} → (L → M) → Tree L → Tree M
with_leaves f always = always
with_leaves f never = never
with_leaves f (leaf l) = leaf (f l)
with_leaves f (opposite c) = opposite (with_leaves f c)
with_leaves f end_of_all = end_of_all
with_leaves f (all_of c rest) = all_of (with_leaves f c) (with_leaves f rest)
with_leaves f end_of_any = end_of_any
with_leaves f (any_of c rest) = any_of (with_leaves f c) (with_leaves f rest)
