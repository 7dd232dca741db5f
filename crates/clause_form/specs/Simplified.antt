-- Formulas without constants: each comparison in normal form, what is always or never true taken out, and a conjunction or
-- disjunction of one part replaced by that part.
use Rattle.std.specs.Prelude.{List, [], ◌∷◌, map, Option, None, Some}
use Rattle.std.specs.Global.{Vec}
use Rattle.std.specs.Option.{option_map}
use Rattle.condition_tree.specs.Trees.{Tree, always, never, leaf, opposite, end_of_all, all_of, end_of_any, any_of, conjunction, disjunction}
use Rattle.linear_form.specs.declared.relations.Comparison.{Comparison}
use Rattle.linear_form.specs.declared.relations.Normal.{Normal}
use Rattle.linear_form.specs.declared.relations.Normal.TheVariants.{Always, Never, Bound}
use Rattle.linear_form.specs.NormalForm.{normal_of}
use Rattle.clause_form.specs.declared.simple.RowLit.{RowLit}
use Rattle.clause_form.specs.declared.simple.Simple.{Simple}
use Rattle.clause_form.specs.declared.simple.Simple.TheOpen.{Simple-F}
use Rattle.clause_form.specs.declared.simple.Simple.TheFolds.{fold-Simple}
use Rattle.clause_form.specs.declared.simple.Known.{Known}
use Rattle.clause_form.specs.declared.simple.Known.TheVariants as known

-- one level of a formula without constants, whose parts are already seen as trees
abbrev pub simple_step : Simple-F (Tree RowLit) → Tree RowLit
simple_step (Simple-F.Row lit) = leaf lit
simple_step (Simple-F.Not part) = opposite part.value
simple_step (Simple-F.All parts) = conjunction parts.items
simple_step (Simple-F.Any parts) = disjunction parts.items

abbrev pub simple_of : Simple → Tree RowLit
simple_of = fold-Simple (Tree RowLit) simple_step

-- the parts that are left, if none settles the whole
abbrev pub parts_of : Option (Vec Simple) → Option (List (Tree RowLit))
parts_of None = None
parts_of (Some parts) = Some (map simple_of parts.items)

-- what is known of a formula: its truth, or what it becomes
pub data Trimmed : Type 0 where
  yes : Trimmed
  no : Trimmed
  shown : Tree RowLit → Trimmed

abbrev pub known_of : Known → Trimmed
known_of known.True = yes
known_of known.False = no
known_of (known.Open simple) = shown (simple_of simple)

-- a comparison in normal form
abbrev pub trimmed_leaf : Normal → Trimmed
trimmed_leaf Always = yes
trimmed_leaf Never = no
trimmed_leaf (Bound form num den strict positive) =
    shown (leaf (record { form = form; num = num; den = den; strict = strict; positive = positive }))

abbrev pub trimmed_opposite : Trimmed → Trimmed
trimmed_opposite yes = no
trimmed_opposite no = yes
trimmed_opposite (shown t) = shown (opposite t)

-- one part more in front of the parts of a conjunction; none where it is false
abbrev pub conjunct : Trimmed → Option (List (Tree RowLit)) → Option (List (Tree RowLit))
conjunct yes rest = rest
conjunct no rest = None
conjunct (shown t) rest = option_map (λ ts. t ∷ ts) rest

-- one part more in front of the parts of a disjunction; none where it is true
abbrev pub disjunct : Trimmed → Option (List (Tree RowLit)) → Option (List (Tree RowLit))
disjunct yes rest = None
disjunct no rest = rest
disjunct (shown t) rest = option_map (λ ts. t ∷ ts) rest

-- the only part, or what stands where there is none
abbrev pub lone : List (Tree RowLit) → Trimmed → Trimmed
lone [] none = none
lone (t ∷ ts) none = shown t

abbrev pub trimmed_all : Option (List (Tree RowLit)) → Trimmed
trimmed_all None = no
trimmed_all (Some []) = yes
trimmed_all (Some (t ∷ [])) = shown t
trimmed_all (Some (t ∷ u ∷ ts)) = shown (conjunction (t ∷ u ∷ ts))

abbrev pub trimmed_any : Option (List (Tree RowLit)) → Trimmed
trimmed_any None = yes
trimmed_any (Some []) = no
trimmed_any (Some (t ∷ [])) = shown t
trimmed_any (Some (t ∷ u ∷ ts)) = shown (disjunction (t ∷ u ∷ ts))

-- a node of a tree: a whole formula, or the parts of a conjunction or a disjunction from here on
pub data Node : Type 0 where
  whole : Trimmed → Node
  all_parts : Option (List (Tree RowLit)) → Node
  any_parts : Option (List (Tree RowLit)) → Node

-- the node as a whole formula
abbrev pub closed : Node → Trimmed
closed (whole t) = t
closed (all_parts ts) = trimmed_all ts
closed (any_parts ts) = trimmed_any ts

-- the node as the last parts of a conjunction, or of a disjunction
abbrev pub conjuncts : Node → Option (List (Tree RowLit))
conjuncts (whole t) = conjunct t (Some [])
conjuncts (all_parts ts) = ts
conjuncts (any_parts ts) = conjunct (trimmed_any ts) (Some [])

abbrev pub disjuncts : Node → Option (List (Tree RowLit))
disjuncts (whole t) = disjunct t (Some [])
disjuncts (all_parts ts) = disjunct (trimmed_all ts) (Some [])
disjuncts (any_parts ts) = ts

abbrev pub node : Tree Comparison → Node
node always = whole yes
node never = whole no
node (leaf comparison) = whole (trimmed_leaf (normal_of comparison))
node (opposite f) = whole (trimmed_opposite (closed (node f)))
node end_of_all = all_parts (Some [])
node (all_of f rest) = all_parts (conjunct (closed (node f)) (conjuncts (node rest)))
node end_of_any = any_parts (Some [])
node (any_of f rest) = any_parts (disjunct (closed (node f)) (disjuncts (node rest)))

-- the formula without constants
unfoldable pub simplified : Tree Comparison → Trimmed
simplified f = closed (node f)

-- the parts of a conjunction that are left, and those of a disjunction
abbrev pub conjuncts_of : List (Tree Comparison) → Option (List (Tree RowLit))
conjuncts_of [] = Some []
conjuncts_of (f ∷ fs) = conjunct (simplified f) (conjuncts_of fs)

abbrev pub disjuncts_of : List (Tree Comparison) → Option (List (Tree RowLit))
disjuncts_of [] = Some []
disjuncts_of (f ∷ fs) = disjunct (simplified f) (disjuncts_of fs)
