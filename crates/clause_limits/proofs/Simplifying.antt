-- A formula without constants has no greater weight, and each of its rows is of the form of one of the sums.
use Rattle.std.proofs.Common.{◌≡◌, ℕ, ◌+◌, ◌≤◌, ℤ, Bool, true, false, inl, inr, List, [], ◌∷◌, map, Option, None, Some, refl, sym, ap, subst, if◌then◌else◌, arith}
use Rattle.std.specs.Int.{is_negative}
use Rattle.condition_tree.specs.Trees.{Tree, always, never, leaf, opposite, end_of_all, all_of, end_of_any, any_of, conjunction, disjunction, EachLeaf}
use Rattle.linear_form.specs.declared.lists.Form.{Form}
use Rattle.linear_form.specs.declared.lists.Term.{Term}
use Rattle.linear_form.specs.declared.relations.Comparison.{Comparison}
use Rattle.linear_form.specs.declared.relations.Normal.{Normal}
use Rattle.linear_form.specs.declared.relations.Normal.TheVariants.{Always, Never, Bound}
use Rattle.linear_form.specs.declared.relations.Rel.{Rel}
use Rattle.linear_form.specs.declared.relations.Rel.TheVariants.{AtMost, Below, AtLeast, Above}
use Rattle.linear_form.specs.NormalForm.{divisor_from, is_related, literal, negated_if, normal, normal_of, quotient, turned_if}
use Rattle.linear_form.specs.Reduced.{reduced}
use Rattle.clause_form.specs.Simplified.{Trimmed, yes, no, shown, Node, whole, all_parts, any_parts, closed, conjunct, conjuncts, disjunct, disjuncts, node, simplified, trimmed_all, trimmed_any, trimmed_leaf, trimmed_opposite}
use Rattle.clause_limits.proofs.Types.{RowLit}
use Rattle.clause_limits.specs.Limits.{IsAmong, HasSums, open_all, open_any, weight}

-- ---- weights

open_conjunction : (more : ℕ) (ts : List (Tree RowLit)) → open_all more (conjunction ts) ≡ 0
open_conjunction more [] = refl
open_conjunction more (t ∷ ts) = refl

open_disjunction : (more : ℕ) (ts : List (Tree RowLit)) → open_any more (disjunction ts) ≡ 0
open_disjunction more [] = refl
open_disjunction more (t ∷ ts) = refl

module _ (ends parts : ℕ) where
  pub weight_some : {L : Type 0} → 1 ≤ ends → (f : Tree L) → 1 ≤ weight ends parts f
  weight_some some always = some
  weight_some some never = some
  weight_some some (leaf l) = omega arith
  weight_some some (opposite f) = weight_some some f
  weight_some some end_of_all = some
  weight_some some (all_of f rest) = let first = weight_some some f in omega arith
  weight_some some end_of_any = some
  weight_some some (any_of f rest) = let first = weight_some some f in omega arith

  abbrev pub trimmed_weight : Trimmed → ℕ
  trimmed_weight yes = 0
  trimmed_weight no = 0
  trimmed_weight (shown t) = weight ends parts t

  abbrev parts_weight : List (Tree RowLit) → ℕ
  parts_weight [] = 0
  parts_weight (t ∷ ts) = weight ends parts t + (parts + parts_weight ts)

  abbrev kept_weight : Option (List (Tree RowLit)) → ℕ
  kept_weight None = 0
  kept_weight (Some ts) = parts_weight ts

  abbrev node_weight : Node → ℕ
  node_weight (whole t) = trimmed_weight t
  node_weight (all_parts kept) = kept_weight kept + ends
  node_weight (any_parts kept) = kept_weight kept + ends

  conjunction_weight : (ts : List (Tree RowLit)) → weight ends parts (conjunction ts) ≡ parts_weight ts + ends
  conjunction_weight [] = omega arith
  conjunction_weight (t ∷ ts) = let rest = conjunction_weight ts in let none = open_conjunction (ends + parts) ts in omega arith

  disjunction_weight : (ts : List (Tree RowLit)) → weight ends parts (disjunction ts) ≡ parts_weight ts + ends
  disjunction_weight [] = omega arith
  disjunction_weight (t ∷ ts) = let rest = disjunction_weight ts in let none = open_disjunction (ends + parts) ts in omega arith

  trimmed_all_weight : (kept : Option (List (Tree RowLit))) → trimmed_weight (trimmed_all kept) ≤ kept_weight kept + ends
  trimmed_all_weight None = omega arith
  trimmed_all_weight (Some []) = omega arith
  trimmed_all_weight (Some (t ∷ [])) = omega arith
  trimmed_all_weight (Some (t ∷ u ∷ ts)) = let same = conjunction_weight (t ∷ u ∷ ts) in omega arith

  trimmed_any_weight : (kept : Option (List (Tree RowLit))) → trimmed_weight (trimmed_any kept) ≤ kept_weight kept + ends
  trimmed_any_weight None = omega arith
  trimmed_any_weight (Some []) = omega arith
  trimmed_any_weight (Some (t ∷ [])) = omega arith
  trimmed_any_weight (Some (t ∷ u ∷ ts)) = let same = disjunction_weight (t ∷ u ∷ ts) in omega arith

  closed_weight : (n : Node) → trimmed_weight (closed n) ≤ node_weight n
  closed_weight (whole t) = omega arith
  closed_weight (all_parts kept) = trimmed_all_weight kept
  closed_weight (any_parts kept) = trimmed_any_weight kept

  opposite_weight : (t : Trimmed) → trimmed_weight (trimmed_opposite t) ≤ trimmed_weight t
  opposite_weight yes = omega arith
  opposite_weight no = omega arith
  opposite_weight (shown t) = omega arith

  conjunct_weight : (t : Trimmed) (kept : Option (List (Tree RowLit))) → kept_weight (conjunct t kept) ≤ trimmed_weight t + (parts + kept_weight kept)
  conjunct_weight yes kept = omega arith
  conjunct_weight no kept = omega arith
  conjunct_weight (shown t) None = omega arith
  conjunct_weight (shown t) (Some ts) = omega arith

  disjunct_weight : (t : Trimmed) (kept : Option (List (Tree RowLit))) → kept_weight (disjunct t kept) ≤ trimmed_weight t + (parts + kept_weight kept)
  disjunct_weight yes kept = omega arith
  disjunct_weight no kept = omega arith
  disjunct_weight (shown t) None = omega arith
  disjunct_weight (shown t) (Some ts) = omega arith

  -- a node as the last parts of a conjunction, or of a disjunction
  as_conjuncts : (n : Node) → kept_weight (conjuncts n) + ends ≤ node_weight n + (ends + parts)
  as_conjuncts (whole t) = let one = conjunct_weight t (Some []) in omega arith
  as_conjuncts (all_parts kept) = omega arith
  as_conjuncts (any_parts kept) = let one = conjunct_weight (trimmed_any kept) (Some []) in let any = trimmed_any_weight kept in omega arith

  as_disjuncts : (n : Node) → kept_weight (disjuncts n) + ends ≤ node_weight n + (ends + parts)
  as_disjuncts (whole t) = let one = disjunct_weight t (Some []) in omega arith
  as_disjuncts (all_parts kept) = let one = disjunct_weight (trimmed_all kept) (Some []) in let all = trimmed_all_weight kept in omega arith
  as_disjuncts (any_parts kept) = omega arith

  conjuncts_weight : (rest : Tree Comparison) → node_weight (node rest) ≤ weight ends parts rest
      → kept_weight (conjuncts (node rest)) + ends ≤ weight ends parts rest + open_all (ends + parts) rest
  conjuncts_weight always to = let as_one = as_conjuncts (node always) in omega arith
  conjuncts_weight never to = let as_one = as_conjuncts (node never) in omega arith
  conjuncts_weight (leaf c) to = let as_one = as_conjuncts (node (leaf c)) in omega arith
  conjuncts_weight (opposite f) to = let as_one = as_conjuncts (node (opposite f)) in omega arith
  conjuncts_weight end_of_all to = omega arith
  conjuncts_weight (all_of f rest) to = omega arith
  conjuncts_weight end_of_any to = let as_one = as_conjuncts (node end_of_any) in omega arith
  conjuncts_weight (any_of f rest) to = let as_one = as_conjuncts (node (any_of f rest)) in omega arith

  disjuncts_weight : (rest : Tree Comparison) → node_weight (node rest) ≤ weight ends parts rest
      → kept_weight (disjuncts (node rest)) + ends ≤ weight ends parts rest + open_any (ends + parts) rest
  disjuncts_weight always to = let as_one = as_disjuncts (node always) in omega arith
  disjuncts_weight never to = let as_one = as_disjuncts (node never) in omega arith
  disjuncts_weight (leaf c) to = let as_one = as_disjuncts (node (leaf c)) in omega arith
  disjuncts_weight (opposite f) to = let as_one = as_disjuncts (node (opposite f)) in omega arith
  disjuncts_weight end_of_all to = let as_one = as_disjuncts (node end_of_all) in omega arith
  disjuncts_weight (all_of f rest) to = let as_one = as_disjuncts (node (all_of f rest)) in omega arith
  disjuncts_weight end_of_any to = omega arith
  disjuncts_weight (any_of f rest) to = omega arith

  leaf_weight : (n : Normal) → trimmed_weight (trimmed_leaf n) ≤ 1
  leaf_weight Always = omega arith
  leaf_weight Never = omega arith
  leaf_weight (Bound form num den strict positive) = omega arith

  node_lighter : (f : Tree Comparison) → node_weight (node f) ≤ weight ends parts f
  node_lighter always = omega arith
  node_lighter never = omega arith
  node_lighter (leaf c) = leaf_weight (normal_of c)
  node_lighter (opposite f) =
      let turned = opposite_weight (closed (node f)) in
      let one = closed_weight (node f) in
      let part = node_lighter f in
      omega arith
  node_lighter end_of_all = omega arith
  node_lighter (all_of f rest) =
      let one = closed_weight (node f) in
      let part = node_lighter f in
      let others = conjuncts_weight rest (node_lighter rest) in
      let both = conjunct_weight (closed (node f)) (conjuncts (node rest)) in
      omega arith
  node_lighter end_of_any = omega arith
  node_lighter (any_of f rest) =
      let one = closed_weight (node f) in
      let part = node_lighter f in
      let others = disjuncts_weight rest (node_lighter rest) in
      let both = disjunct_weight (closed (node f)) (disjuncts (node rest)) in
      omega arith

  pub simplified_lighter : (f : Tree Comparison) → trimmed_weight (simplified f) ≤ weight ends parts f
  unfolding simplified
  simplified_lighter f = let one = closed_weight (node f) in let part = node_lighter f in omega arith

-- ---- forms

-- the form of a sum, whatever its constant and its relation
abbrev form_made : List Term → Form
form_made [] = record { terms = [] }
form_made (t ∷ ts) = record { terms = map (quotient (is_negative t.coef) (divisor_from 0 (t ∷ ts))) (t ∷ ts) }

abbrev pub form_of : List Term → Form
form_of terms = form_made (reduced terms)

abbrev HasForm : Form → Normal → Type 0
HasForm f Always = Unit {0}
HasForm f Never = Unit {0}
HasForm f (Bound form num den strict positive) = form ≡ f

literal_form : (rel : Rel) (terms : List Term) (num den : ℤ) → HasForm (record { terms = terms }) (literal rel terms num den)
literal_form AtMost terms num den = refl
literal_form Below terms num den = refl
literal_form AtLeast terms num den = refl
literal_form Above terms num den = refl

normal_form : (terms : List Term) (constant : ℤ) (rel : Rel) → HasForm (form_made terms) (normal terms constant rel)
normal_form [] constant rel = by (is_related rel constant)
  where
    by : (b : Bool) → HasForm (form_made []) (if b then Always else Never)
    by true = tt
    by false = tt
normal_form (t ∷ ts) constant rel =
    let g = divisor_from 0 (t ∷ ts) in
    let over = negated_if (is_negative t.coef) constant in
    literal_form (turned_if (is_negative t.coef) rel) (map (quotient (is_negative t.coef) g) (t ∷ ts)) _ _

has_form : (c : Comparison) → HasForm (form_of c.terms) (normal_of c)
unfolding normal_of
has_form c = normal_form (reduced c.terms) c.constant c.rel

pub among_map : {X Y : Type 0} (f : X → Y) (xs : List X) (x : X) → IsAmong xs x → IsAmong (map f xs) (f x)
among_map f [] x among = among
among_map f (y ∷ xs) x (inl is) = inl (ap f is)
among_map f (y ∷ xs) x (inr among) = inr (among_map f xs x among)

module _ (sums : List (List Term)) where
  abbrev OfSum : RowLit → Type 0
  OfSum r = IsAmong (map form_of sums) r.form

  abbrev pub RowsOfSums : Tree RowLit → Type 0
  RowsOfSums t = EachLeaf OfSum t

  abbrev pub TrimmedOfSums : Trimmed → Type 0
  TrimmedOfSums yes = Unit {0}
  TrimmedOfSums no = Unit {0}
  TrimmedOfSums (shown t) = RowsOfSums t

  abbrev AllOfSums : Option (List (Tree RowLit)) → Type 0
  AllOfSums None = Unit {0}
  AllOfSums (Some ts) = RowsOfSums (conjunction ts)

  abbrev AnyOfSums : Option (List (Tree RowLit)) → Type 0
  AnyOfSums None = Unit {0}
  AnyOfSums (Some ts) = RowsOfSums (disjunction ts)

  abbrev NodeOfSums : Node → Type 0
  NodeOfSums (whole t) = TrimmedOfSums t
  NodeOfSums (all_parts ts) = AllOfSums ts
  NodeOfSums (any_parts ts) = AnyOfSums ts

  leaf_sums : (c : Comparison) → IsAmong sums c.terms → TrimmedOfSums (trimmed_leaf (normal_of c))
  leaf_sums c among = by (normal_of c) (has_form c)
    where
      by : (n : Normal) → HasForm (form_of c.terms) n → TrimmedOfSums (trimmed_leaf n)
      by Always has = tt
      by Never has = tt
      by (Bound form num den strict positive) has = subst (IsAmong (map form_of sums)) (sym has) (among_map form_of sums c.terms among)

  trimmed_all_sums : (ts : Option (List (Tree RowLit))) → AllOfSums ts → TrimmedOfSums (trimmed_all ts)
  trimmed_all_sums None rows = tt
  trimmed_all_sums (Some []) rows = tt
  trimmed_all_sums (Some (t ∷ [])) rows = rows.0
  trimmed_all_sums (Some (t ∷ u ∷ ts)) rows = rows

  trimmed_any_sums : (ts : Option (List (Tree RowLit))) → AnyOfSums ts → TrimmedOfSums (trimmed_any ts)
  trimmed_any_sums None rows = tt
  trimmed_any_sums (Some []) rows = tt
  trimmed_any_sums (Some (t ∷ [])) rows = rows.0
  trimmed_any_sums (Some (t ∷ u ∷ ts)) rows = rows

  closed_sums : (v : Node) → NodeOfSums v → TrimmedOfSums (closed v)
  closed_sums (whole t) rows = rows
  closed_sums (all_parts ts) rows = trimmed_all_sums ts rows
  closed_sums (any_parts ts) rows = trimmed_any_sums ts rows

  conjunct_sums : (t : Trimmed) (rest : Option (List (Tree RowLit))) → TrimmedOfSums t → AllOfSums rest → AllOfSums (conjunct t rest)
  conjunct_sums yes rest first rows = rows
  conjunct_sums no rest first rows = tt
  conjunct_sums (shown t) None first rows = tt
  conjunct_sums (shown t) (Some ts) first rows = (first, rows)

  disjunct_sums : (t : Trimmed) (rest : Option (List (Tree RowLit))) → TrimmedOfSums t → AnyOfSums rest → AnyOfSums (disjunct t rest)
  disjunct_sums yes rest first rows = tt
  disjunct_sums no rest first rows = rows
  disjunct_sums (shown t) None first rows = tt
  disjunct_sums (shown t) (Some ts) first rows = (first, rows)

  conjuncts_sums : (v : Node) → NodeOfSums v → AllOfSums (conjuncts v)
  conjuncts_sums (whole t) rows = conjunct_sums t (Some []) rows tt
  conjuncts_sums (all_parts ts) rows = rows
  conjuncts_sums (any_parts ts) rows = conjunct_sums (trimmed_any ts) (Some []) (trimmed_any_sums ts rows) tt

  disjuncts_sums : (v : Node) → NodeOfSums v → AnyOfSums (disjuncts v)
  disjuncts_sums (whole t) rows = disjunct_sums t (Some []) rows tt
  disjuncts_sums (all_parts ts) rows = disjunct_sums (trimmed_all ts) (Some []) (trimmed_all_sums ts rows) tt
  disjuncts_sums (any_parts ts) rows = rows

  opposite_sums : (t : Trimmed) → TrimmedOfSums t → TrimmedOfSums (trimmed_opposite t)
  opposite_sums yes rows = tt
  opposite_sums no rows = tt
  opposite_sums (shown t) rows = rows

  node_sums : (f : Tree Comparison) → HasSums sums f → NodeOfSums (node f)
  node_sums always has = tt
  node_sums never has = tt
  node_sums (leaf c) has = leaf_sums c has
  node_sums (opposite f) has = opposite_sums (closed (node f)) (closed_sums (node f) (node_sums f has))
  node_sums end_of_all has = tt
  node_sums (all_of f rest) has =
      conjunct_sums (closed (node f)) (conjuncts (node rest)) (closed_sums (node f) (node_sums f has.0)) (conjuncts_sums (node rest) (node_sums rest has.1))
  node_sums end_of_any has = tt
  node_sums (any_of f rest) has =
      disjunct_sums (closed (node f)) (disjuncts (node rest)) (closed_sums (node f) (node_sums f has.0)) (disjuncts_sums (node rest) (node_sums rest has.1))

  pub simplified_sums : (f : Tree Comparison) → HasSums sums f → TrimmedOfSums (simplified f)
  unfolding simplified
  simplified_sums f has = closed_sums (node f) (node_sums f has)
