-- Clauses are made over the columns that they were asked for: no step changes their number.
use Rattle.std.proofs.Common.{◌≡◌, ℕ, Bool, true, false, List, [], ◌∷◌, length, map, Option, None, Some, Result, Ok, Err, refl, subst}
use Rattle.std.specs.Prelude.{◌-◌, ◌+◌, nat_lt, if◌then◌else◌}
use Rattle.condition_tree.specs.Trees.{Tree, always, never, leaf, opposite, end_of_all, all_of, end_of_any, any_of}
use Rattle.linear_form.specs.declared.lists.Form.{Form}
use Rattle.linear_form.specs.declared.relations.Comparison.{Comparison}
use Rattle.farkas_cert.specs.Literals.{negation}
use Rattle.farkas_cert.specs.declared.literals.Lit.{Lit}
use Rattle.clause_form.specs.Building.{Build, Value, all_lits, and_then, any_lits, atom_numbered, built, clauses_made, clauses_of, conjunct_lits, defined, demanded, demanded_known, disjunct_lits, form_numbered, form_numbered_by, lone_column, named, nothing, numbered, one, one_of, row_literal, sealed, value, with_clause, with_clauses, with_lits}
use Rattle.clause_form.specs.Keys.{definitions_of, same_form, same_key, signed}
use Rattle.clause_form.specs.Simplified.{Trimmed, no, shown, simplified, yes}
use Rattle.clause_form.specs.declared.clauses.Clauses.{Clauses}
use Rattle.clause_form.specs.declared.clauses.What.{What}
use Rattle.clause_form.specs.declared.clauses.What.TheVariants.{Atoms, Forms}

-- what is given has this many columns
abbrev Keeps : {Y : Type 0} → (Y → ℕ) → ℕ → Result Y What → Type 0
Keeps columns n (Ok y) = columns y ≡ n
Keeps columns n (Err what) = Unit {0}

-- a step after one that kept them
after : {X Y : Type 0} (cx : X → ℕ) (cy : Y → ℕ) (n : ℕ) (r : Result X What) (f : X → Result Y What) → Keeps cx n r
    → ((x : X) → cx x ≡ n → Keeps cy n (f x)) → Keeps cy n (and_then r f)
after cx cy n (Ok x) f kept so = so x kept
after cx cy n (Err what) f kept so = tt

-- a step after one that has none
after_other : {X Y : Type 0} (cy : Y → ℕ) (n : ℕ) (r : Result X What) (f : X → Result Y What) → ((x : X) → Keeps cy n (f x)) → Keeps cy n (and_then r f)
after_other cy n (Ok x) f so = so x
after_other cy n (Err what) f so = tt

abbrev of_build : Build → ℕ
of_build s = s.columns

abbrev of_first : {Z : Type 0} → Build × Z → ℕ
of_first p = p.0.columns

lits_kept : (n : ℕ) (s : Build) (lits : List Lit) → s.columns ≡ n → Keeps of_build n (with_lits s lits)
lits_kept n s lits kept = after_other of_build n (with_clause s.clauses lits) (λ longer. Ok (record s { clauses = longer })) (λ longer. kept)

form_kept : (n : ℕ) (column : Option ℕ) (s : Build) (form : Form) → s.columns ≡ n → Keeps of_first n (form_numbered_by column s form)
form_kept n (Some column) s form kept = kept
form_kept n None s form kept =
    after_other of_first n (numbered same_form (2048 - s.columns) Forms s.forms form) (λ m. Ok (record s { forms = m.0 }, s.columns + m.1)) (λ m. kept)

defined_kept : (n before : ℕ) (key : _) (s : Build) (p : ℕ) → s.columns ≡ n → Keeps of_first n (defined before key s p)
defined_kept n before key s p kept = by (nat_lt p before)
  where
    by : (old : Bool)
        → Keeps of_first n
        (if old then Ok (s, p) else and_then (with_clauses s.clauses (definitions_of key p)) (λ longer. Ok (record s { clauses = longer }, p)))
    by true = kept
    by false = after_other of_first n (with_clauses s.clauses (definitions_of key p)) (λ longer. Ok (record s { clauses = longer }, p)) (λ longer. kept)

atom_kept : (n : ℕ) (s : Build) (key : _) → s.columns ≡ n → Keeps of_first n (atom_numbered s key)
unfolding atom_numbered
atom_kept n s key kept =
    after_other of_first n (numbered same_key 4096 Atoms s.keys key) (λ m. defined (length s.keys) key (record s { keys = m.0 }) m.1)
    (λ m. defined_kept n (length s.keys) key (record s { keys = m.0 }) m.1 kept)

row_kept : (n : ℕ) (s : Build) (r : _) → s.columns ≡ n → Keeps of_first n (row_literal s r)
unfolding row_literal form_numbered
row_kept n s r kept =
    after of_first of_first n (form_numbered_by (lone_column r.form.terms) s r.form) _ (form_kept n (lone_column r.form.terms) s r.form kept)
    (λ f still. after of_first of_first n (atom_numbered f.0 _) _ (atom_kept n f.0 _ still) (λ a last. last))

named_kept : (n : ℕ) (s : Build) (connective : _) (parts : List Lit) → s.columns ≡ n → Keeps of_first n (named s connective parts)
unfolding named
named_kept n s connective parts kept =
    after of_first of_first n (atom_numbered s _) _ (atom_kept n s _ kept) (λ a last. last)

sealed_kept : (n : ℕ) (s : Build) (v : Value) → s.columns ≡ n → Keeps of_first n (sealed s v)
sealed_kept n s (one l) kept = kept
sealed_kept n s (all_lits ls) kept = named_kept n s _ ls kept
sealed_kept n s (any_lits ls) kept = named_kept n s _ ls kept

conjunct_kept : (n : ℕ) (s : Build) (v : Value) → s.columns ≡ n → Keeps of_first n (conjunct_lits s v)
conjunct_kept n s (one l) kept = kept
conjunct_kept n s (all_lits ls) kept = kept
conjunct_kept n s (any_lits ls) kept = after of_first of_first n (named s _ ls) (λ p. Ok (p.0, p.1 ∷ [])) (named_kept n s _ ls kept) (λ p last. last)

disjunct_kept : (n : ℕ) (s : Build) (v : Value) → s.columns ≡ n → Keeps of_first n (disjunct_lits s v)
disjunct_kept n s (one l) kept = kept
disjunct_kept n s (all_lits ls) kept = after of_first of_first n (named s _ ls) (λ p. Ok (p.0, p.1 ∷ [])) (named_kept n s _ ls kept) (λ p last. last)
disjunct_kept n s (any_lits ls) kept = kept

value_kept : (n : ℕ) (t : Tree _) (s : Build) → s.columns ≡ n → Keeps of_first n (value t s)
value_kept n always s kept = kept
value_kept n never s kept = kept
value_kept n (leaf r) s kept = after of_first of_first n (row_literal s r) (λ p. Ok (p.0, one p.1)) (row_kept n s r kept) (λ p last. last)
value_kept n (opposite t) s kept =
    after of_first of_first n (value t s) (λ v. and_then (sealed v.0 v.1) (λ p. Ok (p.0, one (negation p.1)))) (value_kept n t s kept)
    (λ v still. after of_first of_first n (sealed v.0 v.1) (λ p. Ok (p.0, one (negation p.1))) (sealed_kept n v.0 v.1 still) (λ p last. last))
value_kept n end_of_all s kept = kept
value_kept n (all_of t rest) s kept =
    after of_first of_first n (value t s)
    (λ v. and_then (sealed v.0 v.1) (λ p. and_then (value rest p.0) (λ w. and_then (conjunct_lits w.0 w.1) (λ q. Ok (q.0, all_lits (p.1 ∷ q.1))))))
    (value_kept n t s kept)
    (λ v one. after of_first of_first n (sealed v.0 v.1)
    (λ p. and_then (value rest p.0) (λ w. and_then (conjunct_lits w.0 w.1) (λ q. Ok (q.0, all_lits (p.1 ∷ q.1))))) (sealed_kept n v.0 v.1 one)
    (λ p two. after of_first of_first n (value rest p.0) (λ w. and_then (conjunct_lits w.0 w.1) (λ q. Ok (q.0, all_lits (p.1 ∷ q.1))))
    (value_kept n rest p.0 two)
    (λ w three. after of_first of_first n (conjunct_lits w.0 w.1) (λ q. Ok (q.0, all_lits (p.1 ∷ q.1))) (conjunct_kept n w.0 w.1 three) (λ q last. last))))
value_kept n end_of_any s kept = kept
value_kept n (any_of t rest) s kept =
    after of_first of_first n (value t s)
    (λ v. and_then (sealed v.0 v.1) (λ p. and_then (value rest p.0) (λ w. and_then (disjunct_lits w.0 w.1) (λ q. Ok (q.0, any_lits (p.1 ∷ q.1))))))
    (value_kept n t s kept)
    (λ v one. after of_first of_first n (sealed v.0 v.1)
    (λ p. and_then (value rest p.0) (λ w. and_then (disjunct_lits w.0 w.1) (λ q. Ok (q.0, any_lits (p.1 ∷ q.1))))) (sealed_kept n v.0 v.1 one)
    (λ p two. after of_first of_first n (value rest p.0) (λ w. and_then (disjunct_lits w.0 w.1) (λ q. Ok (q.0, any_lits (p.1 ∷ q.1))))
    (value_kept n rest p.0 two)
    (λ w three. after of_first of_first n (disjunct_lits w.0 w.1) (λ q. Ok (q.0, any_lits (p.1 ∷ q.1))) (disjunct_kept n w.0 w.1 three) (λ q last. last))))

one_kept : (n : ℕ) (sign : Bool) (r : Result (Build × List Lit) What) → Keeps of_first n r → Keeps of_build n (one_of sign r)
one_kept n sign r kept =
    after of_first of_build n r (λ q. with_lits q.0 (map (signed sign) q.1)) kept (λ q still. lits_kept n q.0 (map (signed sign) q.1) still)

conjuncts_kept : (n : ℕ) (t : Tree _) (s : Build) → s.columns ≡ n → Keeps of_first n (and_then (value t s) (λ v. conjunct_lits v.0 v.1))
conjuncts_kept n t s kept =
    after of_first of_first n (value t s) (λ v. conjunct_lits v.0 v.1) (value_kept n t s kept) (λ v still. conjunct_kept n v.0 v.1 still)

disjuncts_kept : (n : ℕ) (t : Tree _) (s : Build) → s.columns ≡ n → Keeps of_first n (and_then (value t s) (λ v. disjunct_lits v.0 v.1))
disjuncts_kept n t s kept =
    after of_first of_first n (value t s) (λ v. disjunct_lits v.0 v.1) (value_kept n t s kept) (λ v still. disjunct_kept n v.0 v.1 still)

leaf_kept : (n : ℕ) (sign : Bool) (r : _) (s : Build) → s.columns ≡ n
    → Keeps of_build n (and_then (row_literal s r) (λ p. with_lits p.0 (signed sign p.1 ∷ [])))
leaf_kept n sign r s kept =
    after of_first of_build n (row_literal s r) (λ p. with_lits p.0 (signed sign p.1 ∷ [])) (row_kept n s r kept)
    (λ p still. lits_kept n p.0 (signed sign p.1 ∷ []) still)

demanded_kept : (n : ℕ) (sign : Bool) (t : Tree _) (s : Build) → s.columns ≡ n → Keeps of_build n (demanded sign t s)
demanded_kept n true always s kept = kept
demanded_kept n false always s kept = lits_kept n s [] kept
demanded_kept n true never s kept = lits_kept n s [] kept
demanded_kept n false never s kept = kept
demanded_kept n true (leaf r) s kept = leaf_kept n true r s kept
demanded_kept n false (leaf r) s kept = leaf_kept n false r s kept
demanded_kept n true (opposite t) s kept = demanded_kept n false t s kept
demanded_kept n false (opposite t) s kept = demanded_kept n true t s kept
demanded_kept n true end_of_all s kept = kept
demanded_kept n false end_of_all s kept = lits_kept n s [] kept
demanded_kept n true (all_of t rest) s kept =
    after of_build of_build n (demanded true t s) (λ u. demanded true rest u) (demanded_kept n true t s kept) (λ u still. demanded_kept n true rest u still)
demanded_kept n false (all_of t rest) s kept =
    one_kept n false (and_then (value (all_of t rest) s) (λ v. conjunct_lits v.0 v.1)) (conjuncts_kept n (all_of t rest) s kept)
demanded_kept n true end_of_any s kept = lits_kept n s [] kept
demanded_kept n false end_of_any s kept = kept
demanded_kept n true (any_of t rest) s kept =
    one_kept n true (and_then (value (any_of t rest) s) (λ v. disjunct_lits v.0 v.1)) (disjuncts_kept n (any_of t rest) s kept)
demanded_kept n false (any_of t rest) s kept =
    after of_build of_build n (demanded false t s) (λ u. demanded false rest u) (demanded_kept n false t s kept) (λ u still. demanded_kept n false rest u still)

known_kept : (n : ℕ) (k : Trimmed) (s : Build) → s.columns ≡ n → Keeps of_build n (demanded_known k s)
known_kept n yes s kept = kept
known_kept n no s kept = lits_kept n s [] kept
known_kept n (shown t) s kept = demanded_kept n true t s kept

built_kept : (n : ℕ) (fs : List (Tree Comparison)) (s : Build) → s.columns ≡ n → Keeps of_build n (built fs s)
built_kept n [] s kept = kept
built_kept n (f ∷ fs) s kept =
    after of_build of_build n (demanded_known (simplified f) s) (λ t. built fs t) (known_kept n (simplified f) s kept) (λ t still. built_kept n fs t still)

all_kept : (n : ℕ) (fs : List (Tree Comparison)) → Keeps (λ (c : Clauses). c.columns) n (clauses_of n fs)
unfolding clauses_of
all_kept n fs =
    after of_build (λ (c : Clauses). c.columns) n (built fs (nothing n)) (λ s. Ok (clauses_made s)) (built_kept n fs (nothing n) refl) (λ s kept. kept)

pub columns_made : (n : ℕ) (fs : List (Tree Comparison)) (c : Clauses) → clauses_of n fs ≡ Ok c → c.columns ≡ n
columns_made n fs c made = subst (Keeps (λ (d : Clauses). d.columns) n) made (all_kept n fs)
