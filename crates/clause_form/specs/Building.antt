-- The clauses of a list of formulas: which, in which order, and how forms and atoms are numbered.
-- What has been made so far goes from step to step. A step that would pass a limit gives that limit's name.
use Rattle.std.specs.Prelude.{ℕ, ◌+◌, ◌-◌, nat_lt, Bool, true, false, not, List, [], ◌∷◌, ◌++◌, map, length, Option, None, Some, Result, Ok, Err, if◌then◌else◌}
use Rattle.std.specs.List.{position_or_len}
use Rattle.indexmap.specs.IndexSet.{insert_key}
use Rattle.condition_tree.specs.Trees.{Tree, always, never, leaf, opposite, end_of_all, all_of, end_of_any, any_of}
use Rattle.linear_form.specs.declared.lists.Form.{Form}
use Rattle.linear_form.specs.declared.lists.Term.{Term}
use Rattle.linear_form.specs.declared.relations.Comparison.{Comparison}
use Rattle.farkas_cert.specs.Literals.{negation}
use Rattle.farkas_cert.specs.declared.literals.Lit.{Lit}
use Rattle.clause_form.specs.declared.clauses.Clauses.{Clauses}
use Rattle.clause_form.specs.declared.clauses.What.{What}
use Rattle.clause_form.specs.declared.clauses.What.TheVariants as too_many
use Rattle.clause_form.specs.declared.clauses.What.TheVariants.{Forms, Atoms}
use Rattle.clause_form.specs.declared.keys.Connective.{Connective}
use Rattle.clause_form.specs.declared.keys.Connective.TheVariants.{And, Or}
use Rattle.clause_form.specs.declared.keys.Key.{Key}
use Rattle.clause_form.specs.declared.keys.Key.TheVariants.{Row, Named}
use Rattle.clause_form.specs.declared.simple.RowLit.{RowLit}
use Rattle.clause_form.specs.Keys.{atom_of, same_form, same_key, signed, definitions_of}
use Rattle.clause_form.specs.Simplified.{Trimmed, yes, no, shown, simplified}

-- what was made so far: the forms of several columns, what each atom stands for, and the clauses
pub record Build : Type 0 where
  pub columns : ℕ
  pub forms : List Form
  pub keys : List Key
  pub clauses : List (List Lit)

abbrev pub limit_of : What → ℕ
limit_of Forms = 2048
limit_of Atoms = 4096
limit_of too_many.Clauses = 1048576

-- goes on with what a step gave, unless it passed a limit
abbrev pub and_then : {X Y : Type 0} → Result X What → (X → Result Y What) → Result Y What
and_then (Ok x) next = next x
and_then (Err what) next = Err what

-- ---- numbers in first-seen order

-- the item's place in a list whose items differ; one that isn't there goes last, where there is room
unfoldable pub numbered : {T : Type 0} → (T → T → Bool) → ℕ → What → List T → T → Result (List T × ℕ) What
numbered same room what items item =
    let place = position_or_len (same item) items in
    if nat_lt place room then Ok (insert_key same items item, place) else Err what

-- the column of a form of one column
abbrev pub lone_column : List Term → Option ℕ
lone_column [] = None
lone_column (t ∷ []) = Some t.column
lone_column (t ∷ u ∷ ts) = None

-- a form of one column is that column; the others are numbered after the columns
abbrev pub form_numbered_by : Option ℕ → Build → Form → Result (Build × ℕ) What
form_numbered_by (Some column) s form = Ok (s, column)
form_numbered_by None s form = and_then (numbered same_form (2048 - s.columns) Forms s.forms form) (λ n. Ok (record s { forms = n.0 }, s.columns + n.1))

unfoldable pub form_numbered : Build → Form → Result (Build × ℕ) What
form_numbered s form = form_numbered_by (lone_column form.terms) s form

-- ---- clauses

unfoldable pub with_clause : List (List Lit) → List Lit → Result (List (List Lit)) What
with_clause clauses lits = if nat_lt (length clauses) 1048576 then Ok (clauses ++ lits ∷ []) else Err too_many.Clauses

abbrev pub with_clauses : List (List Lit) → List (List Lit) → Result (List (List Lit)) What
with_clauses clauses [] = Ok clauses
with_clauses clauses (lits ∷ more) = and_then (with_clause clauses lits) (λ longer. with_clauses longer more)

-- one clause more
abbrev pub with_lits : Build → List Lit → Result Build What
with_lits s lits = and_then (with_clause s.clauses lits) (λ longer. Ok (record s { clauses = longer }))

-- ---- atoms

-- the clauses of an atom, where it is new
abbrev pub defined : ℕ → Key → Build → ℕ → Result (Build × ℕ) What
defined before key s p =
    if nat_lt p before then Ok (s, p)
    else and_then (with_clauses s.clauses (definitions_of key p)) (λ longer. Ok (record s { clauses = longer }, p))

-- atoms are numbered in one sequence; one that is new comes with its clauses
unfoldable pub atom_numbered : Build → Key → Result (Build × ℕ) What
atom_numbered s key = and_then (numbered same_key 4096 Atoms s.keys key) (λ n. defined (length s.keys) key (record s { keys = n.0 }) n.1)

-- ---- the literal of a formula

-- the literal of a row, whose form is counted before the atom
unfoldable pub row_literal : Build → RowLit → Result (Build × Lit) What
row_literal s r =
    and_then (form_numbered s r.form) (λ f.
    and_then (atom_numbered f.0 (Row f.1 r.num r.den r.strict)) (λ a.
    Ok (a.0, record { atom = a.1; positive = r.positive })))

-- the literal of the name of a conjunction or a disjunction
unfoldable pub named : Build → Connective → List Lit → Result (Build × Lit) What
named s connective parts = and_then (atom_numbered s (Named connective parts)) (λ a. Ok (a.0, record { atom = a.1; positive = true }))

-- what a node of a tree gives: a literal, or those of the parts of a conjunction or a disjunction from here on
pub data Value : Type 0 where
  one : Lit → Value
  all_lits : List Lit → Value
  any_lits : List Lit → Value

-- the node as a whole formula: a conjunction or a disjunction gets its name
abbrev pub sealed : Build → Value → Result (Build × Lit) What
sealed s (one l) = Ok (s, l)
sealed s (all_lits ls) = named s And ls
sealed s (any_lits ls) = named s Or ls

-- the node as the last parts of a conjunction, or of a disjunction
abbrev pub conjunct_lits : Build → Value → Result (Build × List Lit) What
conjunct_lits s (one l) = Ok (s, l ∷ [])
conjunct_lits s (all_lits ls) = Ok (s, ls)
conjunct_lits s (any_lits ls) = and_then (named s Or ls) (λ p. Ok (p.0, p.1 ∷ []))

abbrev pub disjunct_lits : Build → Value → Result (Build × List Lit) What
disjunct_lits s (one l) = Ok (s, l ∷ [])
disjunct_lits s (all_lits ls) = and_then (named s And ls) (λ p. Ok (p.0, p.1 ∷ []))
disjunct_lits s (any_lits ls) = Ok (s, ls)

-- the parts' literals are taken from the left, and then that of the whole
abbrev pub value : Tree RowLit → Build → Result (Build × Value) What
value always s = Ok (s, all_lits [])
value never s = Ok (s, any_lits [])
value (leaf r) s = and_then (row_literal s r) (λ p. Ok (p.0, one p.1))
value (opposite t) s = and_then (value t s) (λ v. and_then (sealed v.0 v.1) (λ p. Ok (p.0, one (negation p.1))))
value end_of_all s = Ok (s, all_lits [])
value (all_of t rest) s =
    and_then (value t s) (λ v. and_then (sealed v.0 v.1) (λ p.
    and_then (value rest p.0) (λ w. and_then (conjunct_lits w.0 w.1) (λ q. Ok (q.0, all_lits (p.1 ∷ q.1))))))
value end_of_any s = Ok (s, any_lits [])
value (any_of t rest) s =
    and_then (value t s) (λ v. and_then (sealed v.0 v.1) (λ p.
    and_then (value rest p.0) (λ w. and_then (disjunct_lits w.0 w.1) (λ q. Ok (q.0, any_lits (p.1 ∷ q.1))))))

unfoldable pub literal : Tree RowLit → Build → Result (Build × Lit) What
literal t s = and_then (value t s) (λ v. sealed v.0 v.1)

-- the literals of a list of formulas, from the left
abbrev pub literals : List (Tree RowLit) → Build → Result (Build × List Lit) What
literals [] s = Ok (s, [])
literals (t ∷ ts) s = and_then (literal t s) (λ p. and_then (literals ts p.0) (λ q. Ok (q.0, p.1 ∷ q.1)))

-- ---- the clauses of a formula

-- one of the literals is demanded, each as it stands or each negated
abbrev pub one_of : Bool → Result (Build × List Lit) What → Result Build What
one_of sign lits = and_then lits (λ q. with_lits q.0 (map (signed sign) q.1))

-- the formula is demanded, or its negation where the sign is false
abbrev pub demanded : Bool → Tree RowLit → Build → Result Build What
demanded true always s = Ok s
demanded false always s = with_lits s []
demanded true never s = with_lits s []
demanded false never s = Ok s
demanded sign (leaf r) s = and_then (row_literal s r) (λ p. with_lits p.0 (signed sign p.1 ∷ []))
demanded sign (opposite t) s = demanded (not sign) t s
demanded true end_of_all s = Ok s
demanded false end_of_all s = with_lits s []
demanded true (all_of t rest) s = and_then (demanded true t s) (λ u. demanded true rest u)
demanded false (all_of t rest) s = one_of false (and_then (value (all_of t rest) s) (λ v. conjunct_lits v.0 v.1))
demanded true end_of_any s = with_lits s []
demanded false end_of_any s = Ok s
demanded true (any_of t rest) s = one_of true (and_then (value (any_of t rest) s) (λ v. disjunct_lits v.0 v.1))
demanded false (any_of t rest) s = and_then (demanded false t s) (λ u. demanded false rest u)

-- each of the formulas is demanded, or each negation
abbrev pub demanded_each : Bool → List (Tree RowLit) → Build → Result Build What
demanded_each sign [] s = Ok s
demanded_each sign (t ∷ ts) s = and_then (demanded sign t s) (λ u. demanded_each sign ts u)

-- a formula without constants, or its truth: what is true gives nothing, and what is false the empty clause
abbrev pub demanded_known : Trimmed → Build → Result Build What
demanded_known yes s = Ok s
demanded_known no s = with_lits s []
demanded_known (shown t) s = demanded true t s

-- all formulas, in order
abbrev pub built : List (Tree Comparison) → Build → Result Build What
built [] s = Ok s
built (f ∷ fs) s = and_then (demanded_known (simplified f) s) (λ t. built fs t)

abbrev pub nothing : ℕ → Build
nothing columns = record { columns = columns; forms = []; keys = []; clauses = [] }

-- the clauses that the builder ends with
abbrev pub clauses_made : Build → Clauses
clauses_made s = record { columns = s.columns; forms = s.forms; atoms = map atom_of s.keys; clauses = s.clauses }

-- the clauses of a list of formulas over this many columns
unfoldable pub clauses_of : ℕ → List (Tree Comparison) → Result Clauses What
clauses_of columns fs = and_then (built fs (nothing columns)) (λ s. Ok (clauses_made s))
