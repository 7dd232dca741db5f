-- The text of a problem in SMT-LIB 2, logic QF_LRA: a real constant for each column, a Boolean for each atom, each row atom
-- tied to its row, and each clause asserted.
use Rattle.std.specs.Prelude.{ℕ, zero, suc, ◌-◌, ◌==◌, nat_lt, ℤ, pos, unsigned_abs, true, false, Bool, List, [], ◌∷◌, ◌++◌, length, slice_get, if◌then◌else◌, codes}
use Rattle.std.specs.Fmt.{decimal}
use Rattle.std.specs.Int.{is_negative}
use Rattle.std.specs.Option.{option_map_or}
use Rattle.std.specs.Ordering.{int_eq}
use Rattle.text_lines.specs.Steps.{numbered}
use Rattle.linear_form.specs.declared.lists.Form.{Form}
use Rattle.linear_form.specs.declared.lists.Term.{Term}
use Rattle.farkas_cert.specs.declared.literals.Lit.{Lit}
use Rattle.clause_form.specs.declared.clauses.Atom.{Atom}
use Rattle.clause_form.specs.declared.clauses.Atom.TheVariants.{Row, Named}
use Rattle.clause_form.specs.declared.clauses.Clauses.{Clauses}

-- the texts of the numbers below this one, in order
unfoldable pub counted : (ℕ → List ℕ) → ℕ → List ℕ
counted line zero = []
counted line (suc n) = counted line n ++ line n

-- the text of each value, in order
unfoldable pub listed : {X : Type 0} → (X → List ℕ) → List X → List ℕ
listed item [] = []
listed item (x ∷ xs) = item x ++ listed item xs

-- ---- numbers

abbrev pub amount_text : ℤ → List ℕ
amount_text n = decimal (unsigned_abs n)

-- a number below 0 is the negation of its amount
unfoldable pub signed_text : ℤ → List ℕ
signed_text n = if is_negative n then codes "(- " ++ (amount_text n ++ codes ")") else amount_text n

-- num / den
unfoldable pub number_text : ℤ → ℤ → List ℕ
number_text num den =
    if int_eq den (pos 1) then signed_text num else codes "(/ " ++ (signed_text num ++ (codes " " ++ (signed_text den ++ codes ")")))

-- ---- forms

abbrev pub column_text : ℕ → List ℕ
column_text column = codes "x" ++ decimal column

-- the coefficient times the column
unfoldable pub term_text : Term → List ℕ
term_text t = codes "(* " ++ (signed_text t.coef ++ (codes " " ++ (column_text t.column ++ codes ")")))

abbrev pub next_term : Term → List ℕ
next_term t = codes " " ++ term_text t

unfoldable pub sum_text : List Term → List ℕ
sum_text terms = codes "(+" ++ (listed next_term terms ++ codes ")")

-- a column alone, or one of the forms of several columns
unfoldable pub form_text : Clauses → ℕ → List ℕ
form_text c form =
    if nat_lt form c.columns then column_text form else option_map_or (λ f. sum_text f.terms) (slice_get c.forms (form - c.columns)) []

-- ---- atoms

abbrev pub atom_text : ℕ → List ℕ
atom_text n = codes "a" ++ decimal n

abbrev pub relation_text : Bool → List ℕ
relation_text true = codes " (< "
relation_text false = codes " (<= "

-- what stands before the form of an atom's row, and behind it
abbrev pub row_front : ℕ → Bool → List ℕ
row_front n strict = codes "(assert (= " ++ (atom_text n ++ relation_text strict)

abbrev pub row_end : ℤ → ℤ → List ℕ
row_end num den = codes " " ++ (number_text num den ++ (codes ")))" ++ (10 ∷ [])))

-- the atom is true exactly where its row holds; a named atom is tied by the clauses alone
unfoldable pub tie_text : Clauses → ℕ → Atom → List ℕ
tie_text c n (Row form num den strict) = row_front n strict ++ (form_text c form ++ row_end num den)
tie_text c n Named = []

-- ---- clauses

unfoldable pub literal_text : Lit → List ℕ
literal_text l = if l.positive then atom_text l.atom else codes "(not " ++ (atom_text l.atom ++ codes ")")

abbrev pub next_literal : Lit → List ℕ
next_literal l = codes " " ++ literal_text l

-- a clause without literals is false
unfoldable pub clause_text : List Lit → List ℕ
clause_text [] = codes "(assert false)" ++ (10 ∷ [])
clause_text (l ∷ []) = codes "(assert " ++ (literal_text l ++ (codes ")" ++ (10 ∷ [])))
clause_text (l ∷ m ∷ ls) = codes "(assert (or" ++ (listed next_literal (l ∷ m ∷ ls) ++ (codes "))" ++ (10 ∷ [])))

-- ---- the whole

abbrev pub real_line : ℕ → List ℕ
real_line column = codes "(declare-const " ++ (column_text column ++ (codes " Real)" ++ (10 ∷ [])))

abbrev pub boolean_line : ℕ → List ℕ
boolean_line n = codes "(declare-const " ++ (atom_text n ++ (codes " Bool)" ++ (10 ∷ [])))

-- what is declared: the constants of the columns and of the atoms
unfoldable pub declarations : Clauses → List ℕ
declarations c = counted real_line c.columns ++ counted boolean_line (length c.atoms)

-- what is asserted: the rows of the atoms, and the clauses
unfoldable pub assertions : Clauses → List ℕ
assertions c = numbered (tie_text c) 0 c.atoms ++ listed clause_text c.clauses

unfoldable pub problem_text : Clauses → List ℕ
problem_text c =
    (codes "(set-logic QF_LRA)" ++ (10 ∷ [])) ++ (declarations c ++ (assertions c ++ (codes "(check-sat)" ++ (10 ∷ []))))

-- how many columns, forms of several columns, atoms and clauses there are
unfoldable pub counts_text : Clauses → List ℕ
counts_text c =
    codes "columns " ++ (decimal c.columns ++ (codes " forms " ++ (decimal (length c.forms)
    ++ (codes " atoms " ++ (decimal (length c.atoms) ++ (codes " clauses " ++ (decimal (length c.clauses) ++ (10 ∷ []))))))))
