-- When a tree closes a path of literals, and when a certificate proves that clauses have no model.
use Rattle.std.specs.Prelude.{◌≡◌, ℕ, ◌+◌, ◌-◌, ◌<◌, ◌==◌, nat_lt, ℤ, pos, neg_ℤ, ◌+ℤ◌, ◌*ℤ◌, ◌≤ℤ◌, ◌<ℤ◌, Bool, true, false, not, ◌⊎◌, List, [], ◌∷◌, ◌++◌, map, length, Option, None, Some, IsSome, slice_get, if◌then◌else◌}
use Rattle.std.specs.Option.{option_and_then, option_map_or}
use Rattle.whole.specs.Numbers.{fma}
use Rattle.linear_form.specs.Sums.{coef_at}
use Rattle.linear_form.specs.declared.lists.Form.{Form}
use Rattle.linear_form.specs.declared.lists.Term.{Term}
use Rattle.farkas_cert.specs.Literals.{negation}
use Rattle.farkas_cert.specs.Trees.{Derived, Tree, split, farkas, clause, lemmas_of}
use Rattle.farkas_cert.specs.declared.certificates.Cert.{Cert}
use Rattle.farkas_cert.specs.declared.literals.Lit.{Lit}
use Rattle.farkas_cert.specs.declared.trees.Part.{Part}
use Rattle.clause_form.specs.declared.clauses.Atom.{Atom}
use Rattle.clause_form.specs.declared.clauses.Atom.TheVariants.{Row, Named}
use Rattle.clause_form.specs.declared.clauses.Clauses.{Clauses}

-- ---- rows of literals

-- the columns, forms and atoms of some clauses
pub record Rows : Type 0 where
  pub columns : ℕ
  pub forms : List Form
  pub atoms : List Atom

abbrev pub rows_of : Clauses → Rows
rows_of c = record { columns = c.columns; forms = c.forms; atoms = c.atoms }

-- the terms of a form by its number: a column alone, or one of the forms of several columns
abbrev pub terms_of : Rows → ℕ → List Term
terms_of c form =
    if nat_lt form c.columns then record { column = form; coef = pos 1 } ∷ [] else option_map_or (λ f. f.terms) (slice_get c.forms (form - c.columns)) []

-- the row of a literal is `sum <= bound`, or `<` where it is strict: for an atom `form <= num / den` the positive literal has
-- `den * form <= num` and the negative one `-den * form < -num`, and for a strict atom the other way round
pub record LitRow : Type 0 where
  pub terms : List Term
  pub factor : ℤ
  pub bound : ℤ
  pub strict : Bool

abbrev pub row_of_atom : Rows → Bool → Atom → Option LitRow
row_of_atom c true (Row form num den strict) = Some (record { terms = terms_of c form; factor = den; bound = num; strict = strict })
row_of_atom c false (Row form num den strict) = Some (record { terms = terms_of c form; factor = neg_ℤ den; bound = neg_ℤ num; strict = not strict })
row_of_atom c positive Named = None

-- the row of a literal, if its atom is in range and a row's
abbrev pub row_of : Rows → Lit → Option LitRow
row_of c l = option_map_or (row_of_atom c l.positive) (slice_get c.atoms l.atom) None

abbrev pub row_coef : ℕ → LitRow → ℤ
row_coef column row = row.factor *ℤ coef_at column row.terms

-- ---- contradictions of rows

-- the literal is in the list
abbrev pub Has : Lit → List Lit → Type 0
Has l [] = ⊥
Has l (m ∷ ms) = (l ≡ m) ⊎ Has l ms

-- a number of a row, and 0 where there is no row
abbrev pub number_in : (LitRow → ℤ) → Option LitRow → ℤ
number_in number row = option_map_or number row (pos 0)

-- the multiplied numbers of all rows together
abbrev pub weighed_sum : Rows → (LitRow → ℤ) → List Part → ℤ
weighed_sum c number [] = pos 0
weighed_sum c number (p ∷ ps) = p.mult *ℤ number_in number (row_of c p.lit) +ℤ weighed_sum c number ps

-- the multiplied rows' coefficients of a column, and their bounds, each added up
abbrev pub coef_sum : Rows → ℕ → List Part → ℤ
coef_sum c column parts = weighed_sum c (row_coef column) parts

abbrev pub bound_sum : Rows → List Part → ℤ
bound_sum c parts = weighed_sum c (λ row. row.bound) parts

-- each part's literal is on the path and of a row, and no multiplier is below 0
abbrev pub ArePartsOf : Rows → List Lit → List Part → Type 0
ArePartsOf c path [] = Unit {0}
ArePartsOf c path (p ∷ ps) = ((row : LitRow) × (row_of c p.lit ≡ Some row)) × Has p.lit path × (pos 0 ≤ℤ p.mult) × ArePartsOf c path ps

-- some strict row has a multiplier above 0
abbrev pub HasStrict : Rows → List Part → Type 0
HasStrict c [] = ⊥
HasStrict c (p ∷ ps) = ((option_map_or (λ row. row.strict) (row_of c p.lit) false ≡ true) × (pos 0 <ℤ p.mult)) ⊎ HasStrict c ps

-- the multiplied rows sum to `0 <= bound` with a bound below 0, or to `0 < 0`
pub record IsContradiction (c : Rows) (path : List Lit) (parts : List Part) : Type 0 where
  pub rows : ArePartsOf c path parts
  pub columns : (column : ℕ) → column < c.columns → coef_sum c column parts ≡ pos 0
  pub bound : (bound_sum c parts <ℤ pos 0) ⊎ ((bound_sum c parts ≡ pos 0) × HasStrict c parts)

-- the same sums from a start on, taken part by part within 128 bits, as a checker takes them; none where one overflows
abbrev pub running_sum : Rows → (LitRow → ℤ) → ℤ → List Part → Option ℤ
running_sum c number sum [] = Some sum
running_sum c number sum (p ∷ ps) = option_and_then (λ s. running_sum c number s ps) (fma sum p.mult (number_in number (row_of c p.lit)))

abbrev pub coef_running : Rows → ℕ → ℤ → List Part → Option ℤ
coef_running c column sum parts = running_sum c (row_coef column) sum parts

abbrev pub bound_running : Rows → ℤ → List Part → Option ℤ
bound_running c sum parts = running_sum c (λ row. row.bound) sum parts

pub record SumsFit (c : Rows) (parts : List Part) : Type 0 where
  pub columns : (column : ℕ) → column < c.columns → IsSome (coef_running c column (pos 0) parts)
  pub bound : IsSome (bound_running c (pos 0) parts)

-- ---- trees and lemmas

-- a literal of the atom is in the list
abbrev pub HasAtom : ℕ → List Lit → Type 0
HasAtom a [] = ⊥
HasAtom a (l ∷ ls) = (l.atom ≡ a) ⊎ HasAtom a ls

-- each literal of the clause is false on the path
abbrev pub IsFalseOn : List Lit → List Lit → Type 0
IsFalseOn path [] = Unit {0}
IsFalseOn path (l ∷ ls) = Has (negation l) path × IsFalseOn path ls

-- the tree closes the path: it splits on an atom that isn't on the path, cites a clause that is false there, or has a contradiction
abbrev pub Closes : Rows → List (List Lit) → Tree → List Lit → Type 0
Closes c known (split a held failed) path =
    (a < length c.atoms) × (HasAtom a path → ⊥)
    × Closes c known held (record { atom = a; positive = true } ∷ path)
    × Closes c known failed (record { atom = a; positive = false } ∷ path)
Closes c known (farkas parts) path = IsContradiction c path parts
Closes c known (clause number) path = (lits : List Lit) × (slice_get known number ≡ Some lits) × IsFalseOn path lits

-- each literal is of an atom in range, and of another atom than those after it
abbrev pub NamesOnce : ℕ → List Lit → Type 0
NamesOnce atoms [] = Unit {0}
NamesOnce atoms (l ∷ ls) = (l.atom < atoms) × (HasAtom l.atom ls → ⊥) × NamesOnce atoms ls

-- each lemma follows from the clauses that are known before it
abbrev pub Follow : Rows → List (List Lit) → List Derived → Type 0
Follow c known [] = Unit {0}
Follow c known (d ∷ ds) =
    NamesOnce (length c.atoms) d.lits × Closes c known d.tree (map negation d.lits) × Follow c (known ++ d.lits ∷ []) ds

-- there is a lemma, and the last one is the empty clause
abbrev pub EndsEmpty : List Derived → Type 0
EndsEmpty [] = ⊥
EndsEmpty (d ∷ []) = d.lits ≡ []
EndsEmpty (d ∷ e ∷ ds) = EndsEmpty (e ∷ ds)

-- the certificate is of these clauses, its lemmas follow, and the last one is empty
pub record Proves (c : Clauses) (cert : Cert) : Type 0 where
  pub columns : cert.columns ≡ c.columns
  pub atoms : cert.atoms ≡ length c.atoms
  pub clauses : cert.clauses ≡ length c.clauses
  pub lemmas : Follow (rows_of c) c.clauses (lemmas_of cert)
  pub ends : EndsEmpty (lemmas_of cert)
