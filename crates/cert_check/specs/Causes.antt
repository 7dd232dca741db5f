-- The causes for which a certificate fails, in the order in which they are asked, and the sums that may pass.
-- K1 the sizes differ; K2 an atom is out of range, split on its path, or named twice; K3 a sum isn't a contradiction; K4 a
-- multiplier is below 0; K5 a literal of a cited clause isn't false; K6 no such clause is known; K7 a literal isn't on the path
-- or of no row; K8 no lemma, or the last clause isn't empty.
use Rattle.std.specs.Prelude.{◌==◌, ℕ, zero, suc, nat_lt, ℤ, pos, Bool, true, false, not, ◌&&◌, ◌||◌, List, [], ◌∷◌, ◌++◌, map, length, Option, None, Some, is_some, slice_get, if◌then◌else◌}
use Rattle.std.specs.Option.{option_and_then}
use Rattle.std.specs.Int.{is_negative, is_positive}
use Rattle.std.specs.Ordering.{int_eq}
use Rattle.whole.specs.Numbers.{fma}
use Rattle.farkas_cert.specs.Literals.{negation}
use Rattle.farkas_cert.specs.Trees.{Tree, split, farkas, clause, Derived, lemmas_of}
use Rattle.farkas_cert.specs.declared.literals.Lit.{Lit}
use Rattle.farkas_cert.specs.declared.trees.Part.{Part}
use Rattle.farkas_cert.specs.declared.certificates.Cert.{Cert}
use Rattle.clause_form.specs.declared.clauses.Clauses.{Clauses}
use Rattle.cert_check.specs.declared.found.Found.{Found}
use Rattle.cert_check.specs.declared.found.Found.TheVariants.{Sound, Breaks, Overflows}
use Rattle.clause_form.specs.Derivations.{Rows, rows_of, LitRow, row_of, row_coef, coef_sum, bound_sum, running_sum}

-- the next is asked only where nothing was found
abbrev pub then_ask : Found → Found → Found
then_ask Sound next = next
then_ask (Breaks cause) next = Breaks cause
then_ask (Overflows column) next = Overflows column

-- the cause, unless the test holds
abbrev pub asked : ℕ → Bool → Found
asked cause test = if test then Sound else Breaks cause

-- ---- tests of literals and parts

-- the truth that the literals of a path give an atom, if they name it
abbrev pub truth_on : List Lit → ℕ → Option Bool
truth_on [] atom = None
truth_on (l ∷ ls) atom = if l.atom == atom then Some l.positive else truth_on ls atom

abbrev pub is_sign : Bool → Option Bool → Bool
is_sign sign None = false
is_sign true (Some s) = s
is_sign false (Some s) = not s

abbrev pub is_on_path : List Lit → Lit → Bool
is_on_path path l = is_sign l.positive (truth_on path l.atom)

abbrev pub is_free : Option Bool → Bool
is_free None = true
is_free (Some s) = false

-- a literal that is in a row and on the path, with a multiplier of at least 0
abbrev pub of_part : Rows → List Lit → Part → Found
of_part c path p =
    then_ask (asked 2 (nat_lt p.lit.atom (length c.atoms))) (then_ask (asked 7 (is_on_path path p.lit && is_some (row_of c p.lit))) (asked 4 (not (is_negative p.mult))))

abbrev pub of_parts : Rows → List Lit → List Part → Found
of_parts c path [] = Sound
of_parts c path (p ∷ ps) = then_ask (of_part c path p) (of_parts c path ps)

-- ---- the sums of a leaf

-- the row's coefficient at a column, and under the number of columns its bound
abbrev pub number_at : Rows → ℕ → LitRow → ℤ
number_at c column row = if nat_lt column c.columns then row_coef column row else row.bound

abbrev pub of_sum : ℕ → Option ℤ → Found
of_sum column None = Overflows column
of_sum column (Some sum) = Sound

-- the sums below a number of columns, the least column first
abbrev pub of_sums : Rows → List Part → ℕ → Found
of_sums c parts zero = Sound
of_sums c parts (suc n) = then_ask (of_sums c parts n) (of_sum n (running_sum c (number_at c n) (pos 0) parts))

-- the multiplied coefficients of each column below a number sum to 0
abbrev pub cancel_below : Rows → List Part → ℕ → Bool
cancel_below c parts zero = true
cancel_below c parts (suc n) = cancel_below c parts n && int_eq (coef_sum c n parts) (pos 0)

abbrev pub is_strict : Option LitRow → Bool
is_strict None = false
is_strict (Some row) = row.strict

-- a strict row has a multiplier above 0
abbrev pub some_strict : Rows → List Part → Bool
some_strict c [] = false
some_strict c (p ∷ ps) = (is_strict (row_of c p.lit) && is_positive p.mult) || some_strict c ps

abbrev pub is_impossible : ℤ → Bool → Bool
is_impossible sum strict = is_negative sum || (int_eq sum (pos 0) && strict)

abbrev pub is_contradiction : Rows → List Part → Bool
is_contradiction c parts =
    cancel_below c parts c.columns && is_impossible (bound_sum c parts) (some_strict c parts)

-- ---- nodes

-- the sums of the rows, and then whether they contradict
unfoldable pub of_rows : Rows → List Part → Found
of_rows c parts = then_ask (of_sums c parts (suc c.columns)) (asked 3 (is_contradiction c parts))

-- a Farkas leaf: its parts in order, then its sums, then what they come to
unfoldable pub of_leaf : Rows → List Lit → List Part → Found
of_leaf c path parts = then_ask (of_parts c path parts) (of_rows c parts)

abbrev pub is_false_on : List Lit → List Lit → Bool
is_false_on path [] = true
is_false_on path (l ∷ ls) = is_on_path path (negation l) && is_false_on path ls

-- a leaf that cites a clause
abbrev pub of_cited : List Lit → Option (List Lit) → Found
of_cited path None = Breaks 6
of_cited path (Some lits) = asked 5 (is_false_on path lits)

-- a split, whose atom is in range and not on the path
abbrev pub of_split : Rows → List Lit → ℕ → Found
of_split c path atom = asked 2 (nat_lt atom (length c.atoms) && is_free (truth_on path atom))

-- what is found at the nodes of a tree, in prefix order
abbrev pub founds : Rows → List (List Lit) → List Lit → Tree → List Found
founds c known path (split atom held failed) =
    of_split c path atom ∷ (founds c known (record { atom = atom; positive = true } ∷ path) held ++ founds c known (record { atom = atom; positive = false } ∷ path) failed)
founds c known path (farkas parts) = of_leaf c path parts ∷ []
founds c known path (clause number) = of_cited path (slice_get known number) ∷ []

-- ---- certificates

-- a lemma's clause: each atom in range and named once
abbrev pub names_once : ℕ → List Lit → Bool
names_once atoms [] = true
names_once atoms (l ∷ ls) = (nat_lt l.atom atoms && is_free (truth_on ls l.atom)) && names_once atoms ls

-- what is found at a node of a lemma; node 0 is the lemma's clause, or the certificate itself
pub record Event : Type 0 where
  pub lemma : ℕ
  pub node : ℕ
  pub found : Found

abbrev pub numbered : ℕ → ℕ → List Found → List Event
numbered lemma node [] = []
numbered lemma node (f ∷ fs) = record { lemma = lemma; node = node; found = f } ∷ numbered lemma (suc node) fs

-- what is found at a lemma: at its clause, and then at the nodes of its tree
abbrev pub lemma_founds : Rows → List (List Lit) → Derived → List Found
lemma_founds c known d = asked 2 (names_once (length c.atoms) d.lits) ∷ founds c known (map negation d.lits) d.tree

-- one lemma after the other, each with the clauses before it
abbrev pub lemma_events : Rows → List (List Lit) → ℕ → List Derived → List Event
lemma_events c known lemma [] = []
lemma_events c known lemma (d ∷ ds) =
    numbered lemma 0 (lemma_founds c known d) ++ lemma_events c (known ++ d.lits ∷ []) (suc lemma) ds

abbrev pub has_sizes : Clauses → Cert → Bool
has_sizes c cert = (cert.columns == c.columns) && ((cert.atoms == length c.atoms) && (cert.clauses == length c.clauses))

abbrev pub is_empty : List Lit → Bool
is_empty [] = true
is_empty (l ∷ ls) = false

-- whether the last clause is empty, asked under the number of the last lemma
abbrev pub end_event : ℕ → List Derived → Event
end_event lemma [] = record { lemma = lemma; node = 0; found = Breaks 8 }
end_event lemma (d ∷ []) = record { lemma = lemma; node = 0; found = asked 8 (is_empty d.lits) }
end_event lemma (d ∷ e ∷ ds) = end_event (suc lemma) (e ∷ ds)

-- everything that is asked of a certificate, in order
unfoldable pub events : Clauses → Cert → List Event
events c cert =
    record { lemma = 0; node = 0; found = asked 1 (has_sizes c cert) } ∷ (lemma_events (rows_of c) c.clauses 0 (lemmas_of cert) ++ end_event 0 (lemmas_of cert) ∷ [])
