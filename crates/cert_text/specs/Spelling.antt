-- The one text of a certificate, by lines.
use Rattle.std.specs.Prelude.{◌≡◌, ◌≢◌, ℕ, ◌+◌, ◌^◌, ◌<◌, ◌≤◌, pos, ◌≤ℤ◌, unsigned_abs, Bool, true, false, List, [], ◌∷◌, ◌++◌, map, length, codes}
use Rattle.std.specs.Fmt.{decimal, signed_decimal}
use Rattle.std.specs.List.{AllByRecursion}
use Rattle.text_lines.specs.Pieces.{text}
use Rattle.text_lines.specs.Steps.{numbered, AllNumbered}
use Rattle.farkas_cert.specs.declared.literals.Lit.{Lit}
use Rattle.farkas_cert.specs.declared.trees.Part.{Part}
use Rattle.farkas_cert.specs.declared.certificates.Cert.{Cert}
use Rattle.farkas_cert.specs.Trees.{Tree, split, farkas, clause, Derived, lemmas_of}

-- what a certificate says: the sizes of its problem, and its lemmas in order, each with its tree
pub record Certificate : Type 0 where
  pub columns : ℕ
  pub atoms : ℕ
  pub clauses : ℕ
  pub lemmas : List Derived

abbrev pub certificate : Cert → Certificate
certificate cert = record { columns = cert.columns; atoms = cert.atoms; clauses = cert.clauses; lemmas = lemmas_of cert }

-- ---- the lines

-- a line is the list of its items
abbrev pub Line : Type 0
Line = List (List ℕ)

abbrev pub sign : Bool → ℕ
sign true = 43
sign false = 45

-- `+a`, or `-a` for the negation
abbrev pub literal_item : Lit → List ℕ
literal_item l = sign l.positive ∷ decimal l.atom

-- each literal with its multiplier
abbrev pub part_items : List Part → Line
part_items [] = []
part_items (p ∷ ps) = literal_item p.lit ∷ signed_decimal p.mult ∷ part_items ps

abbrev pub split_line : ℕ → Line
split_line atom = codes "s" ∷ decimal atom ∷ []

abbrev pub clause_line : ℕ → Line
clause_line number = codes "c" ∷ decimal number ∷ []

abbrev pub farkas_line : List Part → Line
farkas_line parts = codes "f" ∷ decimal (length parts) ∷ part_items parts

-- a tree in prefix order: of a split first the side on which the atom is true
unfoldable pub tree_lines : Tree → List Line
tree_lines (split atom held failed) = split_line atom ∷ (tree_lines held ++ tree_lines failed)
tree_lines (farkas parts) = farkas_line parts ∷ []
tree_lines (clause number) = clause_line number ∷ []

-- the lemma with this number, and its clause
abbrev pub lemma_line : ℕ → List Lit → Line
lemma_line j lits = codes "lemma" ∷ decimal j ∷ map literal_item lits

abbrev pub lemma_lines : ℕ → Derived → List Line
lemma_lines j d = lemma_line j d.lits ∷ tree_lines d.tree

abbrev pub header : Line
header = codes "ccac-cert" ∷ codes "1" ∷ []

abbrev pub size_line : ℕ → ℕ → ℕ → Line
size_line columns atoms clauses = codes "size" ∷ decimal columns ∷ decimal atoms ∷ decimal clauses ∷ []

abbrev pub end_line : Line
end_line = codes "end" ∷ []

unfoldable pub cert_lines : Certificate → List Line
cert_lines c = header ∷ size_line c.columns c.atoms c.clauses ∷ (numbered lemma_lines 0 c.lemmas ++ end_line ∷ [])

-- ---- what can be written

abbrev pub LitFits : Lit → Type 0
LitFits l = l.atom < 2 ^ 32

-- no multiplier is below 0
abbrev pub PartFits : Part → Type 0
PartFits p = LitFits p.lit × ((pos 0 ≤ℤ p.mult) × (unsigned_abs p.mult < 2 ^ 127))

-- a node stands below at most so many splits
abbrev pub deepest : ℕ
deepest = 4096

-- a tree below so many splits
unfoldable pub TreeFits : ℕ → Tree → Type 0
TreeFits depth (split atom held failed) = (depth ≤ deepest) × ((atom < 2 ^ 32) × (TreeFits (depth + 1) held × TreeFits (depth + 1) failed))
TreeFits depth (farkas parts) = (depth ≤ deepest) × ((length parts < 2 ^ 32) × AllByRecursion PartFits parts)
TreeFits depth (clause number) = (depth ≤ deepest) × (number < 2 ^ 32)

pub record LemmaFits (j : ℕ) (d : Derived) : Type 0 where
  pub number : j < 2 ^ 127
  pub lits : AllByRecursion LitFits d.lits
  pub tree : TreeFits 0 d.tree

pub record IsWithin (c : Certificate) : Type 0 where
  pub columns : c.columns < 2 ^ 32
  pub atoms : c.atoms < 2 ^ 32
  pub clauses : c.clauses < 2 ^ 32
  pub lemmas : AllNumbered LemmaFits 0 c.lemmas
  pub some : c.lemmas ≢ []

-- the bytes are the text of this certificate, which can be written
pub record IsCertText (bytes : List ℕ) (c : Certificate) : Type 0 where
  pub within : IsWithin c
  pub text_is : bytes ≡ text (cert_lines c)
