-- The numbers on the lines of a certificate.
use Rattle.std.specs.Prelude.{◌≡◌, ℕ, ◌^◌, ◌≤◌, ℤ, pos, negsuc, true, false, List, [], ◌∷◌, ◌++◌, map, length, Result, Ok, Err}
use Rattle.whole.specs.declared.answers.ReadFault.{ReadFault}
use Rattle.whole.specs.declared.answers.ReadFault.TheVariants.{Refused, NoMemory}
use Rattle.whole.specs.declared.answers.Refusal.{Refusal}
use Rattle.text_lines.specs.Steps.{Fails, ◌>>=◌, numbered}
use Rattle.text_machine.specs.declared.faults.Fault.{Fault}
use Rattle.text_machine.specs.Items.{literal, below, literal_number}
use Rattle.text_machine.specs.Lines.{take}
use Rattle.text_machine.specs.Texts.{Table}
use Rattle.farkas_cert.specs.declared.literals.Lit.{Lit}
use Rattle.farkas_cert.specs.declared.trees.Part.{Part}
use Rattle.farkas_cert.specs.declared.certificates.Cert.{Cert}
use Rattle.farkas_cert.specs.Trees.{Tree, split, farkas, clause, Derived}
use Rattle.cert_text.specs.declared.wants.Want.{Want}
use Rattle.cert_text.specs.declared.wants.Want.TheVariants.{Header as WantHeader, Size as WantSize, Next, Node, Nothing}
use Rattle.cert_text.specs.declared.wants.Line.{Line}
use Rattle.cert_text.specs.declared.wants.Line.TheVariants.{Header, Size, Lemma, Split, Clause, Farkas, End}
use Rattle.cert_text.specs.declared.lines.Keyword.{Keyword}
use Rattle.cert_text.specs.Spelling.{Certificate, certificate, deepest}
use Rattle.cert_text.specs.Rules.{index_limit}

abbrev pub lit_number : Lit → ℤ
lit_number l = literal_number l.atom l.positive

abbrev pub part_numbers : List Part → List ℤ
part_numbers [] = []
part_numbers (p ∷ ps) = lit_number p.lit ∷ p.mult ∷ part_numbers ps

-- the lemma's number, and its clause
abbrev pub clause_numbers : ℕ → List Lit → List ℤ
clause_numbers j lits = pos j ∷ map lit_number lits

abbrev pub farkas_numbers : List Part → List ℤ
farkas_numbers parts = pos (length parts) ∷ part_numbers parts

abbrev pub size_numbers : ℕ → ℕ → ℕ → List ℤ
size_numbers columns atoms clauses = pos columns ∷ pos atoms ∷ pos clauses ∷ []

abbrev pub one_number : ℕ → List ℤ
one_number n = pos n ∷ []

-- the number of the lemma that is wanted
abbrev pub lemma_wanted : Want → ℕ
lemma_wanted (Next j) = j
lemma_wanted _ = 0

-- the numbers of a line where this is wanted; a word counts as its place
unfoldable pub line_numbers : Want → Line → List ℤ
line_numbers want (Header version) = one_number version
line_numbers want (Size columns atoms clauses) = size_numbers columns atoms clauses
line_numbers want (Lemma lits) = pos 0 ∷ clause_numbers (lemma_wanted want) lits
line_numbers want End = pos 1 ∷ []
line_numbers want (Split atom) = pos 2 ∷ one_number atom
line_numbers want (Clause number) = pos 3 ∷ one_number number
line_numbers want (Farkas parts) = pos 4 ∷ farkas_numbers parts

abbrev pub IsHeader : Line → Type 0
IsHeader (Header version) = version ≡ 1
IsHeader _ = ⊥

abbrev pub IsSize : Line → Type 0
IsSize (Size columns atoms clauses) = Unit {0}
IsSize _ = ⊥

-- a lemma's first line, or the end
abbrev pub IsOuter : Line → Type 0
IsOuter (Lemma lits) = Unit {0}
IsOuter End = Unit {0}
IsOuter _ = ⊥

abbrev pub IsNode : Line → Type 0
IsNode (Split atom) = Unit {0}
IsNode (Clause number) = Unit {0}
IsNode (Farkas parts) = Unit {0}
IsNode _ = ⊥

-- such a line may stand where this is wanted
unfoldable pub MayStand : Want → Line → Type 0
MayStand WantHeader line = IsHeader line
MayStand WantSize line = IsSize line
MayStand (Next j) line = IsOuter line
MayStand (Node depth) line = (depth ≤ deepest) × IsNode line
MayStand Nothing line = ⊥

-- the place of a word among those with which a line begins
abbrev pub place_of : Keyword → ℕ
place_of Keyword.Lemma = 0
place_of Keyword.End = 1
place_of Keyword.Split = 2
place_of Keyword.Clause = 3
place_of Keyword.Farkas = 4

-- ---- the numbers of a whole certificate

unfoldable pub tree_table : Tree → Table
tree_table (split atom held failed) = (pos 2 ∷ one_number atom) ∷ (tree_table held ++ tree_table failed)
tree_table (farkas parts) = (pos 4 ∷ farkas_numbers parts) ∷ []
tree_table (clause number) = (pos 3 ∷ one_number number) ∷ []

abbrev pub lemma_table : ℕ → Derived → Table
lemma_table j d = (pos 0 ∷ clause_numbers j d.lits) ∷ tree_table d.tree

-- the lines up to `end`
abbrev pub front_table : ℕ → ℕ → ℕ → List Derived → Table
front_table columns atoms clauses lemmas = one_number 1 ∷ size_numbers columns atoms clauses ∷ numbered lemma_table 0 lemmas

abbrev pub cert_table : Certificate → Table
cert_table c = front_table c.columns c.atoms c.clauses c.lemmas ++ one_number 1 ∷ []

-- ---- what calls give

-- a call gives the numbers that are read, unless memory ran out
abbrev pub GivesRead : {X Y : Type 0} → (X → Y) → Result X ReadFault → Result Y Refusal → Type 0
GivesRead numbers (Ok x) read = read ≡ Ok (numbers x)
GivesRead numbers (Err fault) read = Fails fault read

-- a call gives this certificate, unless memory ran out
abbrev pub GivesCert : Result Cert ReadFault → Certificate → Type 0
GivesCert (Ok cert) c = certificate cert ≡ c
GivesCert (Err NoMemory) c = Unit {0}
GivesCert (Err (Refused refusal)) c = ⊥

-- the literal of this number
abbrev pub lit_of : ℤ → Lit
lit_of (pos n) = record { atom = n; positive = true }
lit_of (negsuc n) = record { atom = n; positive = false }

abbrev pub part_from : ℤ → ℤ → Part
part_from z mult = record { lit = lit_of z; mult = mult }

-- a literal with its multiplier
unfoldable pub part_at : List (List ℕ) → Result (Part × List (List ℕ)) Fault
part_at items = do
  x ← take (literal index_limit) items
  y ← take (below (2 ^ 127)) x.1
  Ok (part_from x.0 y.0, y.1)
