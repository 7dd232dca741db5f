-- A certificate that is half read: the state that it stands for, and the numbers of the lines that were read.
use Rattle.std.specs.Prelude.{◌≡◌, ℕ, suc, ◌+◌, ◌≤◌, ℤ, pos, Bool, true, false, List, [], ◌∷◌, ◌++◌, map, length, Option, None, Some, Result, Ok}
use Rattle.whole.specs.declared.answers.Refusal.{Refusal}
use Rattle.text_lines.specs.Steps.{◌>>=◌}
use Rattle.text_machine.specs.Texts.{Table, step, finish}
use Rattle.farkas_cert.specs.declared.trees.Proof.{Proof}
use Rattle.farkas_cert.specs.Trees.{Tree, tree_of, derived}
use Rattle.cert_text.specs.declared.wants.Want.{Want}
use Rattle.cert_text.specs.declared.wants.Want.TheVariants.{Header, Size, Next, Node, Nothing}
use Rattle.cert_text.specs.declared.splits.Open.{Open}
use Rattle.cert_text.specs.declared.splits.Open.TheVariants.{First, Second}
use Rattle.cert_text.specs.declared.drafts.Draft.{Draft}
use Rattle.cert_text.specs.Rules.{Stage, opening, sizing, between, within, over, behind_tree, behind_line, cert_format}
use Rattle.cert_text.specs.Tables.{one_number, clause_numbers, tree_table, front_table}

-- ---- open splits, the outermost first

-- below how many splits the trees stand that are due behind this one, the next of them first
abbrev pub due_from : ℕ → List ℕ → List Open → List ℕ
due_from depth due [] = due
due_from depth due (First atom ∷ splits) = due_from (depth + 1) ((depth + 1) ∷ due) splits
due_from depth due (Second atom held ∷ splits) = due_from (depth + 1) due splits

abbrev pub due : List Open → List ℕ
due splits = due_from 0 [] splits

-- the lines of an open split that were read
abbrev pub open_table : Open → Table
open_table (First atom) = (pos 2 ∷ one_number atom) ∷ []
open_table (Second atom held) = (pos 2 ∷ one_number atom) ∷ tree_table (tree_of held)

abbrev pub splits_table : List Open → Table
splits_table [] = []
splits_table (split ∷ splits) = open_table split ++ splits_table splits

-- a tree was read below these splits: other splits are left with a tree that is due, or the whole tree is there
abbrev pub Closes : List Open → Tree → List Open → Option Proof → Type 0
Closes old leaf new None = (due old ≡ length new ∷ due new) × (splits_table new ≡ splits_table old ++ tree_table leaf)
Closes old leaf new (Some tree) = (due old ≡ []) × ((new ≡ []) × (tree_table (tree_of tree) ≡ splits_table old ++ tree_table leaf))

-- ---- drafts

abbrev pub stage_by : Want → ℕ → List Open → Stage
stage_by Header j splits = opening
stage_by Size j splits = sizing
stage_by (Next k) j splits = between k
stage_by (Node depth) j splits = within j depth (due splits)
stage_by Nothing j splits = over

unfoldable pub stage : Draft → Stage
stage d = stage_by d.want (length d.lemmas) d.splits

abbrev pub front : Draft → Table
front d = front_table d.columns d.atoms d.clauses (map derived d.lemmas)

abbrev pub table_by : Want → Draft → Table
table_by Header d = []
table_by Size d = one_number 1 ∷ []
table_by (Next k) d = front d
table_by (Node depth) d = front d ++ (pos 0 ∷ clause_numbers (length d.lemmas) d.clause) ∷ splits_table d.splits
table_by Nothing d = front d ++ one_number 1 ∷ []

-- the numbers that were read
unfoldable pub table : Draft → Table
table d = table_by d.want d

abbrev pub agrees_by : Want → Draft → Type 0
agrees_by Header d = (d.lemmas ≡ []) × (d.splits ≡ [])
agrees_by Size d = (d.lemmas ≡ []) × (d.splits ≡ [])
agrees_by (Next k) d = (k ≡ length d.lemmas) × (d.splits ≡ [])
agrees_by (Node depth) d = depth ≡ length d.splits
agrees_by Nothing d = Unit {0}

-- what is wanted agrees with what was read
unfoldable pub Agrees : Draft → Type 0
Agrees d = agrees_by d.want d

-- a line with these numbers was added
pub record Taken (old : Draft) (zs : List ℤ) (new : Draft) : Type 0 where
  pub leads : behind_line (stage old) zs ≡ stage new
  pub grown : table new ≡ table old ++ zs ∷ []
  pub agrees : Agrees new
  pub few : length new.lemmas ≤ suc (length old.lemmas)

-- a tree was added in a lemma
pub record TreeTaken (old : Draft) (tree : Tree) (new : Draft) : Type 0 where
  pub leads : behind_tree (length old.lemmas) (due old.splits) ≡ stage new
  pub grown : table new ≡ table old ++ tree_table tree
  pub agrees : Agrees new
  pub few : length new.lemmas ≤ suc (length old.lemmas)

-- line k was read
pub record Fed (old : Draft) (k : ℕ) (line : List ℕ) (new : Draft) : Type 0 where
  pub numbers : List ℤ
  pub read : step cert_format (stage old) k line ≡ Ok (numbers, stage new)
  pub grown : table new ≡ table old ++ numbers ∷ []
  pub agrees : Agrees new
  pub few : length new.lemmas ≤ suc (length old.lemmas)

-- the numbers of a text that ends in line k with these bytes
abbrev pub finished : Draft → ℕ → List ℕ → Result Table Refusal
finished d k rest = finish cert_format (stage d) k rest >>= λ more. Ok (table d ++ more)

-- whether the text may end here
abbrev pub is_whole : Want → Bool → Bool
is_whole Nothing is_finished = is_finished
is_whole _ is_finished = false

-- the rule that a text breaks which ends here though it may not
abbrev pub last_rule : Want → Bool → ℕ
last_rule Nothing is_finished = 9
last_rule Header true = 1
last_rule _ is_finished = 8
