-- Proof trees as trees of the logic, and certificates as lists of derived clauses.
use Rattle.std.specs.Prelude.{ℕ, List, map}
use Rattle.farkas_cert.specs.declared.literals.Lit.{Lit}
use Rattle.farkas_cert.specs.declared.trees.Part.{Part}
use Rattle.farkas_cert.specs.declared.trees.Proof.{Proof}
use Rattle.farkas_cert.specs.declared.trees.Proof.TheOpen.{Proof-F}
use Rattle.farkas_cert.specs.declared.trees.Proof.TheFolds.{fold-Proof}
use Rattle.farkas_cert.specs.declared.certificates.Lemma.{Lemma}
use Rattle.farkas_cert.specs.declared.certificates.Cert.{Cert}

pub data Tree : Type 0 where
  split : ℕ → Tree → Tree → Tree
  farkas : List Part → Tree
  clause : ℕ → Tree

-- one level of a tree, whose sides are already seen as trees of the logic
abbrev pub tree_step : Proof-F Tree → Tree
tree_step (Proof-F.Split atom held failed) = split atom held.value failed.value
tree_step (Proof-F.Farkas parts) = farkas parts
tree_step (Proof-F.Clause number) = clause number

abbrev pub tree_of : Proof → Tree
tree_of = fold-Proof Tree tree_step

-- a clause and the tree that derives it
pub record Derived : Type 0 where
  pub lits : List Lit
  pub tree : Tree

abbrev pub derived : Lemma → Derived
derived lemma = record { lits = lemma.clause; tree = tree_of lemma.proof }

-- the lemmas of a certificate, in order
abbrev pub lemmas_of : Cert → List Derived
lemmas_of cert = map derived cert.lemmas
