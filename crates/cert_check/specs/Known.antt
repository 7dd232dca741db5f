-- The clauses that a node may cite.
use Rattle.std.specs.Prelude.{List, ◌++◌, map}
use Rattle.farkas_cert.specs.declared.certificates.Lemma.{Lemma}
use Rattle.farkas_cert.specs.declared.literals.Lit.{Lit}

-- the problem's clauses, and then those of the earlier lemmas
abbrev pub known_with : List (List Lit) → List Lemma → List (List Lit)
known_with clauses earlier = clauses ++ map (λ lemma. lemma.clause) earlier
