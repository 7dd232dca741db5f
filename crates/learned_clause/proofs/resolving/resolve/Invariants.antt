use Rattle.std.proofs.Common.{List}
use Rattle.farkas_cert.specs.Trees.{tree_of}
use Rattle.farkas_cert.specs.declared.literals.Lit.{Lit}
use Rattle.clause_form.specs.Derivations.{rows_of}
use Rattle.learned_clause.specs.Trails.{entries, known_with}
use Rattle.learned_clause.specs.Resolvents.{IsResolved, IsWalk}
use Rattle.learned_clause.proofs.resolving.resolve.Given as goal

abbrev pub invariant-loop-marks : goal.invariant-loop-marks
invariant-loop-marks l = record {
  walk : IsWalk (rows_of l.clauses) (known_with l.clauses.clauses l.lemmas) (entries l.trail) l.marks (tree_of l.tree) l.k;
  resolved : (lits : List Lit) → IsResolved (known_with l.clauses.clauses l.lemmas) (entries l.trail) lits l.initial.marks l.many → IsResolved (known_with l.clauses.clauses l.lemmas) (entries l.trail) lits l.marks l.k;
}

abbrev pub decreases-loop-marks : goal.decreases-loop-marks
decreases-loop-marks l = l.k
