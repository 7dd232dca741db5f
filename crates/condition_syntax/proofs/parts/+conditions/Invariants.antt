use Rattle.std.proofs.Common.{◌≡◌, ◌+◌, ◌*◌, suc, length, map}
use Rattle.std.specs.Prelude.{codes}
use Rattle.condition_syntax.specs.Trees.{condition_of}
use Rattle.condition_syntax.specs.Conditions.{pending, chain_by, conjunction_by, part_by}
use Rattle.condition_syntax.proofs.ChainLoop.{ChainSoFar}
use Rattle.condition_syntax.proofs.parts.+conditions.Given as goal

-- what is nested in a part has less room, and in one room each calls the next
abbrev pub decreases-part : goal.decreases-part
decreases-part l = 8 * l.room

abbrev pub decreases-conjuncts : goal.decreases-conjuncts
decreases-conjuncts l = 8 * l.room + 1

abbrev pub decreases-conjunction : goal.decreases-conjunction
decreases-conjunction l = 8 * l.room + 2

abbrev pub decreases-disjuncts : goal.decreases-disjuncts
decreases-disjuncts l = 8 * l.room + 3

abbrev pub decreases-condition : goal.decreases-condition
decreases-condition l = 8 * l.room + 4

abbrev pub decreases-bracketed : goal.decreases-bracketed
decreases-bracketed l = 8 * l.room + 5

abbrev pub decreases-opposite : goal.decreases-opposite
decreases-opposite l = 8 * l.room + 5

abbrev pub invariant-conjuncts-loop-parts : goal.invariant-conjuncts-loop-parts
invariant-conjuncts-loop-parts l = record {
  so_far : ChainSoFar (codes "and") (part_by l.style l.room) (map condition_of l.parts.items) (pending l.begun l.cursor.tokens)
      (chain_by (codes "and") (part_by l.style l.room) (suc (length l.initial.cursor.tokens)) (pending l.initial.begun l.initial.cursor.tokens));
  line : l.cursor.line ≡ l.initial.cursor.line;
}

abbrev pub decreases-conjuncts-loop-parts : goal.decreases-conjuncts-loop-parts
decreases-conjuncts-loop-parts l = length l.cursor.tokens

abbrev pub invariant-disjuncts-loop-parts : goal.invariant-disjuncts-loop-parts
invariant-disjuncts-loop-parts l = record {
  so_far : ChainSoFar (codes "or") (conjunction_by (part_by l.style l.room)) (map condition_of l.parts.items) (pending l.begun l.cursor.tokens)
      (chain_by (codes "or") (conjunction_by (part_by l.style l.room)) (suc (length l.initial.cursor.tokens)) (pending l.initial.begun l.initial.cursor.tokens));
  line : l.cursor.line ≡ l.initial.cursor.line;
}

abbrev pub decreases-disjuncts-loop-parts : goal.decreases-disjuncts-loop-parts
decreases-disjuncts-loop-parts l = length l.cursor.tokens
