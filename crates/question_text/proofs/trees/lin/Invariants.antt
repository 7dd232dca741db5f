use Rattle.std.proofs.Common.{◌≡◌, drop}
use Rattle.question_text.specs.NamedValues.{each_found, term_meant}
use Rattle.question_text.proofs.FoundLoop.{behind}
use Rattle.question_text.proofs.trees.lin.Given as goal

-- the terms so far and those to come are all the terms
abbrev pub invariant-loop-term : goal.invariant-loop-term
invariant-loop-term l = behind l.terms (each_found (term_meant l.states l.setting) (drop l.term-index l.term-items)) ≡ each_found (term_meant l.states l.setting) l.term-items
