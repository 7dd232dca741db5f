use Rattle.std.proofs.Common.{take}
use Rattle.clause_form.specs.Models.{Satisfies}
use Rattle.clause_search.specs.Answers.{truth_in}
use Rattle.corner_guide.proofs.model.first_false.Given as goal

abbrev pub invariant-loop-clause : goal.invariant-loop-clause
invariant-loop-clause l = Satisfies (truth_in l.truths) (take l.clause-index l.clauses)
