use Rattle.std.proofs.Common.{Option, IfSome, subst, lit≤}
use Rattle.whole.specs.Budget.{counts}
use Rattle.clause_form.specs.declared.clauses.Clauses.{Clauses}
use Rattle.clause_search.specs.Examples.{IsNamed, seen_names}
use Rattle.clause_search.proofs.ExampleLaws.{named_start}
use Rattle.clause_search.proofs.tests.stopped.Goals as goal

pub search_until-until-requires : goal.search_until-until-requires
search_until-until-requires c =
    named_start 3 100 c.in-Some.clauses (seen_names c.new-theory.result.atoms c.new-theory.result.told.items c.new-theory.result.fine c.new-theory.result.works) (counts c.new-budget.result) (subst (λ (o : Option Clauses). IfSome o (λ d. IsNamed 3 d)) c.in-Some.is c.in_ok-some.ensures) c.new-theory.ensures c.new-budget.ensures (lit≤ tt)
