use Rattle.clause_form.specs.Journals.{literals}
use Rattle.clause_search.proofs.TableLaws.{value_law}
use Rattle.clause_search.proofs.trail.Trail.value.Goals as goal

pub returns-in-Some-clause-gives : goal.returns-in-Some-clause-gives
returns-in-Some-clause-gives c = value_law (literals c.args.self.now.entries) c.args.lit c.in-Some.truth c.in-Some.ensures.says
