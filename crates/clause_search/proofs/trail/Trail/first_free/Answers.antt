use Rattle.clause_form.specs.Journals.{literals}
use Rattle.clause_search.proofs.TableLaws.{named_more}
use Rattle.clause_search.proofs.trail.Trail.first_free.Goals as goal

pub loop-atom-preserved : goal.loop-atom-preserved
loop-atom-preserved c = named_more (literals c.args.self.now.entries) c.loop-atom.atom c.in-Some.field-0 c.loop-atom.invariant c.in-Some.ensures.says
