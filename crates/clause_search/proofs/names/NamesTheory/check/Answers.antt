use Rattle.clause_search.proofs.ExampleLaws.{check_fine}
use Rattle.clause_search.proofs.names.NamesTheory.check.Goals as goal

pub returns : goal.returns
returns c = check_fine c.args.self.now.atoms c.args.self.now.told.items c.args.self.now.fine c.args.self.now.works c.args._budget.now c.args._journal.now c.if-not-self.false
