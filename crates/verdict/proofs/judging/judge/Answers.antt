use Rattle.verdict.proofs.RefusalLaws.{accepted_law, refused_law}
use Rattle.verdict.proofs.judging.judge.Goals as goal

pub returns-clause-refused : goal.returns-clause-refused
returns-clause-refused c = refused_law c.args.controller.now c.args.question.now c.read_and_conclude.result c.read_and_conclude.ensures

pub returns-clause-only : goal.returns-clause-only
returns-clause-only c = accepted_law c.args.controller.now c.args.question.now c.read_and_conclude.result c.read_and_conclude.ensures
