use Rattle.ccac_cli.proofs.HaltLaws.{ask_halts}
use Rattle.ccac_cli.proofs.asking.read_asked.Goals as goal

pub returns-in-Err-clause-halted : goal.returns-in-Err-clause-halted
returns-in-Err-clause-halted c =
    ask_halts c.args.controller.now c.args.question.now c.in-Err.fault c.unasked.result c.in-Err.ensures.refused c.unasked.ensures
