use Rattle.std.proofs.Common.{ap, Err}
use Rattle.asked.proofs.AskingLaws.{controller_fails, question_fails}
use Rattle.asked.proofs.asking.read_both.Goals as goal

-- the limits of a controller are those of its text
pub read-requires-clause-controller_in : goal.read-requires-clause-controller_in
read-requires-clause-controller_in c = c.in-Ok.ensures.found.limits

pub returns-in-Err-clause-refused : goal.returns-in-Err-clause-refused
returns-in-Err-clause-refused c =
    controller_fails c.args.controller.now c.args.question.now c.in-Err.fault c.of_controller.result c.of_controller.ensures
    (λ r is. c.in-Err.ensures.refused r (ap Err is))

pub returns-in-Err-read-clause-refused : goal.returns-in-Err-read-clause-refused
returns-in-Err-read-clause-refused c =
    question_fails c.args.controller.now c.args.question.now c.in-Ok._syntax c.in-Ok.controller c.in-Err-read.fault c.of_question.result c.in-Ok.ensures.found c.of_question.ensures
    (λ r is. c.in-Err-read.ensures.refused r (ap Err is))
