use Rattle.trace_replay.proofs.ExampleLimits.{made_controller_in, made_question_in}
use Rattle.trace_replay.proofs.tests.replayed.Goals as goal

pub replay-requires-clause-controller_in : goal.replay-requires-clause-controller_in
replay-requires-clause-controller_in c = made_controller_in c.in_ok-controller.controller c.in_ok-controller.ensures

pub replay-requires-clause-question_in : goal.replay-requires-clause-question_in
replay-requires-clause-question_in c =
    made_question_in c.in_ok-controller.controller c.question-question.result c.in_ok-controller.ensures c.question-question.ensures
