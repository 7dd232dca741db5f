use Rattle.std.proofs.Common.{◌∙◌}
use Rattle.made_problems.proofs.Acceptance.{short_as_controller, short_as_question, no_controller, no_question}
use Rattle.made_problems.proofs.asking.ask_drawn.Goals as goal

pub ask-requires-clause-controller_in : goal.ask-requires-clause-controller_in
ask-requires-clause-controller_in c = short_as_controller c.as_slice.result.now c.args.seed (c.as_slice.ensures.value ∙ c.in_ok-controller.ensures.controller)

pub ask-requires-clause-question_in : goal.ask-requires-clause-question_in
ask-requires-clause-question_in c =
    short_as_question c.as_slice-2.result.now c.args.seed c.args.size c.requires.1 (c.as_slice-2.ensures.value ∙ c.in_ok-controller.ensures.question)

pub unreachable-requires : goal.unreachable-requires
unreachable-requires c =
    no_controller c.args.seed c.args.size c.requires.0 c.requires.1 c.as_slice.result.now c.as_slice-2.result.now
    (c.as_slice.ensures.value ∙ c.in_ok-controller.ensures.controller) (c.as_slice-2.ensures.value ∙ c.in_ok-controller.ensures.question)
    c.in-Err-Controller.field-0 c.in-Err-Controller.field-0-0 c.in-Err-Controller.field-0-is c.in-Err-Controller.ensures.refused

pub unreachable-requires-in-Err-Question : goal.unreachable-requires-in-Err-Question
unreachable-requires-in-Err-Question c =
    no_question c.args.seed c.args.size c.requires.0 c.requires.1 c.as_slice.result.now c.as_slice-2.result.now
    (c.as_slice.ensures.value ∙ c.in_ok-controller.ensures.controller) (c.as_slice-2.ensures.value ∙ c.in_ok-controller.ensures.question)
    c.in-Err-Question.field-0 c.in-Err-Question.field-0-0 c.in-Err-Question.field-0-is c.in-Err-Question.ensures.refused
