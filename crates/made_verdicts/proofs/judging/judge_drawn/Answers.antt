use Rattle.std.proofs.Common.{◌∙◌, Ok}
use Rattle.ctrl_gen.specs.Problems.{controller_text, question_text}
use Rattle.made_verdicts.proofs.NeverRefused.{judged_as, only_memory}
use Rattle.made_verdicts.proofs.judging.judge_drawn.Goals as goal

pub returns-in-Ok : goal.returns-in-Ok
returns-in-Ok c =
    judged_as (controller_text c.args.seed) (question_text c.args.seed c.args.size) c.as_slice.result.now c.as_slice-2.result.now
    (c.as_slice.ensures.value ∙ c.in_ok-controller.ensures.controller) (c.as_slice-2.ensures.value ∙ c.in_ok-controller.ensures.question)
    (Ok c.in-Ok.verdict) c.in-Ok.ensures.judges

pub unreachable-requires : goal.unreachable-requires
unreachable-requires c =
    let memory =
    only_memory (controller_text c.args.seed) (question_text c.args.seed c.args.size) c.as_slice.result.now c.as_slice-2.result.now
    (c.as_slice.ensures.value ∙ c.in_ok-controller.ensures.controller) (c.as_slice-2.ensures.value ∙ c.in_ok-controller.ensures.question)
    (c.drawn_problems_are_judged.ensures c.args.seed c.args.size c.requires.0 c.requires.1) c.in-Err-Controller.field-0 c.in-Err-Controller.ensures.judges in
    let other = c.in-Err-Controller.field-0-is in
    cc

pub unreachable-requires-in-Err-Question : goal.unreachable-requires-in-Err-Question
unreachable-requires-in-Err-Question c =
    let memory =
    only_memory (controller_text c.args.seed) (question_text c.args.seed c.args.size) c.as_slice.result.now c.as_slice-2.result.now
    (c.as_slice.ensures.value ∙ c.in_ok-controller.ensures.controller) (c.as_slice-2.ensures.value ∙ c.in_ok-controller.ensures.question)
    (c.drawn_problems_are_judged.ensures c.args.seed c.args.size c.requires.0 c.requires.1) c.in-Err-Question.field-0 c.in-Err-Question.ensures.judges in
    let other = c.in-Err-Question.field-0-is in
    cc

pub unreachable-requires-in-Err-Large : goal.unreachable-requires-in-Err-Large
unreachable-requires-in-Err-Large c =
    let memory =
    only_memory (controller_text c.args.seed) (question_text c.args.seed c.args.size) c.as_slice.result.now c.as_slice-2.result.now
    (c.as_slice.ensures.value ∙ c.in_ok-controller.ensures.controller) (c.as_slice-2.ensures.value ∙ c.in_ok-controller.ensures.question)
    (c.drawn_problems_are_judged.ensures c.args.seed c.args.size c.requires.0 c.requires.1) c.in-Err-Large.field-0 c.in-Err-Large.ensures.judges in
    let other = c.in-Err-Large.field-0-is in
    cc
