use Rattle.ccac_cli.proofs.CheckLaws.{controller_answers, printable, question_answers, size_answers, verdict_answers}
use Rattle.ccac_cli.proofs.checking.check.Goals as goal

pub verdict_report-requires : goal.verdict_report-requires
verdict_report-requires c = printable c.args.controller.now c.args.question.now c.in-Ok.verdict c.in-Ok.ensures.judges

pub returns-in_ok-verdict_report-in-Ok : goal.returns-in_ok-verdict_report-in-Ok
returns-in_ok-verdict_report-in-Ok c =
    verdict_answers c.args.controller.now c.args.question.now c.in-Ok.verdict _ c.in-Ok.ensures.judges c.in_ok-verdict_report-in-Ok.ensures

pub returns-in-Err-Controller : goal.returns-in-Err-Controller
returns-in-Err-Controller c =
    controller_answers c.args.controller.now c.args.question.now c.in-Err-Controller.field-0 c.in-Err-Controller.refusal c.halted.result
    c.in-Err-Controller.field-0-is c.in-Err-Controller.ensures.judges c.halted.ensures

pub returns-in-Err-Question : goal.returns-in-Err-Question
returns-in-Err-Question c =
    question_answers c.args.controller.now c.args.question.now c.in-Err-Question.field-0 c.in-Err-Question.refusal c.halted-in-Err-Question.result
    c.in-Err-Question.field-0-is c.in-Err-Question.ensures.judges c.halted-in-Err-Question.ensures

pub returns-in_ok-size_report-in-Err-Large : goal.returns-in_ok-size_report-in-Err-Large
returns-in_ok-size_report-in-Err-Large c =
    size_answers c.args.controller.now c.args.question.now c.in-Err-Large.field-0 c.in-Err-Large.what c.in-Err-Large.limit _
    c.in-Err-Large.field-0-is c.in-Err-Large.ensures.judges c.in_ok-size_report-in-Err-Large.ensures
