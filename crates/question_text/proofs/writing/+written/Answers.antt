use Rattle.question_text.proofs.WritingLaws.{And_written, Or_written}
use Rattle.question_text.proofs.writing.+written.Goals as goal

pub condition-returns-in_ok-conditions-in-And : goal.condition-returns-in_ok-conditions-in-And
condition-returns-in_ok-conditions-in-And t c =
    And_written c.args.states.now c.args.setting.now c.args.cond.now c.in-And.parts _ c.in_ok-conditions-in-And.ensures c.in-And.is

pub condition-returns-in_ok-conditions-in-Or : goal.condition-returns-in_ok-conditions-in-Or
condition-returns-in_ok-conditions-in-Or t c =
    Or_written c.args.states.now c.args.setting.now c.args.cond.now c.in-Or.parts _ c.in_ok-conditions-in-Or.ensures c.in-Or.is
