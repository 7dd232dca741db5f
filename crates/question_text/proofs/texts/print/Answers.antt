use Rattle.question_text.specs.StatementRules.{question_seen}
use Rattle.question_text.proofs.PrintLaws.{prints_again}
use Rattle.question_text.proofs.texts.print.Goals as goal

pub returns-clause-again : goal.returns-clause-again
returns-clause-again c =
    prints_again (λ out. out.items) c.args.controller.now c.requires.controller_in (question_seen c.args.question.now) c.requires.question_in c.text_bytes.result c.text_bytes.ensures
