use Rattle.std.proofs.Common.{◌∙◌, sym}
use Rattle.question_text.proofs.Laws.{kept_again, kept_found, kept_law, stuck_again, stuck_law, violated_again, violated_found, violated_law}
use Rattle.question_text.proofs.violation.violates.Goals as goal

pub returns-clause-violated : goal.returns-clause-violated
returns-clause-violated c = (
  λ is. violated_law c.args.question.now c.args.run.now (sym c.examine.ensures ∙ is),
  λ both. c.examine.ensures ∙ violated_again c.args.question.now c.args.run.now both.0 both.1,
)

pub returns-clause-kept : goal.returns-clause-kept
returns-clause-kept c = (
  λ is. kept_law c.args.question.now c.args.run.now (sym c.examine.ensures ∙ is),
  λ both. c.examine.ensures ∙ kept_again c.args.question.now c.args.run.now both.0 both.1,
)

pub returns-clause-stuck : goal.returns-clause-stuck
returns-clause-stuck c = λ stuck. (
  λ is. stuck_law c.args.question.now c.args.run.now stuck (sym c.examine.ensures ∙ is),
  λ one. c.examine.ensures ∙ stuck_again c.args.question.now c.args.run.now stuck one,
)

pub returns-clause-violated_found : goal.returns-clause-violated_found
returns-clause-violated_found c = violated_found c.args.question.now c.args.run.now c.examine.result c.examine.ensures

pub returns-clause-kept_found : goal.returns-clause-kept_found
returns-clause-kept_found c = kept_found c.args.question.now c.args.run.now c.examine.result c.examine.ensures
