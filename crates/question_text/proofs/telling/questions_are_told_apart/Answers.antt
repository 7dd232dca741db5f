use Rattle.question_text.proofs.TellingLaws.{one_question, one_refusal, not_both, either_question}
use Rattle.question_text.proofs.telling.questions_are_told_apart.Goals as goal

pub returns-clause-one_question : goal.returns-clause-one_question
returns-clause-one_question c = one_question

pub returns-clause-one_refusal : goal.returns-clause-one_refusal
returns-clause-one_refusal c = one_refusal

pub returns-clause-not_both : goal.returns-clause-not_both
returns-clause-not_both c = not_both

pub returns-clause-either : goal.returns-clause-either
returns-clause-either c = either_question
