use Rattle.question_syntax.proofs.Exactness.{one_text, one_refusal, not_both, either_text}
use Rattle.question_syntax.proofs.laws.questions_are_told_apart.Goals as goal

pub returns-clause-one_text : goal.returns-clause-one_text
returns-clause-one_text c = one_text

pub returns-clause-one_refusal : goal.returns-clause-one_refusal
returns-clause-one_refusal c = one_refusal

pub returns-clause-not_both : goal.returns-clause-not_both
returns-clause-not_both c = not_both

pub returns-clause-either : goal.returns-clause-either
returns-clause-either c = either_text
