use Rattle.question_text.proofs.NameLaws.{name_again, name_taken}
use Rattle.question_text.proofs.telling.names_stand_by_their_cases.Goals as goal

pub returns-clause-taken : goal.returns-clause-taken
returns-clause-taken c = name_taken

pub returns-clause-again : goal.returns-clause-again
returns-clause-again c = name_again
