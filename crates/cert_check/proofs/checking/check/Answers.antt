use Rattle.cert_check.proofs.AnswerLaws.{equal_answer, says_proved, says_failed, says_overflowed, proved_no_model}
use Rattle.cert_check.proofs.checking.check.Goals as goal

pub returns-in-Ok-clause-proved : goal.returns-in-Ok-clause-proved
returns-in-Ok-clause-proved c = says_proved _ _ _ (equal_answer _ _ c.in-Ok.ensures)

pub returns-in-Ok-clause-failed : goal.returns-in-Ok-clause-failed
returns-in-Ok-clause-failed c = says_failed _ _ _ (equal_answer _ _ c.in-Ok.ensures)

pub returns-in-Ok-clause-overflowed : goal.returns-in-Ok-clause-overflowed
returns-in-Ok-clause-overflowed c = says_overflowed _ _ _ (equal_answer _ _ c.in-Ok.ensures)

pub returns-in-Ok-clause-no_model : goal.returns-in-Ok-clause-no_model
returns-in-Ok-clause-no_model c =
    proved_no_model _ _ _ c.requires.formed (says_proved _ _ _ (equal_answer _ _ c.in-Ok.ensures))
