use Rattle.made_problems.proofs.Acceptance.{controller_accepted, question_accepted, controller_is_short, question_is_short, never_refused}
use Rattle.made_problems.proofs.laws.drawn_problems_are_accepted.Goals as goal

pub returns-clause-controllers : goal.returns-clause-controllers
returns-clause-controllers c = controller_accepted

pub returns-clause-questions : goal.returns-clause-questions
returns-clause-questions c = question_accepted

pub returns-clause-never_refused : goal.returns-clause-never_refused
returns-clause-never_refused c = never_refused

pub returns-clause-short : goal.returns-clause-short
returns-clause-short c seed size to = (controller_is_short seed, question_is_short seed size to)
