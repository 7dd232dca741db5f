use Rattle.asked.proofs.AskingLaws.{asks_of, controller_first, question_second, read_where_asked}
use Rattle.asked.proofs.asking.ask.Goals as goal

pub returns-clause-only : goal.returns-clause-only
returns-clause-only c = read_where_asked _ _ _ (asks_of _ _ _ c.read_both.ensures.found c.read_both.ensures.refused)

pub returns-clause-first : goal.returns-clause-first
returns-clause-first c = controller_first _ _ _ (asks_of _ _ _ c.read_both.ensures.found c.read_both.ensures.refused)

pub returns-clause-second : goal.returns-clause-second
returns-clause-second c = question_second _ _ _ (asks_of _ _ _ c.read_both.ensures.found c.read_both.ensures.refused)
