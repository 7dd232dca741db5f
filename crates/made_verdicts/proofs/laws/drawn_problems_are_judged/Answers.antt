use Rattle.ctrl_gen.specs.Problems.{controller_text, question_text}
use Rattle.made_verdicts.proofs.NeverRefused.{no_fault}
use Rattle.made_verdicts.proofs.laws.drawn_problems_are_judged.Goals as goal

pub returns : goal.returns
returns c seed size from to fault =
    no_fault (controller_text seed) (question_text seed size) (c.drawn_problems_are_accepted.ensures.never_refused seed size from to)
    (λ asked about are. c.drawn_problems_are_converted.ensures.small asked about (c.drawn_problems_are_converted.ensures.drawn seed size from to asked about are)) fault
