use Rattle.std.proofs.Common.{take}
use Rattle.clause_form.specs.Journals.{literals}
use Rattle.clause_search.specs.Standings.{StandsAs}
use Rattle.clause_search.proofs.standing.judge.Given as goal

abbrev pub invariant-loop-lit : goal.invariant-loop-lit
invariant-loop-lit l = StandsAs (literals l.trail.entries) (take l.lit-index l.clause) l.standing
