use Rattle.std.proofs.Common.{◌≡◌, drop}
use Rattle.std.specs.List.{position_from}
use Rattle.question_text.specs.NamedValues.{has_name}
use Rattle.question_text.proofs.naming.state_named.Given as goal

-- the states to come have the first one with the name
abbrev pub invariant-loop-number : goal.invariant-loop-number
invariant-loop-number l = position_from (has_name l.word) l.number (drop l.number l.states) ≡ position_from (has_name l.word) 0 l.states
