use Rattle.std.proofs.Common.{sym, ◌∙◌, arith}
use Rattle.ctrl_types.proofs.LoopLaws.{state_within}
use Rattle.ctrl_types.proofs.ScopeLaws.{number_is}
use Rattle.ctrl_types.proofs.names.state_named.Goals as goal

pub overflow_cast-result : goal.overflow_cast-result
overflow_cast-result c =
    let within = state_within c.args.word.now c.args.scope.now.states.now c.in-Some.number
    (sym (number_is c.args.scope.now c.args.word.now c.requires) ∙ sym c.get_index_of.ensures.index ∙ c.in-Some.is) in
    let few = c.requires.states_to in
    omega arith

pub returns-in-Some : goal.returns-in-Some
returns-in-Some c = sym c.in-Some.is ∙ c.get_index_of.ensures.index ∙ number_is c.args.scope.now c.args.word.now c.requires

pub returns-in-None : goal.returns-in-None
returns-in-None c = sym c.in-None.is ∙ c.get_index_of.ensures.index ∙ number_is c.args.scope.now c.args.word.now c.requires
