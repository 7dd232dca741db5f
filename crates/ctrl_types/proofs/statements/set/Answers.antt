use Rattle.std.proofs.Common.{ap, sym, ◌∙◌, arith}
use Rattle.std.specs.Result.{result_ok}
use Rattle.ctrl_types.proofs.LoopLaws.{state_within}
use Rattle.ctrl_types.proofs.statements.set.Goals as goal

pub set-requires : goal.set-requires
set-requires c =
    let within = state_within c.as_slice.result.now c.args.scope.now.states.now c.in_ok-number.number
    (sym c.state_named.ensures ∙ c.ok_or.ensures.ok_part ∙ ap result_ok c.in_ok-number.was) in
    omega (arith, within)
