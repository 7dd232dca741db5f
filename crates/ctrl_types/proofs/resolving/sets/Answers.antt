use Rattle.std.proofs.Common.{◌∙◌}
use Rattle.ctrl_types.proofs.LineLoops.{sets_go_on, sets_fail, sets_end}
use Rattle.ctrl_types.proofs.resolving.sets.Goals as goal

pub returns-in-Err-clause-exact : goal.returns-in-Err-clause-exact
returns-in-Err-clause-exact c =
    rw c.fault_of.ensures
    (sets_fail c.args.scope.now.states.now c.args.lines.now c.loop-line.line-index c.loop-line.places c.loop-line.den _ c.loop-line.invariant.told
    c.line-item.result c.in-Err.halt c.line-item.is c.loop-line-test.true c.in-Err.ensures.exact)

pub loop-line-preserved : goal.loop-line-preserved
loop-line-preserved c = record {
  told = sets_go_on c.args.scope.now.states.now c.args.lines.now c.loop-line.line-index c.loop-line.places c.loop-line.den _ c.loop-line.invariant.told
      c.line-item.result c.set.new.places c.set.new.den c.line-item.is c.loop-line-test.true c.in-Ok.ensures.exact;
  places_are = c.in-Ok.ensures.places_stay ∙ c.loop-line.invariant.places_are;
  within = c.in-Ok.ensures.within;
}

pub returns-clause-exact : goal.returns-clause-exact
returns-clause-exact c = sets_end c.args.scope.now.states.now c.args.lines.now c.loop-line.line-index c.loop-line.places c.loop-line.den _ c.loop-line.invariant.told c.loop-line-test.false
