use Rattle.std.proofs.Common.{◌≡◌, not, take, sym, ◌∙◌}
use Rattle.std.specs.List.{list_any}
use Rattle.ctrl_types.specs.Names.{has_name}
use Rattle.ctrl_types.proofs.LineLoops.{states_go_on, states_fail, states_end}
use Rattle.ctrl_types.proofs.ScopeLaws.{is_free, not_new, one_more}
use Rattle.ctrl_types.proofs.resolving.states.Goals as goal

pub returns-in-Err-clause-exact : goal.returns-in-Err-clause-exact
returns-in-Err-clause-exact c =
    let same : c.as_slice.result.now ≡ c.line-item.result.name = c.as_slice.ensures in
    let taken : not c.in_ok-is_new.is_new ≡ list_any (has_name c.line-item.result.name) (take c.loop-line.line-index c.args.lines.now) =
    rw (sym same) (not_new c.as_slice.result c.loop-line.names.keys (take c.loop-line.line-index c.args.lines.now) c.in_ok-is_new.is_new c.loop-line.invariant.numbered c.in_ok-is_new.ensures.added) in
    rw c.fault_of.ensures
    (states_fail c.args.lines.now c.loop-line.line-index c.loop-line.den c.loop-line.states _ c.loop-line.invariant.told
    c.line-item.result (not c.in_ok-is_new.is_new) c.in-Err.halt c.line-item.is c.loop-line-test.true taken c.in-Err.ensures.exact)

pub loop-line-preserved : goal.loop-line-preserved
loop-line-preserved c =
    let same : c.as_slice.result.now ≡ c.line-item.result.name = c.as_slice.ensures in
    let new = not_new c.as_slice.result c.loop-line.names.keys (take c.loop-line.line-index c.args.lines.now) c.in_ok-is_new.is_new c.loop-line.invariant.numbered c.in_ok-is_new.ensures.added in
    let taken : not c.in_ok-is_new.is_new ≡ list_any (has_name c.line-item.result.name) (take c.loop-line.line-index c.args.lines.now) = rw (sym same) new in
    let free = is_free (not c.in_ok-is_new.is_new) c.line-item.result c.loop-line.den (c.in-Ok.made, c.state.new.den) c.in-Ok.ensures.exact in
    record {
      told = rw c.in_ok-push.ensures.ok
          (states_go_on c.args.lines.now c.loop-line.line-index c.loop-line.den c.loop-line.states _ c.loop-line.invariant.told
          c.line-item.result (not c.in_ok-is_new.is_new) c.in-Ok.made c.state.new.den c.line-item.is c.loop-line-test.true taken c.in-Ok.ensures.exact);
      numbered = one_more c.loop-line.names.keys c.insert.new.self.keys c.as_slice.result c.args.lines.now c.loop-line.line-index c.line-item.result
          c.loop-line.invariant.numbered c.in_ok-is_new.ensures.keys (sym new ∙ free) same c.line-item.is c.loop-line-test.true;
      within = c.in-Ok.ensures.within;
    }

pub returns-clause-exact : goal.returns-clause-exact
returns-clause-exact c = states_end c.args.lines.now c.loop-line.line-index c.loop-line.den c.loop-line.states _ c.loop-line.invariant.told c.loop-line-test.false
