use Rattle.std.proofs.Common.{◌+◌, refl, arith}
use Rattle.std.proofs.lemmas.Result.{err_from_is_err_and}
use Rattle.text_machine.specs.Scripts.{lines_by, lines_from}
use Rattle.text_machine.proofs.ScriptLaws.{along_start, along_more, along_fails, along_done, one_line, one_fails}
use Rattle.trace_text.specs.Script.{flow_lines, flow_line, flow_table}
use Rattle.trace_text.proofs.reading.read_flows.Goals as goal

pub loop-i-init : goal.loop-i-init
loop-i-init c = rw c.new-found.ensures (along_start (flow_lines c.args.states) flow_table (λ _ _. Unit {0}) 1 c.args.flows c.args.lines.now)

pub returns-in_err-flow-clause-exact : goal.returns-in_err-flow-clause-exact
returns-in_err-flow-clause-exact c =
    let p = err_from_is_err_and c.from_residual.result c.from_residual.ensures.1 in
    rw (p.1, p.2)
    (along_fails _ (flow_lines c.args.states) flow_table (λ _ _. Unit {0}) 1 c.args.flows c.loop-i.i (1 + c.loop-i.i) c.loop-i.found c.loop-i.lines (lines_by (lines_from (flow_lines c.args.states) c.args.flows 1) c.args.lines.now)
    c.loop-i-test.true refl (one_fails _ (flow_line c.args.states (1 + c.loop-i.i)) c.loop-i.lines c.in_err-flow.ensures) c.loop-i.invariant)

pub loop-i-preserved : goal.loop-i-preserved
loop-i-preserved c =
    rw c.in_ok-push.ensures.ok
    (along_more (flow_lines c.args.states) flow_table (λ _ _. Unit {0}) 1 c.args.flows c.loop-i.i (1 + c.loop-i.i) c.loop-i.found c.loop-i.lines c.in_ok-flow.flow c.read_flow.new.lines (lines_by (lines_from (flow_lines c.args.states) c.args.flows 1) c.args.lines.now)
    c.loop-i-test.true refl (one_line (flow_line c.args.states (1 + c.loop-i.i)) c.loop-i.lines _ c.in_ok-flow.ensures) tt c.loop-i.invariant)

pub returns : goal.returns
returns c =
    let d = along_done (flow_lines c.args.states) flow_table (λ _ _. Unit {0}) 1 c.args.flows c.loop-i.i c.loop-i.found c.loop-i.lines (lines_by (lines_from (flow_lines c.args.states) c.args.flows 1) c.args.lines.now)
    c.loop-i-test.false (omega arith) c.loop-i.invariant in
    record { exact = d.1; sized = d.0 }
