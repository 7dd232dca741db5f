use Rattle.std.proofs.Common.{◌+◌, string_bytes, arith}
use Rattle.text_lines.specs.Pieces.{text}
use Rattle.text_lines.specs.Steps.{numbered}
use Rattle.text_lines.proofs.PieceLaws.{lines_go_on, lines_are_done}
use Rattle.trace_text.specs.Spelling.{flow_lines}
use Rattle.trace_text.proofs.printing.put_flows.Goals as goal

pub loop-i-preserved : goal.loop-i-preserved
loop-i-preserved c =
    let i = c.loop-i.i in
    lines_go_on flow_lines c.index-flows-i.result c.args.flows.now i (1 + i) (1 + (i + 1)) (string_bytes c.args.out.now) (string_bytes c.loop-i.out) (string_bytes c.put_flow.new.out)
    (text (numbered flow_lines 1 c.args.flows.now)) c.loop-i-test.true c.index-flows-i.is (omega arith) c.loop-i.invariant c.in_ok-put_flow.ensures

pub returns : goal.returns
returns c =
    lines_are_done flow_lines c.args.flows.now c.loop-i.i (1 + c.loop-i.i) (string_bytes c.args.out.now) (string_bytes c.loop-i.out) (text (numbered flow_lines 1 c.args.flows.now))
    c.loop-i-test.false c.loop-i.invariant
