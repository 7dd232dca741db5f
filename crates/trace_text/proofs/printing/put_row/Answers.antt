use Rattle.text_lines.specs.Steps.{numbered}
use Rattle.text_lines.proofs.PieceLaws.{line_then}
use Rattle.trace_text.specs.Spelling.{row_line, flow_lines}
use Rattle.trace_text.proofs.printing.put_row.Goals as goal

pub returns : goal.returns
returns c = line_then _ _ _ (row_line c.args.number c.args.row.now) (numbered flow_lines 1 c.args.row.now.flows) c.in_ok-put_waste.ensures (rw c.as_slice.ensures at c.in_ok-put_flows.ensures)
