use Rattle.text_machine.specs.Scripts.{lines_by, lines_from}
use Rattle.text_machine.proofs.ScriptLaws.{Along}
use Rattle.trace_text.specs.Script.{flow_lines, flow_table}
use Rattle.trace_text.proofs.reading.read_flows.Given as goal

abbrev pub invariant-loop-i : goal.invariant-loop-i
invariant-loop-i l = Along (flow_lines l.states) flow_table (λ _ _. Unit {0}) 1 l.flows l.i l.found l.lines (lines_by (lines_from (flow_lines l.states) l.flows 1) l.initial.lines)
