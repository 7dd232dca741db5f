use Rattle.std.proofs.Common.{◌≡◌, ◌+◌, ◌++◌, drop, string_bytes}
use Rattle.text_lines.specs.Pieces.{text}
use Rattle.text_lines.specs.Steps.{numbered}
use Rattle.trace_text.specs.Spelling.{flow_lines}
use Rattle.trace_text.proofs.printing.put_flows.Given as goal

abbrev pub invariant-loop-i : goal.invariant-loop-i
invariant-loop-i l = string_bytes l.out ++ text (numbered flow_lines (1 + l.i) (drop l.i l.flows)) ≡ string_bytes l.initial.out ++ text (numbered flow_lines 1 l.flows)
