use Rattle.text_lines.proofs.PieceLaws.{line_is_taken}
use Rattle.text_lines.proofs.lines.Lines.next_line.Goals as goal

pub returns : goal.returns
returns c = line_is_taken _ _ _ _ _ c.self.view_is (rw c.in_ok-self-inside.was at c.cut.ensures.parts)
