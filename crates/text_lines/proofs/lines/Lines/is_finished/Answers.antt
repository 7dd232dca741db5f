use Rattle.std.proofs.Common.{ap, sym, ◌∙◌}
use Rattle.text_lines.specs.Lines.{Unread, is_over}
use Rattle.text_lines.proofs.PieceLaws.{pieces_over}
use Rattle.text_lines.proofs.lines.Lines.is_finished.Goals as goal

pub returns : goal.returns
returns c = c.is_empty.ensures ∙ sym (pieces_over c.self.inside.rest.now) ∙ ap (λ (u : Unread). is_over u.pieces) c.self.view_is
