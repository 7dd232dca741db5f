use Rattle.std.proofs.Common.{◌≡◌, ◌++◌, drop, string_bytes}
use Rattle.text_lines.specs.Steps.{numbered}
use Rattle.picture_svg.specs.Panels.{panel_text}
use Rattle.picture_svg.proofs.documents.put_panels.Given as goal

abbrev pub invariant-loop-i : goal.invariant-loop-i
invariant-loop-i l = string_bytes l.out ++ numbered (panel_text l.picture) l.i (drop l.i l.panels) ≡ string_bytes l.initial.out ++ numbered (panel_text l.picture) 0 l.panels
