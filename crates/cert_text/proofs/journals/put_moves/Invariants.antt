use Rattle.std.proofs.Common.{◌≡◌, ◌++◌, drop, map, string_bytes}
use Rattle.text_lines.specs.Pieces.{text}
use Rattle.cert_text.specs.Journals.{move_line}
use Rattle.cert_text.proofs.journals.put_moves.Given as goal

abbrev pub invariant-loop-one : goal.invariant-loop-one
invariant-loop-one l = string_bytes l.out ++ text (map move_line (drop l.one-index l.moves)) ≡ string_bytes l.initial.out ++ text (map move_line l.moves)
