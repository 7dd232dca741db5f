use Rattle.std.proofs.Common.{◌≡◌, ◌++◌, drop, string_bytes}
use Rattle.text_lines.specs.Pieces.{spaced}
use Rattle.cert_text.specs.Spelling.{part_items}
use Rattle.cert_text.proofs.printing.put_parts.Given as goal

abbrev pub invariant-loop-part : goal.invariant-loop-part
invariant-loop-part l = string_bytes l.out ++ spaced (part_items (drop l.part-index l.parts)) ≡ string_bytes l.initial.out ++ spaced (part_items l.parts)
