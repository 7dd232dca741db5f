use Rattle.std.proofs.Common.{◌≡◌, ◌++◌, drop, map, string_bytes}
use Rattle.std.specs.Fmt.{signed_decimal}
use Rattle.text_lines.specs.Pieces.{spaced}
use Rattle.line_tables.proofs.printing.put_numbers.Given as goal

abbrev pub invariant-loop-number : goal.invariant-loop-number
invariant-loop-number l = string_bytes l.out ++ spaced (map signed_decimal (drop l.number-index l.numbers)) ≡ string_bytes l.initial.out ++ spaced (map signed_decimal l.numbers)
