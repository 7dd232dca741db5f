use Rattle.std.proofs.Common.{◌≡◌, ◌++◌, drop, map, string_bytes}
use Rattle.text_lines.specs.Pieces.{spaced}
use Rattle.cert_text.specs.Spelling.{literal_item}
use Rattle.cert_text.proofs.printing.put_literals.Given as goal

abbrev pub invariant-loop-lit : goal.invariant-loop-lit
invariant-loop-lit l = string_bytes l.out ++ spaced (map literal_item (drop l.lit-index l.lits)) ≡ string_bytes l.initial.out ++ spaced (map literal_item l.lits)
