use Rattle.std.proofs.Common.{◌≡◌, ◌<◌, ◌^◌, true, drop}
use Rattle.text_lines.specs.Numbers.{all_digits, value, value_after}
use Rattle.source_text.specs.Cutting.{saturated}
use Rattle.source_text.proofs.numbers.value_of.Given as goal

abbrev pub invariant-loop-byte : goal.invariant-loop-byte
invariant-loop-byte l =
    (l.value < 2 ^ 32)
    × (all_digits (drop l.byte-index l.digits) ≡ true)
    × (saturated (value_after l.value (drop l.byte-index l.digits)) ≡ saturated (value l.digits))
