use Rattle.std.proofs.Common.{◌≡◌, ◌<◌, ◌^◌, true, drop}
use Rattle.text_lines.specs.Numbers.{all_digits, value_after}
use Rattle.text_lines.proofs.numbers.value_of.Given as goal

abbrev pub invariant-loop-byte : goal.invariant-loop-byte
invariant-loop-byte l =
    (l.value < 2 ^ 127)
    × (all_digits (drop l.byte-index l.digits) ≡ true)
    × (value_after l.value (drop l.byte-index l.digits) ≡ value_after 0 l.digits)
