use Rattle.std.proofs.Common.{◌+◌, ◌-◌, ◌*◌, ◌^◌, ◌≤◌, get_or, drop, sym, ap, ◌∙◌, arith}
use Rattle.text_lines.specs.Numbers.{limited, value_after}
use Rattle.text_lines.proofs.NumberLaws.{digit_at_place, value_step, value_at_end, value_grows, limited_kept, limited_past}
use Rattle.text_lines.proofs.numbers.value_of.Goals as goal

pub returns-then-value-digit : goal.returns-then-value-digit
returns-then-value-digit c =
    let digits = c.args.digits.now in
    let i = c.loop-byte.byte-index in
    let next = c.loop-byte.value * 10 + (get_or digits i 0 - 48) in
    let past : 2 ^ 127 ≤ value_after 0 digits = omega (arith, value_step c.loop-byte.value digits i c.loop-byte-test.true, value_grows next (drop (i + 1) digits), c.loop-byte.invariant.2) in
    record { exact = sym (limited_past (value_after 0 digits) past); small = tt }

pub loop-byte-preserved : goal.loop-byte-preserved
loop-byte-preserved c =
    let digits = c.args.digits.now in
    let i = c.loop-byte.byte-index in
    let digit = digit_at_place digits i c.loop-byte-test.true c.loop-byte.invariant.1 in
    (omega arith, digit.others, rw c.from-digit.ensures (sym (value_step c.loop-byte.value digits i c.loop-byte-test.true) ∙ c.loop-byte.invariant.2))

pub returns : goal.returns
returns c =
    let digits = c.args.digits.now in
    let all = sym (value_at_end c.loop-byte.value digits c.loop-byte.byte-index c.loop-byte-test.false) ∙ c.loop-byte.invariant.2 in
    record { exact = sym (limited_kept c.loop-byte.value c.loop-byte.invariant.0) ∙ ap limited all; small = c.loop-byte.invariant.0 }
