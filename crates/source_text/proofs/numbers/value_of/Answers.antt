use Rattle.std.proofs.Common.{◌≡◌, ◌+◌, ◌-◌, ◌*◌, get_or, drop, sym, ap, ◌∙◌, arith}
use Rattle.text_lines.proofs.NumberLaws.{digit_at_place, value_step, value_at_end}
use Rattle.source_text.specs.Cutting.{saturated}
use Rattle.source_text.proofs.NumberLaws.{saturated_after, saturated_small}
use Rattle.source_text.proofs.numbers.value_of.Goals as goal

pub loop-byte-preserved : goal.loop-byte-preserved
loop-byte-preserved c =
    let digits = c.args.digits.now in
    let i = c.loop-byte.byte-index in
    let digit = digit_at_place digits i c.loop-byte-test.true c.loop-byte.invariant.1 in
    let exact = c.loop-byte.value * 10 + (get_or digits i 0 - 48) in
    let alike : saturated c.saturating_add-value.result ≡ saturated exact = omega (arith, c.saturating_add-value.ensures, c.saturating_mul.ensures, c.from-digit.ensures) in (
      omega arith,
      digit.others,
      saturated_after c.saturating_add-value.result exact (drop (i + 1) digits) alike
          ∙ ap saturated (sym (value_step c.loop-byte.value digits i c.loop-byte-test.true)) ∙ c.loop-byte.invariant.2,
    )

pub returns : goal.returns
returns c =
    let digits = c.args.digits.now in
    sym (saturated_small c.loop-byte.value c.loop-byte.invariant.0)
    ∙ ap saturated (sym (value_at_end c.loop-byte.value digits c.loop-byte.byte-index c.loop-byte-test.false)) ∙ c.loop-byte.invariant.2
