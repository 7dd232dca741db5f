use Rattle.std.proofs.Common.{pos, map, get_or, FitsSigned, string_bytes, rules}
use Rattle.std.specs.Int.{w128}
use Rattle.std.proofs.lemmas.Int.{to_z-of_z}
use Rattle.std.specs.Fmt.{signed_decimal}
use Rattle.text_lines.specs.Pieces.{spaced}
use Rattle.text_lines.proofs.PieceLaws.{spaced_goes_on, spaced_is_done}
use Rattle.line_tables.proofs.printing.put_numbers.Goals as goal

pub loop-number-preserved : goal.loop-number-preserved
loop-number-preserved c =
    let fits : FitsSigned w128 (get_or c.args.numbers.now c.loop-number.number-index (pos 0)) = search rules in
    spaced_goes_on signed_decimal (pos 0) c.args.numbers.now c.loop-number.number-index (string_bytes c.args.out.now) (string_bytes c.loop-number.out) (string_bytes c.put_number.new.out)
    (spaced (map signed_decimal c.args.numbers.now)) c.loop-number-test.true c.loop-number.invariant (simp to_z-of_z at c.in_ok-put_number.ensures)

pub returns : goal.returns
returns c =
    spaced_is_done signed_decimal c.args.numbers.now c.loop-number.number-index (string_bytes c.args.out.now) (string_bytes c.loop-number.out) (spaced (map signed_decimal c.args.numbers.now))
    c.loop-number-test.false c.loop-number.invariant
