use Rattle.std.proofs.Common.{string_bytes, rules, get_or, pos, false, FitsSigned}
use Rattle.std.specs.Int.{w128}
use Rattle.std.proofs.lemmas.Int.{to_z-of_z}
use Rattle.text_lines.specs.Pieces.{spaced}
use Rattle.cert_text.specs.Spelling.{part_items}
use Rattle.cert_text.proofs.PrintLaws.{parts_go_on, parts_are_done}
use Rattle.cert_text.proofs.printing.put_parts.Goals as goal

pub loop-part-preserved : goal.loop-part-preserved
loop-part-preserved c =
    let fits : FitsSigned w128 (get_or c.args.parts.now c.loop-part.part-index (record { lit = record { atom = 0; positive = false }; mult = pos 0 })).mult = search rules in
    parts_go_on _ c.args.parts.now c.loop-part.part-index (string_bytes c.args.out.now) (string_bytes c.loop-part.out) (string_bytes c.put_literal.new.out) (string_bytes c.put_multiplier.new.out) (spaced (part_items c.args.parts.now))
    c.loop-part-test.true c.loop-part.invariant c.in_ok-put_literal.ensures (simp to_z-of_z at c.in_ok-put_multiplier.ensures)

pub returns : goal.returns
returns c =
    parts_are_done c.args.parts.now c.loop-part.part-index (string_bytes c.args.out.now) (string_bytes c.loop-part.out) (spaced (part_items c.args.parts.now)) c.loop-part-test.false c.loop-part.invariant
