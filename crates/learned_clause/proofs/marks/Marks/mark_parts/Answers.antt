use Rattle.std.proofs.Common.{map, take, false, pos}
use Rattle.std.proofs.lemmas.Option.{slice_get-get_or}
use Rattle.learned_clause.proofs.MarkLaws.{marks_next, marks_room, negative_at, part_at, part_lit, within_next}
use Rattle.learned_clause.proofs.marks.Marks.mark_parts.Goals as goal

pub mark_part-requires-clause-in_range : goal.mark_part-requires-clause-in_range
mark_part-requires-clause-in_range c =
    let k = c.loop-part.part-index in
    let parts = c.args.parts.now in
    let here = slice_get-get_or parts k (record { lit = record { atom = 0; positive = false }; mult = pos 0 }) c.loop-part-test.true in
    marks_room c.args.self.now c.loop-part.self (take k (map part_lit parts)) (map part_lit parts) k _ c.loop-part.invariant.0 c.requires.in_range (part_at parts k _ here)

pub mark_part-requires-clause-mult : goal.mark_part-requires-clause-mult
mark_part-requires-clause-mult c =
    let k = c.loop-part.part-index in
    let parts = c.args.parts.now in
    negative_at parts k _ c.requires.mults (slice_get-get_or parts k (record { lit = record { atom = 0; positive = false }; mult = pos 0 }) c.loop-part-test.true)

pub loop-part-preserved : goal.loop-part-preserved
loop-part-preserved c =
    let k = c.loop-part.part-index in
    let parts = c.args.parts.now in
    let here = slice_get-get_or parts k (record { lit = record { atom = 0; positive = false }; mult = pos 0 }) c.loop-part-test.true in (
      marks_next c.args.self.now c.loop-part.self c.mark_part.new.self (map part_lit parts) k _ c.requires.in_range (part_at parts k _ here) c.loop-part.invariant.0 c.mark_part.ensures.marked,
      within_next parts k _ here c.mark_part.ensures.within c.loop-part.invariant.1,
    )
