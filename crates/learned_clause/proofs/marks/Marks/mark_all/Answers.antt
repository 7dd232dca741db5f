use Rattle.std.proofs.Common.{take, false}
use Rattle.std.proofs.lemmas.Option.{slice_get-get_or}
use Rattle.learned_clause.proofs.MarkLaws.{marks_next, marks_room}
use Rattle.learned_clause.proofs.marks.Marks.mark_all.Goals as goal

pub mark-requires : goal.mark-requires
mark-requires c =
    let k = c.loop-lit.lit-index in
    let lits = c.args.lits.now in
    marks_room c.args.self.now c.loop-lit.self (take k lits) lits k _ c.loop-lit.invariant c.requires (slice_get-get_or lits k (record { atom = 0; positive = false }) c.loop-lit-test.true)

pub loop-lit-preserved : goal.loop-lit-preserved
loop-lit-preserved c =
    let k = c.loop-lit.lit-index in
    let lits = c.args.lits.now in
    marks_next c.args.self.now c.loop-lit.self c.mark.new.self lits k _ c.requires (slice_get-get_or lits k (record { atom = 0; positive = false }) c.loop-lit-test.true) c.loop-lit.invariant c.mark.ensures
