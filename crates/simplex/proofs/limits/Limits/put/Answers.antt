use Rattle.std.proofs.Common.{◌<◌, length, refl, ap, sym, arith}
use Rattle.std.proofs.lemmas.Option.{slice_get_read}
use Rattle.simplex.proofs.KeepLaws.{AreKept-put, length-limits_of}
use Rattle.simplex.proofs.limits.Limits.put.Goals as goal

pub invariant_of-self-2 : goal.invariant_of-self-2
invariant_of-self-2 g c =
    let sides = c.self.inside.sides.items in
    let puts = c.self.inside.puts.items in
    let within : c.args.limit.var < length c.self.inside.sides.items = rw (← c.self.view_is) at c.requires.variable in
    let room = rw (← c.self.view_is) at c.requires.room in
    rw c.in_ok-push.ensures.items
    (AreKept-put sides puts (record { limit = c.args.limit; before = c.side.result }) c.index-sides.result.now c.with_side.result c.self.invariant (omega (arith, room, length-limits_of puts)) within (slice_get_read sides (length sides) c.args.limit.var c.index-sides.result.now refl within c.index-sides.ensures) c.side.ensures c.with_side.ensures)
