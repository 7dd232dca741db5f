use Rattle.std.proofs.Common.{ℕ, ◌+◌, ◌≤◌, List, ◌++◌, Option, length, arith, length-append, length-take}
use Rattle.std.specs.Io.KnownBytes.{Consumes}
use Rattle.std.proofs.KnownBytes.{Consumes-trans}
use Rattle.ccac_ports.proofs.streams.read_whole.Goals as goal

-- what was taken before and in this turn
both_taken : (a b c : Option (List ℕ)) (bytes more : List ℕ) (limit : ℕ) → Consumes a b bytes → Consumes b c more
    → length bytes + length more ≤ limit + 1 → (taken : List ℕ) × (length taken ≤ limit + 1) × Consumes a c taken
both_taken a b c bytes more limit before after within =
    (bytes ++ more, omega (arith, length-append bytes more), Consumes-trans a b c bytes more before after)

pub returns-then-taken-left-clause-taken : goal.returns-then-taken-left-clause-taken
returns-then-taken-left-clause-taken g c =
    let (few, long) = c.in-Ok.ensures.bound in
    let most = length-take c.min-room.result c.loop-taken.chunk in
    both_taken _ _ _ _ _ _ c.loop-taken.invariant.taken c.in-Ok.ensures.bytes.0
    (omega (arith, few, long, most, c.read.auto.buf, c.min-room.ensures, c.saturating_add.ensures, c.len.ensures, c.loop-taken.invariant.within))

pub returns-in_err-extend_from_slice-clause-taken :
    goal.returns-in_err-extend_from_slice-clause-taken
returns-in_err-extend_from_slice-clause-taken g c =
    let (few, long) = c.in-Ok.ensures.bound in
    both_taken _ _ _ _ _ _ c.loop-taken.invariant.taken c.in-Ok.ensures.bytes.0 (omega (arith, long, c.if-taken-left.false, c.len.ensures))
