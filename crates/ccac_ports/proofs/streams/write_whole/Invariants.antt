use Rattle.std.proofs.Common.{◌-◌, ◌≤◌, length, take}
use Rattle.std.specs.Io.KnownBytes.{Appends}
use Rattle.ccac_ports.proofs.streams.write_whole.Given as goal

abbrev pub invariant-loop-put : goal.invariant-loop-put
invariant-loop-put g l = record {
  within : l.put ≤ length l.bytes;
  appended : Appends (g.W.Write.contents l.initial.writer) (g.W.Write.contents l.writer) (take l.put l.bytes);
}

abbrev pub decreases-loop-put : goal.decreases-loop-put
decreases-loop-put g l = length l.bytes - l.put
