use Rattle.std.specs.Prelude.{ℕ}
use Rattle.ccac_ports.specs.declared.real_sink.RealSink.{RealSink}

-- how often the output couldn't take the bytes
abbrev pub faults : {R : Type 0} → RealSink R → ℕ
faults sink = sink.faults
