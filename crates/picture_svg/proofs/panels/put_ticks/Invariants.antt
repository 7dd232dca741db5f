use Rattle.std.proofs.Common.{◌≡◌, ◌++◌, drop, string_bytes}
use Rattle.picture_svg.specs.Shapes.{listed}
use Rattle.picture_svg.specs.Panels.{tick_text}
use Rattle.picture_svg.proofs.panels.put_ticks.Given as goal

abbrev pub invariant-loop-tick : goal.invariant-loop-tick
invariant-loop-tick l = string_bytes l.out ++ listed tick_text (drop l.tick-index l.ticks) ≡ string_bytes l.initial.out ++ listed tick_text l.ticks
