use Rattle.std.proofs.Common.{◌≡◌, ◌++◌, drop, string_bytes}
use Rattle.text_lines.specs.Steps.{numbered}
use Rattle.picture_svg.specs.Panels.{sample_of}
use Rattle.picture_svg.proofs.panels.put_samples.Given as goal

abbrev pub invariant-loop-i : goal.invariant-loop-i
invariant-loop-i l = string_bytes l.out ++ numbered sample_of l.i (drop l.i l.lines) ≡ string_bytes l.initial.out ++ numbered sample_of 0 l.lines
