use Rattle.std.proofs.Common.{◌≡◌, ◌++◌, drop}
use Rattle.std.specs.Prelude.{flat_map}
use Rattle.ctrl_syntax.specs.Printed.{line_text, set_text}
use Rattle.ctrl_syntax.proofs.printing.put_sets.Given as goal

abbrev pub invariant-loop-set : goal.invariant-loop-set
invariant-loop-set l = l.out.items ++ flat_map (line_text set_text) (drop l.set-index l.sets) ≡ l.fn.out.items ++ flat_map (line_text set_text) l.sets
