use Rattle.std.proofs.Common.{◌≡◌, ◌++◌, drop, map, take}
use Rattle.clause_form.specs.Keys.{signed}
use Rattle.clause_form.proofs.demands.each_signed.Given as goal

abbrev pub invariant-loop-lit : goal.invariant-loop-lit
invariant-loop-lit l = l.lit-items ≡ map (signed l.sign) (take l.lit-index l.initial.lit-items) ++ drop l.lit-index l.initial.lit-items
