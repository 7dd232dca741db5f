use Rattle.std.proofs.Common.{◌≡◌, pos, drop}
use Rattle.whole.specs.Numbers.{IsWithin}
use Rattle.linear_form.specs.Sums.{running, entry}
use Rattle.linear_form.proofs.summing.sum_at.Given as goal

abbrev pub invariant-loop-term : goal.invariant-loop-term
invariant-loop-term l = IsWithin l.sum × (running (entry l.values) l.sum (drop l.term-index l.term-items) ≡ running (entry l.values) (pos 0) l.form.terms)
