use Rattle.std.proofs.Common.{◌≡◌, length}
use Rattle.text_machine.specs.Items.{literal}
use Rattle.text_machine.specs.Lines.{take_all}
use Rattle.cert_text.specs.Rules.{index_limit}
use Rattle.cert_text.proofs.LineLaws.{so_far}
use Rattle.cert_text.proofs.lines.literals.Given as goal

abbrev pub invariant-loop-item : goal.invariant-loop-item
invariant-loop-item l = so_far l.lits.items (take_all (literal index_limit) l.fields) ≡ take_all (literal index_limit) l.initial.fields

abbrev pub decreases-loop-item : goal.decreases-loop-item
decreases-loop-item l = length l.fields
