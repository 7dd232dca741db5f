use Rattle.std.proofs.Common.{◌≡◌, ◌-◌}
use Rattle.text_machine.specs.Items.{whole}
use Rattle.text_machine.specs.Lines.{take}
use Rattle.text_lines.specs.Steps.{each}
use Rattle.text_lines.proofs.StepLaws.{with_front}
use Rattle.text_machine.proofs.lists.wholes.Given as goal

abbrev pub invariant-loop : goal.invariant-loop
invariant-loop l = with_front l.numbers (each (λ _. take whole) (l.count - l.counter) l.counter l.fields) ≡ each (λ _. take whole) l.count 0 l.initial.fields
