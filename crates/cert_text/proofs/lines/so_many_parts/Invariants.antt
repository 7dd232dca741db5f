use Rattle.std.proofs.Common.{◌≡◌, ◌-◌, ◌≤◌, length}
use Rattle.text_lines.specs.Steps.{each}
use Rattle.text_lines.proofs.StepLaws.{with_front}
use Rattle.cert_text.specs.Tables.{part_at}
use Rattle.cert_text.proofs.lines.so_many_parts.Given as goal

abbrev pub invariant-loop : goal.invariant-loop
invariant-loop l = (with_front l.parts (each (λ _. part_at) (l.count - l.counter) l.counter l.fields) ≡ each (λ _. part_at) l.count 0 l.initial.fields) × ((length l.parts ≡ l.counter) × (l.counter ≤ l.count))
