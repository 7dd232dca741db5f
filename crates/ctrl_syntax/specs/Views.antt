-- What a call gives that answers with a value which is seen otherwise.
use Rattle.std.specs.Prelude.{◌≡◌, Result, Ok, Err}
use Rattle.text_lines.specs.Steps.{Fails}
use Rattle.whole.specs.declared.answers.ReadFault.{ReadFault}
use Rattle.whole.specs.declared.answers.Refusal.{Refusal}

-- a call gives what is read, unless memory runs out
abbrev pub GivesSeenUnless : {X Y : Type 0} → (X → Y) → Result X ReadFault → Result Y Refusal → Type 0
GivesSeenUnless view (Ok x) read = read ≡ Ok (view x)
GivesSeenUnless view (Err fault) read = Fails fault read
