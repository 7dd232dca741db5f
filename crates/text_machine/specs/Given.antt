-- What the calls that read lines and items give, where memory may run out.
use Rattle.std.specs.Prelude.{◌≡◌, ℤ, List, Result, Ok, Err}
use Rattle.whole.specs.declared.answers.ReadFault.{ReadFault}
use Rattle.whole.specs.declared.answers.Refusal.{Refusal}
use Rattle.text_lines.specs.Lines.{Unread}
use Rattle.text_lines.specs.Steps.{Fails}
use Rattle.text_machine.specs.declared.faults.Fault.{Fault}
use Rattle.text_machine.specs.declared.lists.LineFault.{LineFault}
use Rattle.text_machine.specs.declared.lists.LineFault.TheVariants.{Item, NoMemory}

-- a call gives the numbers that are read
abbrev pub Reads : {X Y E : Type 0} → (X → Y) → Result X E → Result Y E → Type 0
Reads numbers (Ok x) read = read ≡ Ok (numbers x)
Reads numbers (Err fault) read = read ≡ Err fault

-- the fault is the one that is read, unless memory ran out
abbrev pub FailsLine : {Y : Type 0} → LineFault → Result Y Fault → Type 0
FailsLine NoMemory read = Unit {0}
FailsLine (Item fault) read = read ≡ Err fault

-- a call gives the numbers that are read, unless memory ran out
abbrev pub GivesLine : {X : Type 0} → (X → List ℤ) → Result X LineFault → Result (List ℤ) Fault → Type 0
GivesLine numbers (Ok x) read = read ≡ Ok (numbers x)
GivesLine numbers (Err fault) read = FailsLine fault read

-- a call that leaves `rest` gives what is read, unless memory ran out
abbrev pub GivesItems : {X R : Type 0} → Result X LineFault → R → Result (X × R) Fault → Type 0
GivesItems (Ok x) rest read = read ≡ Ok (x, rest)
GivesItems (Err fault) rest read = FailsLine fault read

-- a call that leaves these lines gives the numbers that are read, unless memory ran out
abbrev pub GivesLines : {X Y : Type 0} → (X → Y) → Result X ReadFault → Unread → Result (Y × Unread) Refusal → Type 0
GivesLines numbers (Ok x) rest read = read ≡ Ok (numbers x, rest)
GivesLines numbers (Err fault) rest read = Fails fault read
