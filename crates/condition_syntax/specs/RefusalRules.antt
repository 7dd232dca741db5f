-- By which rule a controller or a question is refused.
use Rattle.std.specs.Prelude.{◌≡◌, ℕ, Result, Ok, Err}
use Rattle.whole.specs.declared.answers.ReadFault.{ReadFault}
use Rattle.whole.specs.declared.answers.ReadFault.TheVariants.{Refused, NoMemory}
use Rattle.whole.specs.declared.answers.Refusal.{Refusal}
use Rattle.text_lines.specs.Steps.{Fails}
use Rattle.condition_syntax.specs.declared.conditions.Style.{Style}
use Rattle.condition_syntax.specs.declared.conditions.Style.TheVariants.{Controller, Question}
use Rattle.condition_syntax.specs.declared.faults.Fault.{Fault}
use Rattle.condition_syntax.specs.declared.faults.Fault.TheVariants.{WrongByte, Number, Term, Part, Depth, Count}
use Rattle.condition_syntax.specs.declared.faults.ReadStop.{ReadStop}
use Rattle.condition_syntax.specs.declared.faults.ReadStop.TheVariants.{Fault as Faulty, NoMemory as OutOfMemory}

-- `G` or `Q`
abbrev pub letter : Style → ℕ
letter Controller = 71
letter Question = 81

abbrev pub rule : Style → Fault → ℕ
rule Controller WrongByte = 2
rule Controller Number = 7
rule Controller Term = 8
rule Controller Part = 9
rule Controller Depth = 10
rule Controller Count = 11
rule Question WrongByte = 2
rule Question Number = 5
rule Question Term = 7
rule Question Part = 8
rule Question Depth = 9
rule Question Count = 9

abbrev pub refusal : Style → ℕ → Fault → Refusal
refusal style line fault = record { letter = letter style; number = rule style fault; line = line }

-- why reading stopped, as the refusal on this line
abbrev pub fault_of : Style → ℕ → ReadStop → ReadFault
fault_of style line (Faulty fault) = Refused (refusal style line fault)
fault_of style line OutOfMemory = NoMemory

-- a fault on this line is its refusal
abbrev pub refused : {X : Type 0} → Style → ℕ → Result X Fault → Result X Refusal
refused style line (Ok x) = Ok x
refused style line (Err fault) = Err (refusal style line fault)

-- a call that leaves `rest` gives what is read, seen by `view`, unless memory runs out
abbrev pub GivesRead : {X Y R : Type 0} → (X → Y) → Result X ReadFault → R → Result (Y × R) Refusal → Type 0
GivesRead view (Ok x) rest read = read ≡ Ok (view x, rest)
GivesRead view (Err fault) rest read = Fails fault read

-- the refusal of a fault on this line
abbrev pub IsRefusedBy : Style → ℕ → (Fault → Type 0) → Refusal → Type 0
IsRefusedBy style line Refuses r = (fault : Fault) × (Refuses fault × (r ≡ refusal style line fault))
