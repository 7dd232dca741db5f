-- What a call answers where reading may stop for want of memory.
use Rattle.std.specs.Prelude.{◌≡◌, Result, Ok, Err}
use Rattle.condition_syntax.specs.declared.faults.Fault.{Fault}
use Rattle.condition_syntax.specs.declared.faults.ReadStop.{ReadStop}
use Rattle.condition_syntax.specs.declared.faults.ReadStop.TheVariants.{Fault as Faulty, NoMemory}

-- the fault is the one that is read, unless memory ran out
abbrev pub Halts : {Y : Type 0} → ReadStop → Result Y Fault → Type 0
Halts NoMemory read = Unit {0}
Halts (Faulty fault) read = read ≡ Err fault

-- a call that leaves `rest` gives what is read, unless memory runs out
abbrev pub GivesRest : {X R : Type 0} → Result X ReadStop → R → Result (X × R) Fault → Type 0
GivesRest (Ok x) rest read = read ≡ Ok (x, rest)
GivesRest (Err halt) rest read = Halts halt read

-- the same of a value that is seen otherwise
abbrev pub GivesSeen : {X Y R : Type 0} → (X → Y) → Result X ReadStop → R → Result (Y × R) Fault → Type 0
GivesSeen view (Ok x) rest read = read ≡ Ok (view x, rest)
GivesSeen view (Err halt) rest read = Halts halt read
