-- What calls give that read a line item by item.
use Rattle.std.specs.Prelude.{◌≡◌, ◌++◌, ℕ, ℤ, List, Option, None, Some, Result, Ok, Err}
use Rattle.whole.specs.declared.answers.ReadFault.{ReadFault}
use Rattle.whole.specs.declared.answers.Refusal.{Refusal}
use Rattle.text_lines.specs.Steps.{Fails, ◌>>=◌}
use Rattle.text_machine.specs.declared.faults.Fault.{Fault}
use Rattle.text_machine.specs.declared.faults.Fault.TheVariants.{Misplaced}
use Rattle.text_machine.specs.declared.lists.LineFault.{LineFault}
use Rattle.text_machine.specs.Given.{FailsLine}
use Rattle.text_machine.specs.Lines.{LineForm, read_line}
use Rattle.text_machine.specs.Texts.{Table, Format, finish}
use Rattle.line_tables.specs.declared.tables.Row.{Row}
use Rattle.line_tables.specs.declared.spots.Spot.{Spot}
use Rattle.line_tables.specs.Tables.{numbers}

-- what is read behind these numbers
abbrev pub onto : List ℤ → Result (List ℤ) Fault → Result (List ℤ) Fault
onto front read = read >>= λ zs. Ok (front ++ zs)

-- what is read in all is what is still read, unless the call failed
abbrev pub LeadsTo : {X Y : Type 0} → Result X LineFault → Result Y Fault → (X → Result Y Fault) → Type 0
LeadsTo (Ok x) total rest = total ≡ rest x
LeadsTo (Err fault) total rest = FailsLine fault total

abbrev pub form_read : Option LineForm → List (List ℕ) → Result (List ℤ) Fault
form_read None items = Err Misplaced
form_read (Some form) items = read_line form items

-- a row and where the next one stands, unless memory ran out
abbrev pub GivesStep : Result (Row × Spot) ReadFault → Result (List ℤ × Spot) Refusal → Type 0
GivesStep (Ok found) read = read ≡ Ok (numbers found.0, found.1)
GivesStep (Err fault) read = Fails fault read

-- behind these rows, a text that ends in line k with these bytes
abbrev pub finished : Format Spot Refusal → Spot → Table → ℕ → List ℕ → Result Table Refusal
finished f s front k rest = finish f s k rest >>= λ more. Ok (front ++ more)
