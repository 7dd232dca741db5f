-- How the code's answers stand to those of the definitions.
use Rattle.std.specs.Prelude.{◌≡◌, Result, Ok, Err}
use Rattle.clause_form.specs.declared.building.Builder.{Builder}
use Rattle.clause_form.specs.declared.clauses.What.{What}
use Rattle.clause_form.specs.declared.clauses.BuildFault.{BuildFault}
use Rattle.clause_form.specs.declared.clauses.BuildFault.TheVariants.{Large, NoMemory}
use Rattle.clause_form.specs.Building.{Build, limit_of}

-- what a builder has made
abbrev pub build_of : Builder → Build
build_of b = record { columns = b.columns; forms = b.forms.keys; keys = b.keys.keys; clauses = b.clauses }

-- Large comes where the definition exceeds that limit
abbrev pub Fails : {Y : Type 0} → BuildFault → Result Y What → Type 0
Fails NoMemory answer = Unit {0}
Fails (Large what limit) answer = (answer ≡ Err what) × (limit ≡ limit_of what)

-- Ok gives what the definition gives
abbrev pub Gives : {X Y : Type 0} → (X → Y) → Result X BuildFault → Result Y What → Type 0
Gives seen (Ok x) answer = answer ≡ Ok (seen x)
Gives seen (Err fault) answer = Fails fault answer
