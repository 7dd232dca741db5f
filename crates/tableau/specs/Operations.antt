-- What a stuck operation says: its place, its row and variable, and its operands in lowest terms.
use Rattle.std.specs.Prelude.{◌≡◌, ℕ, pos}
use Rattle.ordered_field.specs.Rational.{ℚ}
use Rattle.ordered_field.specs.LowestTerms.{Ratio, InLowestTerms}
use Rattle.whole.specs.declared.answers.Op.{Op}
use Rattle.whole.specs.declared.answers.Pair.{Pair}
use Rattle.whole.specs.declared.answers.Place.{Place}
use Rattle.whole.specs.declared.answers.Stuck.{Stuck}
use Rattle.whole.specs.declared.answers.Op.TheVariants.{Product, Sum}
use Rattle.whole.specs.declared.answers.Place.TheVariants.{Pivot}
use Rattle.field_rows.specs.declared.operation.Operation.{Operation}
use Rattle.field_rows.specs.declared.operation.Operation.TheVariants.{Product as ProductOf, Sum as SumOf}
use Rattle.field_rows.specs.declared.fault.RowFault.{RowFault}
use Rattle.field_rows.specs.declared.fault.RowFault.TheVariants.{Wide, NoMemory as NoMemoryForRow}
use Rattle.tableau.specs.declared.fault.PivotFault.{PivotFault}
use Rattle.tableau.specs.declared.fault.PivotFault.TheVariants.{Stuck as StuckAt, NoMemory}

-- the pair is x in lowest terms
pub record StandsFor (p : Pair) (x : ℚ) : Type 0 where
  pub ratio : Ratio
  pub num : p.num ≡ ratio.num
  pub den : p.den ≡ pos ratio.den
  pub lowest : InLowestTerms ratio x

-- the operation o stands at this place, for the row of variable b and the variable v, and its operands are x and y
pub record IsOperation (p : Place) (b v : ℕ) (o : Op) (x y : ℚ) (stuck : Stuck) : Type 0 where
  pub place : stuck.place ≡ p
  pub at : stuck.at ≡ b
  pub by : stuck.by ≡ v
  pub op : stuck.op ≡ o
  pub left : StandsFor stuck.left x
  pub right : StandsFor stuck.right y

-- the fault is want of memory, or its operation is as P says
abbrev pub IfStuck : PivotFault → (Stuck → Type 0) → Type 0
IfStuck (StuckAt stuck) P = P stuck
IfStuck NoMemory P = Unit {0}

-- it is this operation of the field, at the entry of variable v in r's row
abbrev pub IsOperationOf : {F : Type 0} → (F → ℚ) → ℕ → ℕ → Operation F → Stuck → Type 0
IsOperationOf value r v (ProductOf x y) stuck = IsOperation Pivot r v Product (value x) (value y) stuck
IsOperationOf value r v (SumOf x y) stuck = IsOperation Pivot r v Sum (value x) (value y) stuck

-- the fault is that of r's row
abbrev pub IsFaultOf : {F : Type 0} → (F → ℚ) → ℕ → RowFault F → PivotFault → Type 0
IsFaultOf value r (Wide entry) (StuckAt stuck) = IsOperationOf value r entry.variable entry.operation stuck
IsFaultOf value r (Wide entry) NoMemory = ⊥
IsFaultOf value r NoMemoryForRow fault = fault ≡ NoMemory
