-- What an answer about a claim says over unbounded numbers: the products and sums that its weighing forms, in order, the
-- first of them that overflows, and whether the claim holds where none does.
use Rattle.std.specs.Prelude.{◌≡◌, ◌↔◌, ℕ, ℤ, pos, ◌+ℤ◌, ◌*ℤ◌, Bool, true, false, Result, Ok, Err, List, [], ◌∷◌, ◌++◌, All, if◌then◌else◌}
use Rattle.whole.specs.Numbers.{IsWithin, overflows}
use Rattle.whole.specs.declared.answers.Stuck.{Stuck}
use Rattle.whole.specs.declared.answers.Op.{Op}
use Rattle.whole.specs.declared.answers.Op.TheVariants.{Product, Sum}
use Rattle.condition_tree.specs.Trees.{folded, gathering}
use Rattle.weighing.specs.Claim.{Claim, Compared, Holds, total}
use Rattle.weighing.specs.First.{IsFirst}
use Rattle.weighing.specs.Weighed.{stuck_at}
use Rattle.weighing.specs.declared.weighings.Summand.{Summand}

-- a product or a sum and its operands
pub record Operation : Type 0 where
  pub op : Op
  pub left : ℤ
  pub right : ℤ

abbrev pub operation : Op → ℤ → ℤ → Operation
operation op left right = record { op = op; left = left; right = right }

abbrev pub result_of : Op → ℤ → ℤ → ℤ
result_of Product x y = x *ℤ y
result_of Sum x y = x +ℤ y

abbrev pub exact : Operation → ℤ
exact o = result_of o.op o.left o.right

-- an operation whose exact result overflows stops the weighing of a row, and is named
abbrev pub formed : ℕ → Operation → Result (Unit {0}) Stuck
formed row o = if overflows (exact o) then Err (stuck_at row o.op o.left o.right) else Ok tt

-- for each term its product, and then the sum with it
abbrev pub operations_from : ℤ → List Summand → List Operation
operations_from sum [] = []
operations_from sum (t ∷ terms) =
    operation Product t.0 t.1 ∷ operation Sum sum (t.0 *ℤ t.1) ∷ operations_from (sum +ℤ t.0 *ℤ t.1) terms

-- those of a claim's comparisons, in their written order
abbrev pub operations : Claim → List Operation
operations c =
    folded (gathering [] (λ (xs ys : List Operation). xs ++ ys)) (λ (d : Compared Summand). operations_from (pos 0) d.terms) c

-- no result of these operations overflows
abbrev pub AllWithin : List Operation → Type 0
AllWithin os = All (λ o. IsWithin (exact o)) os

-- no product and no sum of the claim's weighing overflows
abbrev pub NothingOverflows : Claim → Type 0
NothingOverflows c = AllWithin (operations c)

-- the first product or sum of the claim's weighing that overflows
abbrev pub IsFirstOverflow : ℕ → Claim → Stuck → Type 0
IsFirstOverflow row c stuck = IsFirst (formed row) (operations c) stuck

-- the answer about a claim that is weighed on a row: whether it holds, or the first operation that overflows
pub record Answers (row : ℕ) (c : Claim) (answer : Result Bool Stuck) : Type 0 where
  pub holds : (answer ≡ Ok true) ↔ (NothingOverflows c × Holds c)
  pub fails : (answer ≡ Ok false) ↔ (NothingOverflows c × (Holds c → ⊥))
  pub stuck : (stuck : Stuck) → (answer ≡ Err stuck) ↔ IsFirstOverflow row c stuck

-- the sum of a number and of terms that are weighed on a row: the exact one, or the first operation that overflows
pub record Sums (row : ℕ) (sum : ℤ) (terms : List Summand) (answer : Result ℤ Stuck) : Type 0 where
  pub whole : (z : ℤ) → (answer ≡ Ok z) ↔ (AllWithin (operations_from sum terms) × (z ≡ sum +ℤ total terms))
  pub stuck : (stuck : Stuck) → (answer ≡ Err stuck) ↔ IsFirst (formed row) (operations_from sum terms) stuck
