-- Operations of a field that are too wide, with their numbers.
use Rattle.std.specs.Prelude.{◌≡◌, ℕ, pos}
use Rattle.ordered_field.specs.Rational.{ℚ, whole, ◌*ℚ◌}
use Rattle.ordered_field.specs.Wideness.{Exceeds, SumIsWide}
use Rattle.field_rows.specs.Rows.{dividend, without}
use Rattle.field_rows.specs.declared.operation.Operation.{Operation}
use Rattle.field_rows.specs.declared.operation.Operation.TheVariants.{Product, Sum}
use Rattle.field_rows.specs.declared.fault.WideEntry.{WideEntry}
use Rattle.field_rows.specs.declared.fault.RowFault.{RowFault}
use Rattle.field_rows.specs.declared.fault.RowFault.TheVariants.{Wide, NoMemory}

-- the operation is the product of a and b, and too wide
abbrev pub IsWideProduct : {F : Type 0} → ℕ → (F → ℚ) → F → F → Operation F → Type 0
IsWideProduct limit value a b (Product p q) = (p ≡ a) × (q ≡ b) × Exceeds limit (value a *ℚ value b)
IsWideProduct limit value a b (Sum p q) = ⊥

-- the operation is one of x + k * y that is too wide: the product, or its sum with x
abbrev pub IsWideStep : {F : Type 0} → ℕ → (F → ℚ) → F → F → F → Operation F → Type 0
IsWideStep limit value x k y (Product p q) = IsWideProduct limit value k y (Product p q)
IsWideStep limit value x k y (Sum p q) =
    (p ≡ x) × (value q ≡ value k *ℚ value y) × SumIsWide limit (value x) (value k *ℚ value y)

-- the operation is the product of the number x and the factor k, and too wide
abbrev pub IsWideProductOf : {F : Type 0} → ℕ → (F → ℚ) → ℚ → F → Operation F → Type 0
IsWideProductOf limit value x k (Product p q) = (value p ≡ x) × (value q ≡ value k) × Exceeds limit (value p *ℚ value q)
IsWideProductOf limit value x k (Sum p q) = ⊥

-- the operation is one of x + k * y, for numbers x and y, and too wide
abbrev pub IsWideStepOf : {F : Type 0} → ℕ → (F → ℚ) → ℚ → F → ℚ → Operation F → Type 0
IsWideStepOf limit value x k y (Product p q) = (value p ≡ value k) × (value q ≡ y) × Exceeds limit (value p *ℚ value q)
IsWideStepOf limit value x k y (Sum p q) =
    (value p ≡ x) × (value q ≡ value k *ℚ y) × SumIsWide limit (value p) (value q)

-- the operation is for the entry at k of b's row c solved for o: its dividend times 1 / c_o, too wide
abbrev pub IsWideQuotient : {F : Type 0} → ℕ → (F → ℚ) → ℕ → ℕ → (ℕ → ℚ) → ℕ → Operation F → Type 0
IsWideQuotient limit value b o c k (Product p q) =
    (value p ≡ dividend b o c k) × (value q *ℚ c o ≡ whole (pos 1)) × Exceeds limit (value p *ℚ value q)
IsWideQuotient limit value b o c k (Sum p q) = ⊥

-- the operation is for the entry at k of the row c, once d is put in for variable o, and too wide: the product
-- c_o * d_k, or its sum with c_k
abbrev pub IsWideEntry : {F : Type 0} → ℕ → (F → ℚ) → ℕ → (ℕ → ℚ) → (ℕ → ℚ) → ℕ → Operation F → Type 0
IsWideEntry limit value o d c k (Product p q) =
    (value p ≡ c o) × (value q ≡ d k) × Exceeds limit (value p *ℚ value q)
IsWideEntry limit value o d c k (Sum p q) =
    (value p ≡ without o c k) × (value q ≡ c o *ℚ d k) × SumIsWide limit (value p) (value q)

-- the fault is want of memory, or its entry is as P says
abbrev pub IfWide : {F : Type 0} → RowFault F → (WideEntry F → Type 0) → Type 0
IfWide (Wide entry) P = P entry
IfWide NoMemory P = Unit {0}
