-- Which operation of the values at a corner is too wide.
use Rattle.std.specs.Prelude.{◌≡◌, ℕ, ◌*◌, ◌/◌, ◌^◌, ◌<◌, ◌≤◌, ℤ, pos, unsigned_abs, ◌⊎◌, Bool, List, Some, slice_get, take}
use Rattle.ordered_field.specs.Rational.{ℚ, whole, ◌+ℚ◌, ◌*ℚ◌, neg_ℚ}
use Rattle.ordered_field.specs.Delta.{DeltaValue}
use Rattle.ordered_field.specs.LowestTerms.{Ratio, numerator_over}
use Rattle.ordered_field.specs.Wideness.{Exceeds, SumIsWide}
use Rattle.whole.specs.Numbers.{gcd_of}
use Rattle.whole.specs.declared.answers.Op.TheVariants.{Product, Sum}
use Rattle.whole.specs.declared.answers.Place.TheVariants.{Epsilon, Scale}
use Rattle.whole.specs.declared.answers.Stuck.{Stuck}
use Rattle.tableau.specs.Tables.{variables}
use Rattle.tableau.specs.Operations.{IsOperation}
use Rattle.simplex.specs.Corners.{Corner}
use Rattle.corner_values.specs.Epsilon.{difference, Approaches, Orders, IsEpsilon}
use Rattle.corner_values.specs.Scale.{AreInLowestTerms, IsScale}
use Rattle.corner_values.specs.Values.{value_at}

-- ---- of epsilon

-- the sum of y and the opposite of x
pub record IsStuckDifference (limit v : ℕ) (y x : ℚ) (stuck : Stuck) : Type 0 where
  pub operation : IsOperation Epsilon v 0 Sum y (neg_ℚ x) stuck
  pub overflows : SumIsWide limit y (neg_ℚ x)

-- the product of n and the inverse of d
pub record IsStuckQuotient (limit v : ℕ) (n d : ℚ) (stuck : Stuck) : Type 0 where
  pub inverse : ℚ
  pub inverts : inverse *ℚ d ≡ whole (pos 1)
  pub operation : IsOperation Epsilon v 0 Product n inverse stuck
  pub overflows : Exceeds limit (n *ℚ inverse)

-- one of the two differences of numbers that approach each other, or their quotient
pub record IsStuckMeeting (limit v : ℕ) (x y : DeltaValue) (stuck : Stuck) : Type 0 where
  pub approach : Approaches x y
  pub operation :
      IsStuckDifference limit v y.real x.real stuck
      ⊎ IsStuckDifference limit v x.inf y.inf stuck
      ⊎ IsStuckQuotient limit v (difference y.real x.real) (difference x.inf y.inf) stuck

-- one of these for v's value and its limit on this side
pub record IsStuckOn {F : Type 0} (limit : ℕ) (c : Corner F) (upper : Bool) (v : ℕ) (stuck : Stuck) : Type 0 where
  pub lesser : DeltaValue
  pub greater : DeltaValue
  pub orders : Orders c upper v lesser greater
  pub meeting : IsStuckMeeting limit v lesser greater stuck

pub record IsStuckEpsilon {F : Type 0} (limit : ℕ) (c : Corner F) (stuck : Stuck) : Type 0 where
  pub variable : ℕ
  pub within : variable < variables c.table
  pub upper : Bool
  pub on_side : IsStuckOn limit c upper variable stuck

-- ---- of a column's value

-- the product of its infinitesimal part and epsilon
pub record IsStuckProduct (limit j : ℕ) (x : DeltaValue) (epsilon : ℚ) (stuck : Stuck) : Type 0 where
  pub operation : IsOperation Epsilon j 0 Product x.inf epsilon stuck
  pub overflows : Exceeds limit (x.inf *ℚ epsilon)

-- the sum of its real part and that product
pub record IsStuckSum (limit j : ℕ) (x : DeltaValue) (epsilon : ℚ) (stuck : Stuck) : Type 0 where
  pub operation : IsOperation Epsilon j 0 Sum x.real (x.inf *ℚ epsilon) stuck
  pub overflows : SumIsWide limit x.real (x.inf *ℚ epsilon)

abbrev pub IsStuckAt : ℕ → ℕ → DeltaValue → ℚ → Stuck → Type 0
IsStuckAt limit j x epsilon stuck = IsStuckProduct limit j x epsilon stuck ⊎ IsStuckSum limit j x epsilon stuck

-- one of these, with this number for the infinitesimal
pub record IsStuckColumnAt {F : Type 0} (limit : ℕ) (c : Corner F) (epsilon : ℚ) (stuck : Stuck) : Type 0 where
  pub column : ℕ
  pub within : column < c.table.columns
  pub operation : IsStuckAt limit column (c.value column) epsilon stuck

pub record IsStuckColumn {F : Type 0} (limit : ℕ) (c : Corner F) (stuck : Stuck) : Type 0 where
  pub epsilon : ℚ
  pub is_epsilon : IsEpsilon c epsilon
  pub at_epsilon : IsStuckColumnAt limit c epsilon stuck

-- ---- of the scale, and of a whole value: products of whole numbers, which pass 2^127 - 1

-- the product of two whole numbers, for column j
abbrev pub IsWholeProduct : ℕ → ℤ → ℤ → Stuck → Type 0
IsWholeProduct j x y stuck = IsOperation Scale j 0 Product (whole x) (whole y) stuck

-- the scale over its greatest common divisor with the denominator, times the denominator
pub record IsWideMultiple (j scale den : ℕ) (stuck : Stuck) : Type 0 where
  pub operation : IsWholeProduct j (pos (scale / gcd_of scale den)) (pos den) stuck
  pub overflows : 2 ^ 127 ≤ scale / gcd_of scale den * den

-- the numerator times the scale over the denominator
pub record IsWideNumerator (j scale : ℕ) (p : Ratio) (stuck : Stuck) : Type 0 where
  pub operation : IsWholeProduct j p.num (pos (scale / p.den)) stuck
  pub overflows : 2 ^ 127 ≤ unsigned_abs (numerator_over scale p)

-- the scale is that of the columns before this one
pub record IsStuckMultiple (ratios : List Ratio) (stuck : Stuck) : Type 0 where
  pub column : ℕ
  pub ratio : Ratio
  pub there : slice_get ratios column ≡ Some ratio
  pub scale : ℕ
  pub is_scale : IsScale (take column ratios) scale
  pub wide : IsWideMultiple column scale ratio.den stuck

pub record IsStuckNumerator (ratios : List Ratio) (scale : ℕ) (stuck : Stuck) : Type 0 where
  pub column : ℕ
  pub ratio : Ratio
  pub there : slice_get ratios column ≡ Some ratio
  pub wide : IsWideNumerator column scale ratio stuck

abbrev pub IsStuckScaling : List Ratio → Stuck → Type 0
IsStuckScaling ratios stuck =
    IsStuckMultiple ratios stuck ⊎ ((scale : ℕ) × (IsScale ratios scale × IsStuckNumerator ratios scale stuck))

pub record IsStuckScale {F : Type 0} (c : Corner F) (stuck : Stuck) : Type 0 where
  pub epsilon : ℚ
  pub is_epsilon : IsEpsilon c epsilon
  pub lowest : List Ratio
  pub in_lowest_terms : AreInLowestTerms c.table.columns (value_at c epsilon) lowest
  pub operation : IsStuckScaling lowest stuck

-- ---- all of them

abbrev pub IsStuckAfterEpsilon : {F : Type 0} → ℕ → Corner F → Stuck → Type 0
IsStuckAfterEpsilon limit c stuck = IsStuckColumn limit c stuck ⊎ IsStuckScale c stuck

abbrev pub IsStuckValue : {F : Type 0} → ℕ → Corner F → Stuck → Type 0
IsStuckValue limit c stuck = IsStuckEpsilon limit c stuck ⊎ IsStuckAfterEpsilon limit c stuck
