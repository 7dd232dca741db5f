-- Clashes: the limits of a conflict with their factors, their literals, and the whole multipliers.
use Rattle.std.specs.Prelude.{◌≡◌, ℕ, ◌/◌, ◌<◌, ◌≤◌, ℤ, pos, ◌*ℤ◌, ◌+ℤ◌, ◌≤ℤ◌, unsigned_abs, Bool, true, List, [], ◌∷◌, ◌++◌, map, length, ◌⊎◌, Some, IsSome, IsSomeAnd, slice_get}
use Rattle.ordered_field.specs.Rational.{ℚ, whole}
use Rattle.ordered_field.specs.Order.{◌<ℚ◌}
use Rattle.ordered_field.specs.Delta.{DeltaValue, ◌<δ◌}
use Rattle.ordered_field.specs.LowestTerms.{Ratio}
use Rattle.whole.specs.Numbers.{IsWithin, gcd_of, lcm_of, overflows}
use Rattle.whole.specs.declared.answers.Op.{Op}
use Rattle.whole.specs.declared.answers.Op.TheVariants.{Product, Sum}
use Rattle.whole.specs.declared.answers.Pair.{Pair}
use Rattle.whole.specs.declared.answers.Place.{Place}
use Rattle.whole.specs.declared.answers.Place.TheVariants.{Multiplier, Column}
use Rattle.whole.specs.declared.answers.Stuck.{Stuck}
use Rattle.farkas_cert.specs.declared.literals.Lit.{Lit}
use Rattle.farkas_cert.specs.declared.trees.Part.{Part}
use Rattle.linear_form.specs.Sums.{coef_at}
use Rattle.clause_form.specs.declared.theory.Heard.{Heard}
use Rattle.clause_form.specs.declared.theory.Heard.TheVariants as heard
use Rattle.clause_form.specs.Derivations.{Rows, LitRow, IsContradiction, SumsFit, number_in, row_coef, row_of, running_sum, terms_of}
use Rattle.tableau.specs.Operations.{StandsFor}
use Rattle.simplex.specs.declared.limits.Limit.{Limit}
use Rattle.simplex.specs.Bounds.{both_limits}
use Rattle.simplex.specs.Corners.{CanHelp, IsLeastViolated}
use Rattle.simplex.specs.declared.outcome.Share.{Share}
use Rattle.simplex.specs.Shares.{Weight, AreOfRow, weighed_numbers, weighed_variables}
use Rattle.lra_theory.specs.declared.clash.Piece.{Piece}
use Rattle.lra_theory.specs.Literals.{bound_of, den_of, lit_at, HasLimit}
use Rattle.lra_theory.specs.Setting.{Opposes}
use Rattle.lra_theory.specs.States.{State}

-- ---- which limits

-- the two limits that contradict, each with 1, the lower one first
pub record AreOpposed {F : Type 0} (s : State F) (ws : List Weight) : Type 0 where
  pub position : ℕ
  pub limit : Limit DeltaValue
  pub other : Limit DeltaValue
  pub opposes : Opposes s position limit other
  pub both : ws ≡ both_limits limit other

-- the violated limit of the least violated variable with 1, and then the limits that keep the variables of its row from
-- helping it, with the sizes of their entries, the least variable first
pub record AreHelpless {F : Type 0} (value : F → ℚ) (s : State F) (ws : List Weight) : Type 0 where
  pub upper : Bool
  pub basic : ℕ
  pub violated : IsLeastViolated value s.corner upper basic
  pub helpless : (o : ℕ) → ¬ CanHelp value s.corner upper basic o
  pub of_row : AreOfRow value s.corner upper basic ws

abbrev pub AreOfClash : {F : Type 0} → (F → ℚ) → State F → List Weight → Type 0
AreOfClash value s ws = AreOpposed s ws ⊎ AreHelpless value s ws

-- each literal is the one that gave its limit
abbrev pub AreLiterals : List Lit → List Weight → List Lit → Type 0
AreLiterals told [] [] = Unit {0}
AreLiterals told [] (l ∷ ls) = ⊥
AreLiterals told (w ∷ ws) [] = ⊥
AreLiterals told (w ∷ ws) (l ∷ ls) = (slice_get told w.limit.tag ≡ Some l) × AreLiterals told ws ls

-- ---- whole multipliers

-- the piece has the literal that gave the limit, its factor p / q in lowest terms, and the denominator of its literal's atom
pub record IsPiece (rows : Rows) (told : List Lit) (w : Weight) (p : Piece) : Type 0 where
  pub told_at : slice_get told w.limit.tag ≡ Some p.lit
  pub factor : StandsFor p.factor w.factor
  pub den : IsSomeAnd (bound_of rows p.lit) (λ b. p.den ≡ b.den)

abbrev pub ArePieces : Rows → List Lit → List Weight → List Piece → Type 0
ArePieces rows told [] [] = Unit {0}
ArePieces rows told [] (p ∷ ps) = ⊥
ArePieces rows told (w ∷ ws) [] = ⊥
ArePieces rows told (w ∷ ws) (p ∷ ps) = IsPiece rows told w p × ArePieces rows told ws ps

-- the denominator of the factor times that of the atom
abbrev pub unit_of : Piece → ℕ
unit_of p = unsigned_abs (p.factor.den *ℤ p.den)

-- the least common multiple of a number and the units of all pieces
abbrev pub common : ℕ → List Piece → ℕ
common l [] = l
common l (p ∷ ps) = common (lcm_of l (unit_of p)) ps

-- p * (l / (q * den))
abbrev pub multiplier : ℕ → Piece → ℤ
multiplier l p = p.factor.num *ℤ pos (l / unit_of p)

abbrev pub part_of : ℕ → Piece → Part
part_of l p = record { lit = p.lit; mult = multiplier l p }

-- the parts of a leaf, in the order of the pieces
abbrev pub parts_of : List Piece → List Part
parts_of pieces = map (part_of (common 1 pieces)) pieces

-- ---- operations that pass

abbrev pub whole_pair : ℤ → Pair
whole_pair z = record { num = z; den = pos 1 }

abbrev pub result_of : Op → ℤ → ℤ → ℤ
result_of Product x y = x *ℤ y
result_of Sum x y = x +ℤ y

-- the operation of two whole numbers at this place
abbrev pub operation : Place → ℕ → ℕ → Op → ℤ → ℤ → Stuck
operation place at by op x y = record { place = place; at = at; by = by; op = op; left = whole_pair x; right = whole_pair y }

-- it overflows 128 bits
pub record IsOverflow (place : Place) (at by : ℕ) (op : Op) (x y : ℤ) (stuck : Stuck) : Type 0 where
  pub is : stuck ≡ operation place at by op x y
  pub overflows : overflows (result_of op x y) ≡ true

abbrev pub IsOverflowingProduct : Piece → ℕ → ℤ → ℤ → Stuck → Type 0
IsOverflowingProduct p position x y stuck = IsOverflow Multiplier p.lit.atom position Product x y stuck

-- q * den, or (l / gcd(l, q * den)) * (q * den) with the l of the pieces before, or p * (l / (q * den)) with the l of all
pub record IsStuckMultiplier (pieces : List Piece) (stuck : Stuck) : Type 0 where
  pub front : List Piece
  pub piece : Piece
  pub behind : List Piece
  pub all : pieces ≡ front ++ piece ∷ behind
  pub operation :
      IsOverflowingProduct piece (length front) piece.factor.den piece.den stuck
      ⊎ IsOverflowingProduct piece (length front) (pos (common 1 front / gcd_of (common 1 front) (unit_of piece))) (pos (unit_of piece)) stuck
      ⊎ IsOverflowingProduct piece (length front) piece.factor.num (pos (common 1 pieces / unit_of piece)) stuck

-- a step of a running sum: the product, or then the sum
abbrev pub IsStuckStep : ℕ → ℕ → ℤ → ℤ → ℤ → Stuck → Type 0
IsStuckStep at position sum mult number stuck =
    IsOverflow Column at position Product mult number stuck ⊎ IsOverflow Column at position Sum sum (mult *ℤ number) stuck

-- a step of the running sum of these numbers of the rows
pub record IsStuckRunning (rows : Rows) (number : LitRow → ℤ) (at : ℕ) (parts : List Part) (stuck : Stuck) : Type 0 where
  pub front : List Part
  pub part : Part
  pub behind : List Part
  pub all : parts ≡ front ++ part ∷ behind
  pub sum : ℤ
  pub runs : running_sum rows number (pos 0) front ≡ Some sum
  pub step : IsStuckStep at (length front) sum part.mult (number_in number (row_of rows part.lit)) stuck

-- a step of a leaf's sum of a column, or of its bounds, for which the number of columns stands
abbrev pub IsStuckSum : Rows → List Part → Stuck → Type 0
IsStuckSum rows parts stuck =
    ((column : ℕ) × (column < rows.columns) × IsStuckRunning rows (row_coef column) column parts stuck)
    ⊎ IsStuckRunning rows (λ row. row.bound) rows.columns parts stuck

-- an operation of the multipliers, or then of the leaf's sums
abbrev pub IsStuckLeaf : Rows → List Piece → Stuck → Type 0
IsStuckLeaf rows pieces stuck = IsStuckMultiplier pieces stuck ⊎ IsStuckSum rows (parts_of pieces) stuck

pub record IsStuckClash {F : Type 0} (value : F → ℚ) (s : State F) (stuck : Stuck) : Type 0 where
  pub weights : List Weight
  pub of_clash : AreOfClash value s weights
  pub pieces : List Piece
  pub are_pieces : ArePieces s.rows s.told weights pieces
  pub operation : IsStuckLeaf s.rows pieces stuck

-- ---- the code's steps

-- the share's literal is told, and has a bound
pub record IsTold {F : Type 0} (rows : Rows) (told : List Lit) (s : Share F) : Type 0 where
  pub within : s.tag < length told
  pub bound : IsSome (bound_of rows (lit_at told s.tag))

-- the piece of a share
abbrev pub piece_of : {F : Type 0} → (F → Ratio) → Rows → List Lit → Share F → Piece
piece_of pair rows told s = record {
  lit = lit_at told s.tag;
  factor = record { num = (pair s.mult).num; den = pos (pair s.mult).den };
  den = den_of rows (lit_at told s.tag);
}

-- the numbers of a piece are within 128 bits, and its denominators above 0
pub record IsSoundPiece (p : Piece) : Type 0 where
  pub num : IsWithin p.factor.num
  pub over : IsWithin p.factor.den
  pub over_some : pos 1 ≤ℤ p.factor.den
  pub den : IsWithin p.den
  pub den_some : pos 1 ≤ℤ p.den

abbrev pub HasSmallUnit : Piece → Type 0
HasSmallUnit p = IsWithin (p.factor.den *ℤ p.den)

-- a product of the least common multiple of l and the piece's unit overflows
abbrev pub IsStuckAfter : ℕ → Piece → ℕ → Stuck → Type 0
IsStuckAfter l p position stuck =
    IsOverflowingProduct p position p.factor.den p.den stuck
    ⊎ IsOverflowingProduct p position (pos (l / gcd_of l (unit_of p))) (pos (unit_of p)) stuck

-- p * (l / (q * den)) overflows, with this l
pub record IsStuckPart (l : ℕ) (pieces : List Piece) (stuck : Stuck) : Type 0 where
  pub front : List Piece
  pub piece : Piece
  pub behind : List Piece
  pub all : pieces ≡ front ++ piece ∷ behind
  pub operation : IsOverflowingProduct piece (length front) piece.factor.num (pos (l / unit_of piece)) stuck

-- each limit is that of a told literal, and counts
abbrev pub AreOfTold : Rows → List Lit → List Weight → Type 0
AreOfTold rows told [] = Unit {0}
AreOfTold rows told (w ∷ ws) =
    (whole (pos 0) <ℚ w.factor)
    × ((l : Lit) × ((slice_get told w.limit.tag ≡ Some l) × HasLimit rows w.limit.tag l w.limit))
    × AreOfTold rows told ws

-- the vector that is 1 at a column, and at each form the column's coefficient
abbrev pub at_column : Rows → ℕ → ℕ → ℚ
at_column rows column v = whole (coef_at column (terms_of rows v))

-- limits of told literals whose weighed sum is a contradiction
pub record IsFarkas (rows : Rows) (told : List Lit) (ws : List Weight) : Type 0 where
  pub few : length ws ≤ 2049
  pub of_told : AreOfTold rows told ws
  pub cancels : (column : ℕ) → column < rows.columns → weighed_variables ws (at_column rows column) ≡ whole (pos 0)
  pub below_zero : weighed_numbers ws <δ record { real = whole (pos 0); inf = whole (pos 0) }

-- the parts are a contradiction of the literals told and a clash of the state, and no sum overflows
pub record IsLeaf {F : Type 0} (value : F → ℚ) (s : State F) (parts : List Part) : Type 0 where
  pub few : length parts ≤ 2049
  pub contradiction : IsContradiction s.rows s.told parts
  pub fits : SumsFit s.rows parts
  pub weights : List Weight
  pub of_clash : AreOfClash value s weights
  pub literals : AreLiterals s.told weights (map (λ p. p.lit) parts)

-- the answer to a conflict
abbrev pub AnswersClash : {F : Type 0} → (F → ℚ) → State F → Heard → Type 0
AnswersClash value s heard.Fine = ⊥
AnswersClash value s (heard.Clash parts) = IsLeaf value s parts
AnswersClash value s heard.Spent = ⊥
AnswersClash value s (heard.Stuck k) = IsStuckClash value s k
AnswersClash value s heard.NoMemory = Unit {0}
