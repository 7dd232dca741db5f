-- What a comparison says, what a literal says, and the literal that a comparison becomes.
use Rattle.std.specs.Prelude.{◌≡◌, ℕ, ◌/◌, ◌^◌, ◌<◌, List, [], ◌∷◌, map, All, ℤ, pos, neg_ℤ, int_div, ◌+ℤ◌, ◌*ℤ◌, ◌≤ℤ◌, ◌<ℤ◌, unsigned_abs, Bool, true, false, not, if◌then◌else◌}
use Rattle.std.specs.Int.{◌∣◌, is_negative, is_positive}
use Rattle.whole.specs.Numbers.{gcd_of}
use Rattle.lowest_terms.specs.Coprime.{IsCoprime}
use Rattle.linear_form.specs.declared.lists.Term.{Term}
use Rattle.linear_form.specs.declared.relations.Rel.{Rel}
use Rattle.linear_form.specs.declared.relations.Rel.TheVariants.{AtMost, Below, AtLeast, Above}
use Rattle.linear_form.specs.declared.relations.Comparison.{Comparison}
use Rattle.linear_form.specs.declared.relations.Normal.{Normal}
use Rattle.linear_form.specs.declared.relations.Normal.TheVariants.{Always, Never, Bound}
use Rattle.linear_form.specs.Sums.{sum_of, coef_at}
use Rattle.linear_form.specs.Reduced.{reduced, IsReduced}

-- ---- truth: whole values of the columns over one denominator

-- a number stands so to 0
abbrev pub Related : Rel → ℤ → Type 0
Related AtMost z = z ≤ℤ pos 0
Related Below z = z <ℤ pos 0
Related AtLeast z = pos 0 ≤ℤ z
Related Above z = pos 0 <ℤ z

-- the comparison is true where each column has the value `value column / den`
abbrev pub Meets : (ℕ → ℤ) → ℕ → Comparison → Type 0
Meets value den c = Related c.rel (sum_of value c.terms +ℤ c.constant *ℤ pos den)

-- the atom is `sum <= bound`, or `sum < bound` where strict; a negative literal is its negation
abbrev pub Bounds : Bool → Bool → ℤ → ℤ → Type 0
Bounds false true sum bound = sum ≤ℤ bound
Bounds true true sum bound = sum <ℤ bound
Bounds false false sum bound = bound <ℤ sum
Bounds true false sum bound = bound ≤ℤ sum

-- the literal is true there: both sides are multiplied by the two denominators
abbrev pub MeetsNormal : (ℕ → ℤ) → ℕ → Normal → Type 0
MeetsNormal value den Always = Unit {0}
MeetsNormal value den Never = ⊥
MeetsNormal value den (Bound form num d strict positive) = Bounds strict positive (d *ℤ sum_of value form.terms) (num *ℤ pos den)

-- ---- normal form

-- d divides each coefficient
abbrev pub DividesAll : ℕ → List Term → Type 0
DividesAll d [] = Unit {0}
DividesAll d (t ∷ ts) = (d ∣ unsigned_abs t.coef) × DividesAll d ts

-- there is a first coefficient, and it is above 0
abbrev pub StartsPositive : List Term → Type 0
StartsPositive [] = ⊥
StartsPositive (t ∷ ts) = pos 0 <ℤ t.coef

-- columns ascend, no coefficient is 0, the first is above 0, and no number above 1 divides them all
pub record IsNormalForm (ts : List Term) : Type 0 where
  pub is_reduced : IsReduced ts
  pub starts_positive : StartsPositive ts
  pub primitive : (d : ℕ) → DividesAll d ts → d ≡ 1

-- a form in normal form, and a threshold in lowest terms over a denominator above 0
abbrev pub IsNormal : Normal → Type 0
IsNormal Always = Unit {0}
IsNormal Never = Unit {0}
IsNormal (Bound form num den strict positive) = IsNormalForm form.terms × (pos 1 ≤ℤ den) × IsCoprime (unsigned_abs num) (unsigned_abs den)

-- ---- the literal of a comparison

-- the sums agree up to a factor above 0, and so do the constants; the relation is one
pub record SameUpToFactor (a b : Comparison) : Type 0 where
  pub left : ℕ
  pub right : ℕ
  pub some_left : 0 < left
  pub some_right : 0 < right
  pub sums : (j : ℕ) → pos left *ℤ coef_at j a.terms ≡ pos right *ℤ coef_at j b.terms
  pub constants : pos left *ℤ a.constant ≡ pos right *ℤ b.constant
  pub rels : a.rel ≡ b.rel

-- the relation that -z has where z has this one
abbrev pub turned_if : Bool → Rel → Rel
turned_if false rel = rel
turned_if true AtMost = AtLeast
turned_if true Below = Above
turned_if true AtLeast = AtMost
turned_if true Above = Below

abbrev pub negated_if : Bool → ℤ → ℤ
negated_if false z = z
negated_if true z = neg_ℤ z

-- the greatest common divisor of a number and all coefficients
abbrev pub divisor_from : ℕ → List Term → ℕ
divisor_from g [] = g
divisor_from g (t ∷ ts) = divisor_from (gcd_of g (unsigned_abs t.coef)) ts

-- a term over a divisor, negated or not
abbrev pub quotient : Bool → ℕ → Term → Term
quotient negate g t = record { column = t.column; coef = int_div (negated_if negate t.coef) (pos g) }

-- n/d in lowest terms
abbrev pub lowest_num : ℤ → ℕ → ℤ
lowest_num n d = int_div n (pos (gcd_of (unsigned_abs n) d))

abbrev pub lowest_den : ℤ → ℕ → ℕ
lowest_den n d = d / gcd_of (unsigned_abs n) d

-- `form <= num/den`, `form < num/den`, or a negation of one of them
abbrev pub literal : Rel → List Term → ℤ → ℤ → Normal
literal AtMost form num den = Bound (record { terms = form }) num den false true
literal Below form num den = Bound (record { terms = form }) num den true true
literal Above form num den = Bound (record { terms = form }) num den false false
literal AtLeast form num den = Bound (record { terms = form }) num den true false

-- a number stands so to 0, as a test
abbrev pub is_related : Rel → ℤ → Bool
is_related AtMost z = not (is_positive z)
is_related Below z = is_negative z
is_related AtLeast z = not (is_negative z)
is_related Above z = is_positive z

-- a sum with terms over the divisor of its coefficients, against its threshold; all turned where that is asked
abbrev pub bound : Bool → List Term → ℤ → Rel → Normal
bound negate ts constant rel =
    let g = divisor_from 0 ts in
    let over = neg_ℤ (negated_if negate constant) in
    literal (turned_if negate rel) (map (quotient negate g) ts) (lowest_num over g) (pos (lowest_den over g))

-- the literal that a reduced sum with this constant becomes
abbrev pub normal : List Term → ℤ → Rel → Normal
normal [] constant rel = if is_related rel constant then Always else Never
normal (t ∷ ts) constant rel = bound (is_negative t.coef) (t ∷ ts) constant rel

unfoldable pub normal_of : Comparison → Normal
normal_of c = normal (reduced c.terms) c.constant c.rel

-- each number is below 10^16 in size
abbrev pub HasSmallNumbers : Normal → Type 0
HasSmallNumbers Always = Unit {0}
HasSmallNumbers Never = Unit {0}
HasSmallNumbers (Bound form num den strict positive) = All (λ t. unsigned_abs t.coef < 10 ^ 16) form.terms × (unsigned_abs num < 10 ^ 16) × (unsigned_abs den < 10 ^ 16)

-- each column of the form is below this number
abbrev pub HasColumnsBelow : ℕ → Normal → Type 0
HasColumnsBelow columns Always = Unit {0}
HasColumnsBelow columns Never = Unit {0}
HasColumnsBelow columns (Bound form num den strict positive) = All (λ t. t.column < columns) form.terms
