-- Whole multipliers over a common denominator turn limits whose weighed sum is a contradiction into a Farkas leaf.
use Rattle.std.proofs.Common.{◌≡◌, ℕ, zero, suc, ◌*◌, ◌/◌, ◌<◌, cond, List, [], ◌∷◌, map, length, Bool, true, false, Option, None, Some, slice_get, ◌⊎◌, inl, inr, ℤ, pos, negsuc, ◌*ℤ◌, ◌≤ℤ◌, ◌<ℤ◌, unsigned_abs, refl, sym, ap, subst, ◌∙◌, arith}
use Rattle.std.specs.Option.{IsSomeAnd, option_map_or}
use Rattle.std.specs.Int.{◌∣◌}
use Rattle.std.proofs.lemmas.Int.{ints, unsigned_abs-mul}
use Rattle.std.proofs.lemmas.Nat.Gcd.{dvd_trans, dvd_refl}
use Rattle.std.proofs.Math.Nat.{div-mul_cancel, one-le-mul}
use Rattle.std.proofs.Math.IntN.{*ℤ_comm}
use Rattle.ordered_field.specs.Rational.{ℚ, fraction, whole, by_one, by_two, ◌+ℚ◌, ◌*ℚ◌, neg_ℚ}
use Rattle.ordered_field.specs.Order.{◌<ℚ◌}
use Rattle.ordered_field.specs.Delta.{DeltaValue, ◌<δ◌}
use Rattle.ordered_field.proofs.DeltaOrder.{<δ-parts}
use Rattle.ordered_field.proofs.FieldLaws.{*ℚ_cancel}
use Rattle.ordered_field.proofs.Fractions.{whole-injective, whole-sum, whole-product, whole-neg, whole-<ℚ, <ℚ-whole, fraction-times_den}
use Rattle.ordered_field.proofs.OrderFacts.{<ℚ_irrefl, *ℚ-positive, *ℚ-<ℚ_left, neg_ℚ-zero}
use Rattle.ordered_field.proofs.Points.{equal_3, same_point}
use Rattle.ordered_field.proofs.RingLaws.{*ℚ-zero, zero-+ℚ, *ℚ-+ℚ}
use Rattle.whole.specs.Numbers.{lcm_of, gcd_of}
use Rattle.whole.proofs.Divisors.{IsLcm-lcm_of, IsGcd-gcd_of}
use Rattle.whole.proofs.Integers.{*ℤ_assoc, <ℤ_of_*ℤ}
use Rattle.linear_form.specs.Sums.{coef_at}
use Rattle.tableau.specs.Operations.{StandsFor}
use Rattle.farkas_cert.specs.declared.literals.Lit.{Lit}
use Rattle.clause_form.specs.declared.clauses.Atom.{Atom}
use Rattle.clause_form.specs.declared.clauses.Atom.TheVariants.{Row, Named}
use Rattle.clause_form.specs.Derivations.{Rows, LitRow, terms_of, row_of_atom, row_of, row_coef, number_in, coef_sum, bound_sum, Has, ArePartsOf, HasStrict, IsContradiction}
use Rattle.simplex.specs.declared.outcome.Bound.{Bound}
use Rattle.simplex.specs.Bounds.{IsLimitOf, infinitesimal_of}
use Rattle.simplex.specs.Shares.{Weight, weighed_variables, weighed_numbers}
use Rattle.simplex.proofs.BoundLaws.{positive-apart}
use Rattle.lra_theory.specs.declared.clash.Piece.{Piece}
use Rattle.lra_theory.specs.Clashes.{AreLiterals, AreOfTold, ArePieces, IsFarkas, at_column, common, multiplier, part_of, parts_of, unit_of}
use Rattle.lra_theory.specs.Literals.{bound_if, bound_of, bound_of_atom, HasLimit}
use Rattle.lra_theory.specs.Soundness.{IsGood, IsGoodBound}
use Rattle.lra_theory.specs.Totals.{signed}
use Rattle.lra_theory.proofs.GivenLaws.{bound-good}

-- ---- the row of a bound

pub row_of-bound : (rows : Rows) (l : Lit) (b : Bound) → bound_of rows l ≡ Some b → row_of rows l ≡ Some (record { terms = terms_of rows b.var; factor = signed b.upper b.den; bound = signed b.upper b.num; strict = b.strict })
row_of-bound rows l b e = by (slice_get rows.atoms l.atom) l.positive e
  where
    by : (o : Option Atom) (positive : Bool) → option_map_or (bound_of_atom positive) o None ≡ Some b → option_map_or (row_of_atom rows positive) o None ≡ Some (record { terms = terms_of rows b.var; factor = signed b.upper b.den; bound = signed b.upper b.num; strict = b.strict })
    by None positive h = absurd (cc)
    by (Some (Row form num den strict)) true h =
        let same : bound_if true form num den strict ≡ b = cc in
        ap (λ c. Some (record { terms = terms_of rows c.var; factor = signed c.upper c.den; bound = signed c.upper c.num; strict = c.strict })) same
    by (Some (Row form num den strict)) false h =
        let same : bound_if false form num den strict ≡ b = cc in
        ap (λ c. Some (record { terms = terms_of rows c.var; factor = signed c.upper c.den; bound = signed c.upper c.num; strict = c.strict })) same
    by (Some Named) positive h = absurd (cc)

pub row_of-none : (rows : Rows) (l : Lit) → bound_of rows l ≡ None → row_of rows l ≡ None
row_of-none rows l e = by (slice_get rows.atoms l.atom) l.positive e
  where
    by : (o : Option Atom) (positive : Bool) → option_map_or (bound_of_atom positive) o None ≡ None → option_map_or (row_of_atom rows positive) o None ≡ None
    by None positive h = refl
    by (Some (Row form num den strict)) positive h = absurd (cc)
    by (Some Named) true h = refl
    by (Some Named) false h = refl

-- ---- the common denominator

pub lcm_some : (a b : ℕ) → 0 < a → 0 < b → 0 < lcm_of a b
unfolding lcm_of
lcm_some a b some_a some_b =
    let left : a / gcd_of a b * gcd_of a b ≡ a = div-mul_cancel (gcd_of a b) (IsGcd-gcd_of a b).0 in
    let g : 0 < a / gcd_of a b = quotient (a / gcd_of a b) left in one-le-mul g some_b
  where
    quotient : (q : ℕ) → q * gcd_of a b ≡ a → 0 < q
    quotient zero e = absurd (omega arith)
    quotient (suc q) e = omega arith

-- each unit is above 0
abbrev pub HaveUnits : List Piece → Type 0
HaveUnits [] = Unit {0}
HaveUnits (p ∷ ps) = (0 < unit_of p) × HaveUnits ps

abbrev pub DivideInto : ℕ → List Piece → Type 0
DivideInto l [] = Unit {0}
DivideInto l (p ∷ ps) = (unit_of p ∣ l) × DivideInto l ps

pub common-multiple : (l : ℕ) (ps : List Piece) → 0 < l → HaveUnits ps → (0 < common l ps) × (l ∣ common l ps) × DivideInto (common l ps) ps
common-multiple l [] some units = (some, dvd_refl l, tt)
common-multiple l (p ∷ ps) some units =
    let step = IsLcm-lcm_of l (unit_of p) some units.0 in
    let rest = common-multiple (lcm_of l (unit_of p)) ps (lcm_some l (unit_of p) some units.0) units.1 in
    (rest.0, dvd_trans l step.0 rest.1, (dvd_trans (unit_of p) step.1 rest.1, rest.2))

-- ---- one part

-- what is known of a part: its literal's bound and limit, and that its multiplier is the weight's factor over the common
-- denominator
pub record IsScaled (rows : Rows) (told : List Lit) (l : ℕ) (w : Weight) (p : Piece) : Type 0 where
  pub told_at : slice_get told w.limit.tag ≡ Some p.lit
  pub bound : Bound
  pub of_lit : bound_of rows p.lit ≡ Some bound
  pub good : IsGoodBound rows bound
  pub is_limit : IsLimitOf bound w.limit.tag w.limit
  pub positive : whole (pos 0) <ℚ w.factor
  pub scaled : whole (multiplier l p) *ℚ whole bound.den ≡ whole (pos l) *ℚ w.factor

regroup_left : (x y z : ℚ) → (x *ℚ y) *ℚ z ≡ x *ℚ (z *ℚ y)
unfolding ◌*ℚ◌ by_two by_one
regroup_left = equal_3 (λ x y z. (x *ℚ y) *ℚ z) (λ x y z. x *ℚ (z *ℚ y)) (λ a b c. same_point _ _ (omega arith))

regroup_right : (x y z : ℚ) → (y *ℚ z) *ℚ x ≡ (x *ℚ y) *ℚ z
unfolding ◌*ℚ◌ by_two by_one
regroup_right = equal_3 (λ x y z. (y *ℚ z) *ℚ x) (λ x y z. (x *ℚ y) *ℚ z) (λ a b c. same_point _ _ (omega arith))

exchanged : (m d l f q n : ℚ) → f *ℚ q ≡ n → m *ℚ (q *ℚ d) ≡ n *ℚ l → (m *ℚ d) *ℚ q ≡ (l *ℚ f) *ℚ q
exchanged m d l f q n e h =
    regroup_left m d q ∙ h ∙ ap (λ x. x *ℚ l) (sym e) ∙ regroup_right l f q

-- p * (l / u) * u is p * l
times_unit : (n : ℤ) (l u : ℕ) → u ∣ l → n *ℤ pos (l / u) *ℤ pos u ≡ n *ℤ pos l
times_unit n l u divides = *ℤ_assoc n (pos (l / u)) (pos u) ∙ ap (λ k. n *ℤ pos k) (div-mul_cancel u divides)

-- the product of two numbers above 0 is its size
size_of_product : (a b : ℤ) → pos 1 ≤ℤ a → pos 1 ≤ℤ b → a *ℤ b ≡ pos (unsigned_abs (a *ℤ b))
size_of_product (pos a) (pos b) p q = refl
size_of_product (pos a) (negsuc b) p q = absurd (omega (arith, ints, q))
size_of_product (negsuc a) b p q = absurd (omega (arith, ints, p))

pub scaled-by : (l : ℕ) (p : Piece) (f : ℚ) → StandsFor p.factor f → pos 1 ≤ℤ p.den → unit_of p ∣ l → whole (multiplier l p) *ℚ whole p.den ≡ whole (pos l) *ℚ f
scaled-by l p f stands some divides =
    *ℚ_cancel (whole m *ℚ whole p.den) (whole (pos l) *ℚ f) (whole q) (positive-apart q over_some) (exchanged (whole m) (whole p.den) (whole (pos l)) f (whole q) (whole p.factor.num) factor_times product)
  where
    m : ℤ
    m = multiplier l p

    q : ℤ
    q = p.factor.den

    over_some : pos 1 ≤ℤ p.factor.den
    over_some = let h = stands.lowest.reduced.some in let e : p.factor.den ≡ pos stands.ratio.den = stands.den in omega (arith, ints, h, e)

    factor_times : f *ℚ whole p.factor.den ≡ whole p.factor.num
    factor_times =
        ap (λ x. x *ℚ whole p.factor.den) stands.lowest.stands ∙ ap (λ z. fraction stands.ratio.num stands.ratio.den stands.lowest.reduced.some *ℚ whole z) stands.den ∙ fraction-times_den stands.ratio.num stands.ratio.den stands.lowest.reduced.some ∙ ap whole (sym stands.num)

    product : whole m *ℚ (whole q *ℚ whole p.den) ≡ whole p.factor.num *ℚ whole (pos l)
    product =
        ap (λ x. whole m *ℚ x) (sym (whole-product q p.den)) ∙ sym (whole-product m (q *ℤ p.den)) ∙ ap (λ z. whole (m *ℤ z)) (size_of_product q p.den over_some some) ∙ ap whole (times_unit p.factor.num l (unit_of p) divides) ∙ whole-product p.factor.num (pos l)

-- ---- the sums

-- what a limit counts of a number
abbrev pub counted : Bool → ℚ → ℚ
counted upper x = cond upper x (neg_ℚ x)

whole-signed : (upper : Bool) (z : ℤ) → whole (signed upper z) ≡ counted upper (whole z)
whole-signed true z = refl
whole-signed false z = whole-neg z

assoc : (x y z : ℚ) → x *ℚ (y *ℚ z) ≡ (x *ℚ y) *ℚ z
unfolding ◌*ℚ◌ by_two by_one
assoc = equal_3 (λ x y z. x *ℚ (y *ℚ z)) (λ x y z. (x *ℚ y) *ℚ z) (λ a b c. same_point _ _ (omega arith))

left : (x y z : ℚ) → x *ℚ (neg_ℚ y *ℚ z) ≡ neg_ℚ ((x *ℚ y) *ℚ z)
unfolding ◌*ℚ◌ neg_ℚ by_two by_one
left = equal_3 (λ x y z. x *ℚ (neg_ℚ y *ℚ z)) (λ x y z. neg_ℚ ((x *ℚ y) *ℚ z)) (λ a b c. same_point _ _ (omega arith))

right : (x y z : ℚ) → x *ℚ (y *ℚ neg_ℚ z) ≡ neg_ℚ ((x *ℚ y) *ℚ z)
unfolding ◌*ℚ◌ neg_ℚ by_two by_one
right = equal_3 (λ x y z. x *ℚ (y *ℚ neg_ℚ z)) (λ x y z. neg_ℚ ((x *ℚ y) *ℚ z)) (λ a b c. same_point _ _ (omega arith))

regroup_counted : (upper : Bool) (m d l f x : ℚ) → m *ℚ d ≡ l *ℚ f → m *ℚ (counted upper d *ℚ x) ≡ l *ℚ (f *ℚ counted upper x)
regroup_counted true m d l f x e = assoc m d x ∙ ap (λ y. y *ℚ x) e ∙ sym (assoc l f x)
regroup_counted false m d l f x e = left m d x ∙ ap (λ y. neg_ℚ (y *ℚ x)) e ∙ sym (right l f x)

module _ (rows : Rows) (told : List Lit) (l : ℕ) where
  abbrev pub AreScaled : List Weight → List Piece → Type 0
  AreScaled [] [] = Unit {0}
  AreScaled [] (p ∷ ps) = ⊥
  AreScaled (w ∷ ws) [] = ⊥
  AreScaled (w ∷ ws) (p ∷ ps) = IsScaled rows told l w p × AreScaled ws ps

  -- a number of a part's row
  number-of : (number : LitRow → ℤ) (w : Weight) (p : Piece) (s : IsScaled rows told l w p) → number_in number (row_of rows p.lit) ≡ number (record { terms = terms_of rows s.bound.var; factor = signed s.bound.upper s.bound.den; bound = signed s.bound.upper s.bound.num; strict = s.bound.strict })
  number-of number w p s = ap (number_in number) (row_of-bound rows p.lit s.bound s.of_lit)

  column-of : (column : ℕ) (w : Weight) (p : Piece) → IsScaled rows told l w p → whole (multiplier l p *ℤ number_in (row_coef column) (row_of rows p.lit)) ≡ whole (pos l) *ℚ (w.factor *ℚ cond w.limit.upper (at_column rows column w.limit.var) (neg_ℚ (at_column rows column w.limit.var)))
  column-of column w p s =
      let b = s.bound in
      let c = coef_at column (terms_of rows b.var) in
      ap (λ z. whole (multiplier l p *ℤ z)) (number-of (row_coef column) w p s)
      ∙ whole-product (multiplier l p) (signed b.upper b.den *ℤ c)
      ∙ ap (λ x. whole (multiplier l p) *ℚ x) (whole-product (signed b.upper b.den) c ∙ ap (λ x. x *ℚ whole c) (whole-signed b.upper b.den))
      ∙ regroup_counted b.upper (whole (multiplier l p)) (whole b.den) (whole (pos l)) w.factor (whole c) s.scaled
      ∙ ap (λ u. whole (pos l) *ℚ (w.factor *ℚ counted u (at_column rows column b.var))) (sym s.is_limit.upper)
      ∙ ap (λ v. whole (pos l) *ℚ (w.factor *ℚ counted w.limit.upper (at_column rows column v))) (sym s.is_limit.var)

  commute : (a b c : ℚ) → a *ℚ (b *ℚ c) ≡ a *ℚ (c *ℚ b)
  unfolding ◌*ℚ◌ by_two by_one
  commute = equal_3 (λ a b c. a *ℚ (b *ℚ c)) (λ a b c. a *ℚ (c *ℚ b)) (λ a b c. same_point _ _ (omega arith))

  commute_neg : (a b c : ℚ) → a *ℚ neg_ℚ (b *ℚ c) ≡ a *ℚ (neg_ℚ c *ℚ b)
  unfolding ◌*ℚ◌ neg_ℚ by_two by_one
  commute_neg = equal_3 (λ a b c. a *ℚ neg_ℚ (b *ℚ c)) (λ a b c. a *ℚ (neg_ℚ c *ℚ b)) (λ a b c. same_point _ _ (omega arith))

  pub columns-sum : (column : ℕ) (ws : List Weight) (ps : List Piece) → AreScaled ws ps → whole (coef_sum rows column (map (part_of l) ps)) ≡ whole (pos l) *ℚ weighed_variables ws (at_column rows column)
  columns-sum column [] [] s = sym (*ℚ-zero (whole (pos l)))
  columns-sum column [] (p ∷ ps) s = absurd s
  columns-sum column (w ∷ ws) [] s = absurd s
  columns-sum column (w ∷ ws) (p ∷ ps) (s, ss) =
      whole-sum (multiplier l p *ℤ number_in (row_coef column) (row_of rows p.lit)) (coef_sum rows column (map (part_of l) ps))
      ∙ ap (λ x. x +ℚ whole (coef_sum rows column (map (part_of l) ps))) (column-of column w p s)
      ∙ ap (λ x. whole (pos l) *ℚ (w.factor *ℚ cond w.limit.upper (at_column rows column w.limit.var) (neg_ℚ (at_column rows column w.limit.var))) +ℚ x) (columns-sum column ws ps ss)
      ∙ sym (*ℚ-+ℚ (whole (pos l)) (w.factor *ℚ cond w.limit.upper (at_column rows column w.limit.var) (neg_ℚ (at_column rows column w.limit.var))) (weighed_variables ws (at_column rows column)))

  -- the multiplied number of a bound
  number-scaled : (upper : Bool) (m d f n x : ℚ) → m *ℚ d ≡ whole (pos l) *ℚ f → x *ℚ d ≡ n → m *ℚ counted upper n ≡ whole (pos l) *ℚ (f *ℚ counted upper x)
  number-scaled upper m d f n x e h =
      ap (λ y. m *ℚ counted upper y) (sym h) ∙ turn upper ∙ regroup_counted upper m d (whole (pos l)) f x e
    where
      turn : (u : Bool) → m *ℚ counted u (x *ℚ d) ≡ m *ℚ (counted u d *ℚ x)
      turn true = commute m x d
      turn false = commute_neg m x d

  real-counted : (u : Bool) (x : DeltaValue) → (cond u x (record { real = neg_ℚ x.real; inf = neg_ℚ x.inf })).real ≡ counted u x.real
  real-counted true x = refl
  real-counted false x = refl

  inf-counted : (u : Bool) (x : DeltaValue) → (cond u x (record { real = neg_ℚ x.real; inf = neg_ℚ x.inf })).inf ≡ counted u x.inf
  inf-counted true x = refl
  inf-counted false x = refl

  pub bounds-sum : (ws : List Weight) (ps : List Piece) → AreScaled ws ps → whole (bound_sum rows (map (part_of l) ps)) ≡ whole (pos l) *ℚ (weighed_numbers ws).real
  bounds-sum [] [] s = sym (*ℚ-zero (whole (pos l)))
  bounds-sum [] (p ∷ ps) s = absurd s
  bounds-sum (w ∷ ws) [] s = absurd s
  bounds-sum (w ∷ ws) (p ∷ ps) (s, ss) =
      whole-sum (multiplier l p *ℤ number_in (λ row. row.bound) (row_of rows p.lit)) (bound_sum rows (map (part_of l) ps))
      ∙ ap (λ x. x +ℚ whole (bound_sum rows (map (part_of l) ps))) own
      ∙ ap (λ x. whole (pos l) *ℚ (w.factor *ℚ (cond w.limit.upper w.limit.at (record { real = neg_ℚ w.limit.at.real; inf = neg_ℚ w.limit.at.inf })).real) +ℚ x) (bounds-sum ws ps ss)
      ∙ sym (*ℚ-+ℚ (whole (pos l)) (w.factor *ℚ (cond w.limit.upper w.limit.at (record { real = neg_ℚ w.limit.at.real; inf = neg_ℚ w.limit.at.inf })).real) (weighed_numbers ws).real)
    where
      own : whole (multiplier l p *ℤ number_in (λ row. row.bound) (row_of rows p.lit)) ≡ whole (pos l) *ℚ (w.factor *ℚ (cond w.limit.upper w.limit.at (record { real = neg_ℚ w.limit.at.real; inf = neg_ℚ w.limit.at.inf })).real)
      own =
          let b = s.bound in
          ap (λ z. whole (multiplier l p *ℤ z)) (number-of (λ row. row.bound) w p s)
          ∙ whole-product (multiplier l p) (signed b.upper b.num)
          ∙ ap (λ x. whole (multiplier l p) *ℚ x) (whole-signed b.upper b.num)
          ∙ number-scaled b.upper (whole (multiplier l p)) (whole b.den) w.factor (whole b.num) w.limit.at.real s.scaled s.is_limit.number
          ∙ ap (λ u. whole (pos l) *ℚ (w.factor *ℚ counted u w.limit.at.real)) (sym s.is_limit.upper)
          ∙ ap (λ x. whole (pos l) *ℚ (w.factor *ℚ x)) (sym (real-counted w.limit.upper w.limit.at))

  -- ---- signs

  module _ (some : 0 < l) where
    l_positive : whole (pos 0) <ℚ whole (pos l)
    l_positive = whole-<ℚ (pos 0) (pos l) (omega (arith, ints, some))

    pub mult-positive : (w : Weight) (p : Piece) → IsScaled rows told l w p → pos 0 <ℤ multiplier l p
    mult-positive w p s =
        let above : whole (pos 0) <ℚ whole (multiplier l p) *ℚ whole s.bound.den = subst (λ x. whole (pos 0) <ℚ x) (sym s.scaled) (*ℚ-positive (whole (pos l)) w.factor l_positive s.positive) in
        let product : pos 0 <ℤ (multiplier l p *ℤ s.bound.den) = <ℚ-whole (pos 0) (multiplier l p *ℤ s.bound.den) (subst (λ x. whole (pos 0) <ℚ x) (sym (whole-product (multiplier l p) s.bound.den)) above) in
        let den : pos 0 <ℤ s.bound.den = let h = s.good.some in omega (arith, ints, h) in
        <ℤ_of_*ℤ s.bound.den (pos 0) (multiplier l p) den (turned (multiplier l p) s.bound.den product)
      where
        turned : (m d : ℤ) → pos 0 <ℤ (m *ℤ d) → (d *ℤ pos 0) <ℤ (d *ℤ m)
        turned m d h =
            let e : m *ℤ d ≡ d *ℤ m = *ℤ_comm m d in
            let z : d *ℤ pos 0 ≡ pos 0 = *ℤ_comm d (pos 0) ∙ zero_times d in
            subst (λ x. x <ℤ (d *ℤ m)) (sym z) (subst (λ x. pos 0 <ℤ x) e h)
          where
            zero_times : (d : ℤ) → pos 0 *ℤ d ≡ pos 0
            zero_times d = omega (arith, ints)

    has_at : (ls : List Lit) (k : ℕ) (m : Lit) → slice_get ls k ≡ Some m → Has m ls
    has_at [] k m e = absurd (cc)
    has_at (n ∷ ns) zero m e = inl (cc)
    has_at (n ∷ ns) (suc k) m e = inr (has_at ns k m e)

    pub are_parts : (ws : List Weight) (ps : List Piece) → AreScaled ws ps → ArePartsOf rows told (map (part_of l) ps)
    are_parts [] [] s = tt
    are_parts [] (p ∷ ps) s = absurd s
    are_parts (w ∷ ws) [] s = absurd s
    are_parts (w ∷ ws) (p ∷ ps) (s, ss) = (
      (record { terms = terms_of rows s.bound.var; factor = signed s.bound.upper s.bound.den; bound = signed s.bound.upper s.bound.num; strict = s.bound.strict }, row_of-bound rows p.lit s.bound s.of_lit),
      has_at told w.limit.tag p.lit s.told_at,
      (let h = mult-positive w p s in omega (arith, ints, h)),
      are_parts ws ps ss,
    )

    none-inf : (b : Bound) → b.strict ≡ false → infinitesimal_of b ≡ whole (pos 0)
    none-inf b e = ap (λ s. cond s (cond b.upper (neg_ℚ (whole (pos 1))) (whole (pos 1))) (whole (pos 0))) e

    counted-none : (u : Bool) (x : ℚ) → x ≡ whole (pos 0) → counted u x ≡ whole (pos 0)
    counted-none true x e = e
    counted-none false x e = ap neg_ℚ e ∙ neg_ℚ-zero

    -- an infinitesimal sum below zero has a strict bound
    pub has_strict : (ws : List Weight) (ps : List Piece) → AreScaled ws ps → (weighed_numbers ws).inf <ℚ whole (pos 0) → HasStrict rows (map (part_of l) ps)
    has_strict [] [] s below = absurd (<ℚ_irrefl (whole (pos 0)) below)
    has_strict [] (p ∷ ps) s below = absurd s
    has_strict (w ∷ ws) [] s below = absurd s
    has_strict (w ∷ ws) (p ∷ ps) (s, ss) below = by (has_strict ws ps ss) s.bound.strict refl
      where
        by : ((weighed_numbers ws).inf <ℚ whole (pos 0) → HasStrict rows (map (part_of l) ps)) → (b : Bool) → s.bound.strict ≡ b → HasStrict rows (part_of l p ∷ map (part_of l) ps)
        by rest true e = inl (ap (λ o. option_map_or (λ row. row.strict) o false) (row_of-bound rows p.lit s.bound s.of_lit) ∙ e, mult-positive w p s)
        by rest false e =
            let none : w.factor *ℚ (cond w.limit.upper w.limit.at (record { real = neg_ℚ w.limit.at.real; inf = neg_ℚ w.limit.at.inf })).inf ≡ whole (pos 0) =
            ap (λ x. w.factor *ℚ x) (inf-counted w.limit.upper w.limit.at ∙ counted-none w.limit.upper w.limit.at.inf (s.is_limit.strict ∙ none-inf s.bound e)) ∙ *ℚ-zero w.factor in
            inr (rest (subst (λ x. x <ℚ whole (pos 0)) (ap (λ x. x +ℚ (weighed_numbers ws).inf) none ∙ zero-+ℚ (weighed_numbers ws).inf) below))

    pub is_contradiction : (ws : List Weight) (ps : List Piece) → AreScaled ws ps → ((column : ℕ) → column < rows.columns → weighed_variables ws (at_column rows column) ≡ whole (pos 0)) → weighed_numbers ws <δ record { real = whole (pos 0); inf = whole (pos 0) } → IsContradiction rows told (map (part_of l) ps)
    is_contradiction ws ps s cancels below = record {
      rows = are_parts ws ps s;
      columns = λ column within. whole-injective (coef_sum rows column (map (part_of l) ps)) (pos 0) (columns-sum column ws ps s ∙ ap (λ x. whole (pos l) *ℚ x) (cancels column within) ∙ *ℚ-zero (whole (pos l)));
      bound = by (<δ-parts (weighed_numbers ws) (record { real = whole (pos 0); inf = whole (pos 0) }) below).either;
    }
      where
        by : ((weighed_numbers ws).real <ℚ whole (pos 0)) ⊎ (((weighed_numbers ws).real ≡ whole (pos 0)) × ((weighed_numbers ws).inf <ℚ whole (pos 0))) → (bound_sum rows (map (part_of l) ps) <ℤ pos 0) ⊎ ((bound_sum rows (map (part_of l) ps) ≡ pos 0) × HasStrict rows (map (part_of l) ps))
        by (inl less) =
            let product : whole (pos l) *ℚ (weighed_numbers ws).real <ℚ whole (pos l) *ℚ whole (pos 0) = *ℚ-<ℚ_left (whole (pos l)) (weighed_numbers ws).real (whole (pos 0)) l_positive less in
            inl (<ℚ-whole (bound_sum rows (map (part_of l) ps)) (pos 0) (subst (λ x. x <ℚ whole (pos 0)) (sym (bounds-sum ws ps s)) (subst (λ x. whole (pos l) *ℚ (weighed_numbers ws).real <ℚ x) (*ℚ-zero (whole (pos l))) product)))
        by (inr (none, less)) = inr (
          whole-injective (bound_sum rows (map (part_of l) ps)) (pos 0) (bounds-sum ws ps s ∙ ap (λ x. whole (pos l) *ℚ x) none ∙ *ℚ-zero (whole (pos l))),
          has_strict ws ps s less,
        )

-- ---- the pieces of a clash

some_at : {A : Type 0} (P : A → Type 0) (o : Option A) → IsSomeAnd o P → (x : A) × ((o ≡ Some x) × P x)
some_at P None h = absurd h
some_at P (Some x) h = (x, (refl, h))

is_some_at : {A : Type 0} (P : A → Type 0) (o : Option A) (x : A) → o ≡ Some x → IsSomeAnd o P → P x
is_some_at P o x e h = subst (λ o'. IsSomeAnd o' P) e h

module _ (rows : Rows) (good : IsGood rows) (told : List Lit) where
  pub scaled-all : (l : ℕ) (ws : List Weight) (ps : List Piece) → AreOfTold rows told ws → ArePieces rows told ws ps → DivideInto l ps → AreScaled rows told l ws ps
  scaled-all l [] [] of are divide = tt
  scaled-all l [] (p ∷ ps) of are divide = absurd are
  scaled-all l (w ∷ ws) [] of are divide = absurd are
  scaled-all l (w ∷ ws) (p ∷ ps) (positive, (lit, (at, has)), of) (is, are) (divides, divide) = (own, scaled-all l ws ps of are divide)
    where
      same : lit ≡ p.lit
      same = let h : Some lit ≡ Some p.lit = sym at ∙ is.told_at in cc

      found : (b : Bound) × ((bound_of rows p.lit ≡ Some b) × (p.den ≡ b.den))
      found = some_at (λ b. p.den ≡ b.den) (bound_of rows p.lit) is.den

      bound : Bound
      bound = found.0

      good_bound : IsGoodBound rows found.0
      good_bound = bound-good rows good p.lit found.0 found.1.0

      own : IsScaled rows told l w p
      own = record {
        told_at = is.told_at;
        bound = found.0;
        of_lit = found.1.0;
        good = good_bound;
        is_limit = is_some_at (λ b. IsLimitOf b w.limit.tag w.limit) (bound_of rows p.lit) found.0 found.1.0 (subst (λ k. HasLimit rows w.limit.tag k w.limit) same has);
        positive = positive;
        scaled = ap (λ z. whole (multiplier l p) *ℚ whole z) (sym found.1.1) ∙ scaled-by l p w.factor is.factor (subst (λ z. pos 1 ≤ℤ z) (sym found.1.1) good_bound.some) divides;
      }

  pub have_units : (ws : List Weight) (ps : List Piece) → ArePieces rows told ws ps → HaveUnits ps
  have_units [] [] are = tt
  have_units [] (p ∷ ps) are = absurd are
  have_units (w ∷ ws) [] are = absurd are
  have_units (w ∷ ws) (p ∷ ps) (is, are) = (unit, have_units ws ps are)
    where
      found : (b : Bound) × ((bound_of rows p.lit ≡ Some b) × (p.den ≡ b.den))
      found = some_at (λ b. p.den ≡ b.den) (bound_of rows p.lit) is.den

      den_some : pos 1 ≤ℤ p.den
      den_some = subst (λ z. pos 1 ≤ℤ z) (sym found.1.1) (bound-good rows good p.lit found.0 found.1.0).some

      over_some : pos 1 ≤ℤ p.factor.den
      over_some = let h = is.factor.lowest.reduced.some in let e : p.factor.den ≡ pos is.factor.ratio.den = is.factor.den in omega (arith, ints, h, e)

      above : (z : ℤ) → pos 1 ≤ℤ z → 0 < unsigned_abs z
      above z h = omega (arith, ints, h)

      unit : 0 < unit_of p
      unit = subst (λ n. 0 < n) (sym (unsigned_abs-mul p.factor.den p.den)) (one-le-mul (above p.factor.den over_some) (above p.den den_some))

  pub literals-of : (l : ℕ) (ws : List Weight) (ps : List Piece) → ArePieces rows told ws ps → AreLiterals told ws (map (λ p. p.lit) (map (part_of l) ps))
  literals-of l [] [] are = tt
  literals-of l [] (p ∷ ps) are = absurd are
  literals-of l (w ∷ ws) [] are = absurd are
  literals-of l (w ∷ ws) (p ∷ ps) (is, are) = (is.told_at, literals-of l ws ps are)

  pub pieces-count : (l : ℕ) (ws : List Weight) (ps : List Piece) → ArePieces rows told ws ps → length (map (part_of l) ps) ≡ length ws
  pieces-count l [] [] are = refl
  pieces-count l [] (p ∷ ps) are = absurd are
  pieces-count l (w ∷ ws) [] are = absurd are
  pieces-count l (w ∷ ws) (p ∷ ps) (is, are) = ap (λ n. suc n) (pieces-count l ws ps are)

  pub contradiction-of : (ws : List Weight) (ps : List Piece) → IsFarkas rows told ws → ArePieces rows told ws ps → IsContradiction rows told (parts_of ps)
  contradiction-of ws ps farkas are =
      let multiple = common-multiple 1 ps (omega arith) (have_units ws ps are) in
      is_contradiction rows told (common 1 ps) multiple.0 ws ps (scaled-all (common 1 ps) ws ps farkas.of_told are multiple.2) farkas.cancels farkas.below_zero
