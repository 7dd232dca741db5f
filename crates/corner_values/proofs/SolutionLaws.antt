-- The values over one denominator meet the rows, and keep the limits.
use Rattle.std.proofs.Common.{◌≡◌, ℕ, ◌*◌, ◌/◌, ◌<◌, Bool, true, false, List, [], ◌∷◌, zero, suc, length, map, Option, None, Some, option_map, ℤ, pos, ◌*ℤ◌, refl, sym, ap, subst, ◌∙◌, arith}
use Rattle.std.specs.Option.{IfSome}
use Rattle.std.specs.List.{All, slice_get}
use Rattle.std.specs.Int.{◌∣◌}
use Rattle.std.proofs.Math.Nat.{div-mul_cancel}
use Rattle.std.proofs.lemmas.Int.{ints}
use Rattle.std.proofs.lemmas.List.{length-map}
use Rattle.std.proofs.lemmas.Option.{slice_get-map, slice_get_within, get_or_from_slice_get}
use Rattle.ordered_field.specs.Rational.{ℚ, fraction, whole, ◌+ℚ◌, ◌*ℚ◌}
use Rattle.ordered_field.specs.Order.{◌≤ℚ◌, ◌<ℚ◌}
use Rattle.ordered_field.specs.Delta.{DeltaValue, delta_at, ◌≤δ◌}
use Rattle.ordered_field.specs.LowestTerms.{Ratio, InLowestTerms, numerator_over}
use Rattle.ordered_field.proofs.RingLaws.{*ℚ_comm, *ℚ_assoc, *ℚ-+ℚ}
use Rattle.ordered_field.proofs.Fractions.{fraction-times_den, whole-product}
use Rattle.field_rows.specs.Sums.{sum_below}
use Rattle.field_rows.specs.Rows.{row_value}
use Rattle.field_rows.proofs.SumLaws.{sum_below-same, sum_below-+ℚ, sum_below-scaled}
use Rattle.tableau.specs.Tables.{variables, entry, Meets}
use Rattle.simplex.specs.declared.limits.Limit.{Limit}
use Rattle.simplex.specs.Corners.{Corner, IsCorner}
use Rattle.simplex.specs.Limits.{in_force, IsWithin}
use Rattle.simplex.specs.InForce.{number_in_force}
use Rattle.corner_values.specs.Epsilon.{MeetAt, IsEpsilon}
use Rattle.corner_values.specs.Scale.{AreInLowestTerms, IsScale, numerators}
use Rattle.corner_values.specs.Values.{value_at, AreValuesAt, IsAtLeast, IsAtMost, IsSolution}
use Rattle.corner_values.proofs.MeetingLaws.{order_kept, at_least_by, at_most_by}
use Rattle.corner_values.proofs.EpsilonLaws.{epsilon-positive}

-- ---- rows

term_at : (a r i e : ℚ) → a *ℚ r +ℚ e *ℚ (a *ℚ i) ≡ a *ℚ (r +ℚ i *ℚ e)
term_at a r i e =
    ap (λ w. a *ℚ r +ℚ w) (*ℚ_comm e (a *ℚ i) ∙ *ℚ_assoc a i e) ∙ sym (*ℚ-+ℚ a r (i *ℚ e))

row_value_at : (n : ℕ) (c r i : ℕ → ℚ) (e : ℚ) → row_value n c r +ℚ row_value n c i *ℚ e ≡ row_value n c (λ k. r k +ℚ i k *ℚ e)
row_value_at n c r i e =
    ap (λ w. row_value n c r +ℚ w) (*ℚ_comm _ e ∙ sym (sum_below-scaled n e (λ k. c k *ℚ i k)))
    ∙ sym (sum_below-+ℚ n (λ k. c k *ℚ r k) (λ k. e *ℚ (c k *ℚ i k)))
    ∙ sum_below-same n _ _ (λ k _. term_at (c k) (r k) (i k) e)

pub meets_at : {F : Type 0} (value : F → ℚ) (c : Corner F) (e : ℚ) → IsCorner value c → Meets value c.table (value_at c e)
unfolding Meets
meets_at value c e corner b basic =
    ap (λ w. w +ℚ (c.value b).inf *ℚ e) (corner.real b basic)
    ∙ ap (λ w. row_value (variables c.table) (entry value c.table b) (λ v. (c.value v).real) +ℚ w *ℚ e) (corner.inf b basic)
    ∙ row_value_at (variables c.table) (entry value c.table b) (λ v. (c.value v).real) (λ v. (c.value v).inf) e

-- ---- columns

times_scale : (p : Ratio) (x : ℚ) (l : ℕ) → InLowestTerms p x → p.den ∣ l → x *ℚ whole (pos l) ≡ whole (numerator_over l p)
times_scale p x l lowest divides =
    let k : ℕ = l / p.den in
    let parted : whole (pos l) ≡ whole (pos p.den) *ℚ whole (pos k) =
    ap (λ j. whole (pos j)) (sym (div-mul_cancel p.den divides)) ∙ whole-product (pos k) (pos p.den) ∙ *ℚ_comm (whole (pos k)) (whole (pos p.den)) in
    let cancelled : x *ℚ whole (pos p.den) ≡ whole p.num =
    ap (λ y. y *ℚ whole (pos p.den)) lowest.stands ∙ fraction-times_den p.num p.den lowest.reduced.some in
    ap (λ w. x *ℚ w) parted ∙ sym (*ℚ_assoc x (whole (pos p.den)) (whole (pos k)))
    ∙ ap (λ w. w *ℚ whole (pos k)) cancelled ∙ sym (whole-product p.num (pos k))

all_at : (Q : Ratio → Type 0) (ps : List Ratio) (j : ℕ) (p : Ratio) → slice_get ps j ≡ Some p → All Q ps → Q p
all_at Q ps j p e h = subst Q (get_or_from_slice_get ps j p p e) (h j p (slice_get_within ps j p e))

pub columns_at : (n : ℕ) (x : ℕ → ℚ) (ps : List Ratio) (l : ℕ) → AreInLowestTerms n x ps → IsScale ps l → (j : ℕ) (z : ℤ) → slice_get (numerators l ps) j ≡ Some z → x j *ℚ whole (pos l) ≡ whole z
columns_at n x ps l lowest scale j z e = by (slice_get ps j) refl (sym (slice_get-map (numerator_over l) ps j) ∙ e)
  where
    by : (o : Option Ratio) → slice_get ps j ≡ o → option_map (numerator_over l) o ≡ Some z → x j *ℚ whole (pos l) ≡ whole z
    by None f g = absurd (cc)
    by (Some p) f g =
        let same : numerator_over l p ≡ z = cc in
        times_scale p (x j) l (lowest.each j p f) (all_at (λ q. q.den ∣ l) ps j p f scale.multiple) ∙ ap whole same

-- ---- limits

if_some-mapped : {A B : Type 0} (f : A → B) (P : B → Type 0) (o : Option A) → ((x : A) → o ≡ Some x → P (f x)) → IfSome (option_map f o) P
if_some-mapped f P None each = tt
if_some-mapped f P (Some x) each = each x refl

if_some-at : {A : Type 0} (P : A → Type 0) (o : Option A) (x : A) → o ≡ Some x → IfSome o P → P x
if_some-at P o x e h = subst (λ o'. IfSome o' P) e h

pub lower_kept : {F : Type 0} (c : Corner F) (e : ℚ) (v : ℕ) → IsEpsilon c e → v < variables c.table → IsWithin c.limits v (c.value v) → IfSome (number_in_force false v c.limits) (IsAtLeast (value_at c e v))
lower_kept c e v is inside within = if_some-mapped (λ l. l.at) (IsAtLeast (value_at c e v)) (in_force false v c.limits) (λ l f. at l f)
  where
    at : (l : Limit DeltaValue) → in_force false v c.limits ≡ Some l → IsAtLeast (value_at c e v) l.at
    at l f =
        at_least_by (value_at c e v) e l.at (epsilon-positive c e is)
        (order_kept l.at (c.value v) e (if_some-at (λ m. m.at ≤δ c.value v) _ l f within.lower) (epsilon-positive c e is)
        (λ q meet. is.below q (record {
          variable = v;
          within = inside;
          upper = false;
          quotient = record { lesser = l.at; greater = c.value v; orders = (ap (option_map (λ m. m.at)) f, refl); meet = meet };
        })))

pub upper_kept : {F : Type 0} (c : Corner F) (e : ℚ) (v : ℕ) → IsEpsilon c e → v < variables c.table → IsWithin c.limits v (c.value v) → IfSome (number_in_force true v c.limits) (IsAtMost (value_at c e v))
upper_kept c e v is inside within = if_some-mapped (λ l. l.at) (IsAtMost (value_at c e v)) (in_force true v c.limits) (λ l f. at l f)
  where
    at : (l : Limit DeltaValue) → in_force true v c.limits ≡ Some l → IsAtMost (value_at c e v) l.at
    at l f =
        at_most_by (value_at c e v) e l.at (epsilon-positive c e is)
        (order_kept (c.value v) l.at e (if_some-at (λ m. c.value v ≤δ m.at) _ l f within.upper) (epsilon-positive c e is)
        (λ q meet. is.below q (record {
          variable = v;
          within = inside;
          upper = true;
          quotient = record { lesser = c.value v; greater = l.at; orders = (refl, ap (option_map (λ m. m.at)) f); meet = meet };
        })))

-- ---- all of it

pub solution_at : {F : Type 0} (value : F → ℚ) (c : Corner F) (over : ℤ) (values : List ℤ) → IsCorner value c → ((v : ℕ) → v < variables c.table → IsWithin c.limits v (c.value v)) → AreValuesAt c over values → IsSolution value c over values
solution_at value c over values corner within are = record {
  of_variable = value_at c are.epsilon;
  count = ap length are.over_scale.values_are ∙ length-map are.lowest (numerator_over are.over_scale.scale) ∙ are.in_lowest_terms.count;
  columns = λ j z e. ap (λ w. value_at c are.epsilon j *ℚ whole w) are.over_scale.over_is ∙ columns_at c.table.columns (value_at c are.epsilon) are.lowest are.over_scale.scale are.in_lowest_terms are.over_scale.is_scale j z (ap (λ zs. slice_get zs j) (sym are.over_scale.values_are) ∙ e);
  rows = meets_at value c are.epsilon corner;
  lower = λ v inside. lower_kept c are.epsilon v are.is_epsilon inside (within v inside);
  upper = λ v inside. upper_kept c are.epsilon v are.is_epsilon inside (within v inside);
}
