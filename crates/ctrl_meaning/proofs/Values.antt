-- The weighed sums, multiplied up to the common denominator, are the values.
use Rattle.claims.specs.Subjects.{in_run}
use Rattle.std.proofs.Common.{◌≡◌, ℕ, ◌*◌, ◌<◌, ◌≤◌, ℤ, pos, ◌+ℤ◌, ◌-ℤ◌, ◌*ℤ◌, neg_ℤ, List, [], ◌∷◌, sym, ◌∙◌, ap, arith}
use Rattle.std.specs.Int.{◌∣◌}
use Rattle.std.specs.Prelude.{All}
use Rattle.std.proofs.lemmas.Int.{ints}
use Rattle.std.proofs.lemmas.Nat.Gcd.{dvd_trans, dvd_refl}
use Rattle.std.proofs.lemmas.List.Elements.{All-head, All-tail}
use Rattle.whole.proofs.Integers.{*ℤ-+ℤ, *ℤ_assoc, *ℤ-neg_ℤ, neg_ℤ-*ℤ}
use Rattle.weighing.specs.Claim.{total}
use Rattle.weighing.specs.Scaled.{common, den_of, scaled}
use Rattle.weighing.specs.declared.scales.Side.TheVariants.{Left, Right}
use Rattle.run_rows.specs.declared.rows.Run.{Run}
use Rattle.path_server.proofs.Totals.{total-append}
use Rattle.claim_values.specs.Values.{number}
use Rattle.claim_values.proofs.Scales.{is_common, some_den}
use Rattle.claim_values.proofs.ValueLaws.{number_scaled}
use Rattle.ctrl_types.specs.declared.expressions.LinTerm.{LinTerm}
use Rattle.ctrl_types.specs.declared.expressions.Source.{Source}
use Rattle.ctrl_types.specs.declared.expressions.Source.TheVariants.{One, State, Acked, Lost}
use Rattle.ctrl_meaning.specs.Expressions.{IsTerm, lin_terms, scale_with, source_terms, term_terms}
use Rattle.ctrl_meaning.specs.Meaning.{amount, value}
use Rattle.ctrl_meaning.specs.declared.readings.ReadPoint.{ReadPoint}

difference : (k x y : ℤ) → k *ℤ x +ℤ (neg_ℤ k *ℤ y +ℤ pos 0) ≡ k *ℤ (x -ℤ y)
difference k x y =
    let split = *ℤ-+ℤ k x (neg_ℤ y) in
    let one = neg_ℤ-*ℤ k y in
    let two = *ℤ-neg_ℤ k y in omega (arith, ints)

plus_none : (x : ℤ) → x +ℤ pos 0 ≡ x
plus_none x = omega (arith, ints)

-- a term is its factor times what it is taken of
source_total : (r : Run) (at : ReadPoint) (k : ℤ) (of : Source) → total (source_terms (in_run r) at k of) ≡ k *ℤ amount r at of
source_total r at k One = plus_none _
source_total r at k (State j) = plus_none _
source_total r at k Acked = difference k _ _
source_total r at k Lost = difference k _ _

-- the terms of the right side are those of the left side with their signs turned
pub right_total : (r : Run) (at : ReadPoint) (m : ℕ) (ts : List LinTerm)
    → total (lin_terms (in_run r) at Right m ts) ≡ neg_ℤ (total (lin_terms (in_run r) at Left m ts))
right_total r at m [] = omega (arith, ints)
right_total r at m (t ∷ ts) =
    let k : ℤ = scaled Left m t.coef in
    let joined = total-append (term_terms (in_run r) at Right m t) (lin_terms (in_run r) at Right m ts) in
    let joined' = total-append (term_terms (in_run r) at Left m t) (lin_terms (in_run r) at Left m ts) in
    let here = source_total r at (neg_ℤ k) t.of in
    let here' = source_total r at k t.of in
    let turned = neg_ℤ-*ℤ k (amount r at t.of) in
    let rest = right_total r at m ts in
    omega (arith, ints, joined, joined', here, here', turned, rest)

-- each denominator divides the scale
abbrev pub AreScaled : ℕ → List LinTerm → Type 0
AreScaled m [] = Unit {0}
AreScaled m (t ∷ ts) = (0 < den_of t.coef) × (den_of t.coef ∣ m) × AreScaled m ts

-- the left side's terms, multiplied up
pub left_value : (r : Run) (at : ReadPoint) (k m : ℕ) (ts : List LinTerm) → AreScaled m ts
    → pos k *ℤ total (lin_terms (in_run r) at Left m ts) ≡ value r at (k * m) ts
left_value r at k m [] each = omega (arith, ints)
left_value r at k m (t ∷ ts) each =
    let a : ℤ = amount r at t.of in
    let n : ℤ = number m t.coef in
    ap (λ z. pos k *ℤ z) (total-append (term_terms (in_run r) at Left m t) (lin_terms (in_run r) at Left m ts))
    ∙ *ℤ-+ℤ (pos k) (total (term_terms (in_run r) at Left m t)) (total (lin_terms (in_run r) at Left m ts))
    ∙ ap (λ z. pos k *ℤ z +ℤ pos k *ℤ total (lin_terms (in_run r) at Left m ts)) (source_total r at n t.of)
    ∙ ap (λ z. z +ℤ pos k *ℤ total (lin_terms (in_run r) at Left m ts)) (sym (*ℤ_assoc (pos k) n a) ∙ ap (λ z. z *ℤ a) (number_scaled k m t.coef each.0 each.1))
    ∙ ap (λ z. number (k * m) t.coef *ℤ a +ℤ z) (left_value r at k m ts each.2)

-- and those of the right side
pub right_value : (r : Run) (at : ReadPoint) (k m : ℕ) (ts : List LinTerm) → AreScaled m ts
    → pos k *ℤ total (lin_terms (in_run r) at Right m ts) ≡ neg_ℤ (value r at (k * m) ts)
right_value r at k m ts each =
    ap (λ z. pos k *ℤ z) (right_total r at m ts)
    ∙ *ℤ-neg_ℤ (pos k) (total (lin_terms (in_run r) at Left m ts))
    ∙ ap neg_ℤ (left_value r at k m ts each)

-- a scale is a multiple of what it began with and of each denominator
pub record IsScale (s : ℕ) (ts : List LinTerm) : Type 0 where
  pub some : 1 ≤ scale_with s ts
  pub of_start : s ∣ scale_with s ts
  pub of_terms : AreScaled (scale_with s ts) ts

pub is_scale : (n s : ℕ) (ts : List LinTerm) → 1 ≤ s → All (IsTerm n) ts → IsScale s ts
is_scale n s [] from each = record { some = from; of_start = dvd_refl s; of_terms = tt }
is_scale n s (t ∷ ts) from each =
    let term = All-head (IsTerm n) t ts each in
    let here = is_common s t.coef from term.coef_in in
    let rest = is_scale n (common s t.coef) ts here.some (All-tail (IsTerm n) t ts each) in
    record {
      some = rest.some;
      of_start = dvd_trans s here.of_scale rest.of_start;
      of_terms = (some_den t.coef term.coef_in, dvd_trans (den_of t.coef) here.of_den rest.of_start, rest.of_terms);
    }

-- a scale divides each multiple of what it began with and of each denominator
pub scale_divides : (n s d : ℕ) (ts : List LinTerm) → 1 ≤ s → All (IsTerm n) ts → s ∣ d → AreScaled d ts → scale_with s ts ∣ d
scale_divides n s d [] from each start scaled = start
scale_divides n s d (t ∷ ts) from each start scaled =
    let here = is_common s t.coef from (All-head (IsTerm n) t ts each).coef_in in
    scale_divides n (common s t.coef) d ts here.some (All-tail (IsTerm n) t ts each) (here.least d start scaled.1) scaled.2

-- what is scaled by a number is scaled by its multiples
pub scaled_more : (m d : ℕ) (ts : List LinTerm) → m ∣ d → AreScaled m ts → AreScaled d ts
scaled_more m d [] more each = tt
scaled_more m d (t ∷ ts) more each = (each.0, dvd_trans (den_of t.coef) each.1 more, scaled_more m d ts more each.2)
