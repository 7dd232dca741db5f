-- What is claimed of guards, states and arrivals, and what it means.
use Rattle.claims.specs.Subjects.{in_run}
use Rattle.std.proofs.Common.{◌≡◌, ℕ, zero, suc, ◌*◌, ◌-◌, ◌/◌, ◌<◌, ℤ, pos, negsuc, neg_ℤ, ◌+ℤ◌, ◌-ℤ◌, ◌*ℤ◌, ◌≤ℤ◌, ◌<ℤ◌, Option, Some, None, ◌++◌, sym, ◌∙◌, ap, subst, arith}
use Rattle.std.specs.Int.{◌∣◌}
use Rattle.std.proofs.lemmas.Int.{ints}
use Rattle.std.proofs.Math.Nat.{div-mul_cancel}
use Rattle.whole.proofs.Integers.{*ℤ-+ℤ, *ℤ_assoc}
use Rattle.weighing.specs.Claim.{Holds, total}
use Rattle.weighing.specs.declared.scales.Side.TheVariants.{Left, Right}
use Rattle.weighing.specs.declared.weighings.Rel5.{Rel5}
use Rattle.weighing.specs.declared.weighings.Rel5.TheVariants.{Equal}
use Rattle.run_rows.specs.Runs.{arrived, lost, served, state_of}
use Rattle.run_rows.specs.declared.rows.Run.{Run}
use Rattle.path_server.proofs.RuleLaws.{Means}
use Rattle.path_server.proofs.Totals.{total-append}
use Rattle.claim_values.specs.Values.{Compares}
use Rattle.claim_values.proofs.ClaimLists.{both_mean, either_means}
use Rattle.claim_values.proofs.ValueLaws.{stands_means}
use Rattle.ctrl_types.specs.Limits.{OptionalLin}
use Rattle.ctrl_types.specs.Tests.{EachExpr, Test, end_of_all, all_of, always, leaf, compares, never, end_of_any, any_of, opposite, delayed}
use Rattle.ctrl_types.specs.declared.expressions.Lin.{Lin}
use Rattle.ctrl_meaning.specs.Expressions.{comparison_claim, lin_terms, scale_of_two, scale_with}
use Rattle.ctrl_meaning.specs.Guards.{test_claim}
use Rattle.ctrl_meaning.specs.Meaning.{HasValue, IsTrueAt, value}
use Rattle.ctrl_meaning.specs.Readings.{states_at}
use Rattle.ctrl_meaning.specs.Steps.{set_claim}
use Rattle.ctrl_meaning.specs.declared.readings.ReadPoint.{ReadPoint}
use Rattle.ctrl_meaning.proofs.Readiness.{IsReady, one_divides, two_divide}
use Rattle.ctrl_meaning.proofs.Values.{is_scale, left_value, right_value, scaled_more}

-- by what a scale is multiplied to give the common denominator
pub record IsFactor (d m k : ℕ) : Type 0 where
  pub some : pos 0 <ℤ pos k
  pub whole : k * m ≡ d

above_zero : (k m d : ℕ) → k * m ≡ d → 0 < d → 0 < k
above_zero zero m d is some = absurd (omega (arith, is))
above_zero (suc k) m d is some = omega arith

pub factor_of : (d m : ℕ) → 0 < d → m ∣ d → IsFactor d m (d / m)
factor_of d m some divides =
    let whole : d / m * m ≡ d = div-mul_cancel m divides in
    let least : 0 < d / m = above_zero (d / m) m d whole some in
    record { some = omega (arith, ints); whole = whole }

joined : (k x y u v : ℤ) → k *ℤ x ≡ u → k *ℤ y ≡ neg_ℤ v → k *ℤ (x +ℤ y) ≡ u -ℤ v
joined k x y u v one two = let split = *ℤ-+ℤ k x y in omega (arith, ints)

-- the sum of a written comparison, multiplied up, is the difference of the values of its sides
comparison_value : (r : Run) (at : ReadPoint) (d : ℕ) (left right : Lin) → 0 < d → IsReady r at d left → IsReady r at d right
    → pos (d / scale_of_two left right) *ℤ total (lin_terms (in_run r) at Left (scale_of_two left right) left.terms
    ++ lin_terms (in_run r) at Right (scale_of_two left right) right.terms)
    ≡ value r at d left.terms -ℤ value r at d right.terms
comparison_value r at d left right some one two =
    let n : ℕ = states_at r at in
    let m : ℕ = scale_of_two left right in
    let k : ℕ = d / m in
    let factor = factor_of d m some (two_divide r at d left right one two) in
    let first = is_scale n 1 left.terms (omega arith) one.terms_in in
    let second = is_scale n (scale_with 1 left.terms) right.terms first.some two.terms_in in
    let lefts = left_value r at k m left.terms (scaled_more (scale_with 1 left.terms) m left.terms second.of_start first.of_terms) in
    let rights = right_value r at k m right.terms second.of_terms in
    subst (λ e. pos k *ℤ total (lin_terms (in_run r) at Left m left.terms ++ lin_terms (in_run r) at Right m right.terms)
    ≡ value r at e left.terms -ℤ value r at e right.terms) factor.whole
    (ap (λ z. pos k *ℤ z) (total-append (lin_terms (in_run r) at Left m left.terms) (lin_terms (in_run r) at Right m right.terms))
    ∙ joined (pos k) (total (lin_terms (in_run r) at Left m left.terms)) (total (lin_terms (in_run r) at Right m right.terms))
    (value r at (k * m) left.terms) (value r at (k * m) right.terms) lefts rights)

comparison_means : (r : Run) (at : ReadPoint) (d : ℕ) (left : Lin) (rel : Rel5) (right : Lin) → 0 < d → IsReady r at d left → IsReady r at d right
    → Means (Holds (leaf (comparison_claim (in_run r) at left rel right))) (Compares rel (value r at d left.terms) (value r at d right.terms))
comparison_means r at d left rel right some one two =
    let m : ℕ = scale_of_two left right in
    stands_means rel (pos (d / m)) (total (lin_terms (in_run r) at Left m left.terms ++ lin_terms (in_run r) at Right m right.terms))
    (value r at d left.terms) (value r at d right.terms) (factor_of d m some (two_divide r at d left right one two)).some
    (comparison_value r at d left right some one two)

delay_stands : (a l s : ℤ) → Means (pos 0 ≤ℤ (pos 1 *ℤ a +ℤ (negsuc 0 *ℤ l +ℤ (negsuc 0 *ℤ s +ℤ pos 0)))) (s ≤ℤ (a -ℤ l))
delay_stands a l s = (λ h. omega (arith, ints), λ h. omega (arith, ints))

-- a condition's claim holds exactly where the condition is true
pub test_means : (r : Run) (at : ReadPoint) (d : ℕ) (t : Test) → 0 < d → EachExpr (IsReady r at d) t
    → Means (Holds (test_claim (in_run r) at t)) (IsTrueAt r at d t)
test_means r at d always some ready = (λ h. tt, λ h. tt)
test_means r at d never some ready = (λ h. h, λ h. h)
test_means r at d (leaf (compares left rel right)) some ready = comparison_means r at d left rel right some ready.0 ready.1
test_means r at d (leaf (delayed k)) some ready =
    delay_stands (arrived r (at.heard - k) at.flow) (lost r (at.heard - k) at.flow) (served r at.heard at.flow)
test_means r at d (opposite t) some ready =
    let inner = test_means r at d t some ready in (λ h p. h (inner.1 p), λ h p. h (inner.0 p))
test_means r at d end_of_all some ready = (λ h. tt, λ h. tt)
test_means r at d (all_of t rest) some ready =
    both_mean (Holds (test_claim (in_run r) at t)) (IsTrueAt r at d t) (Holds (test_claim (in_run r) at rest)) (IsTrueAt r at d rest)
    (test_means r at d t some ready.0) (test_means r at d rest some ready.1)
test_means r at d end_of_any some ready = (λ h. h, λ h. h)
test_means r at d (any_of t rest) some ready =
    either_means (Holds (test_claim (in_run r) at t)) (IsTrueAt r at d t) (Holds (test_claim (in_run r) at rest)) (IsTrueAt r at d rest)
    (test_means r at d t some ready.0) (test_means r at d rest some ready.1)

same_stands : (x y : ℤ) → Means (pos 1 *ℤ x +ℤ (negsuc 0 *ℤ y +ℤ pos 0) ≡ pos 0) (x ≡ y)
same_stands x y = (λ h. omega (arith, ints), λ h. omega (arith, ints))

-- the sum of m entries and of the right side's terms, multiplied up
pub over_value : (r : Run) (at : ReadPoint) (d : ℕ) (lin : Lin) (x : ℤ) → 0 < d → IsReady r at d lin
    → pos (d / scale_with 1 lin.terms) *ℤ (pos (scale_with 1 lin.terms) *ℤ x +ℤ total (lin_terms (in_run r) at Right (scale_with 1 lin.terms) lin.terms))
    ≡ pos d *ℤ x -ℤ value r at d lin.terms
over_value r at d lin x some ready =
    let m : ℕ = scale_with 1 lin.terms in
    let k : ℕ = d / m in
    let factor = factor_of d m some (one_divides r at d lin ready) in
    let scale = is_scale (states_at r at) 1 lin.terms (omega arith) ready.terms_in in
    subst (λ e. pos k *ℤ (pos m *ℤ x +ℤ total (lin_terms (in_run r) at Right m lin.terms)) ≡ pos e *ℤ x -ℤ value r at e lin.terms) factor.whole
    (joined (pos k) (pos m *ℤ x) (total (lin_terms (in_run r) at Right m lin.terms)) (pos (k * m) *ℤ x) (value r at (k * m) lin.terms)
    (sym (*ℤ_assoc (pos k) (pos m) x)) (right_value r at k m lin.terms scale.of_terms))

-- what is claimed of a state holds exactly where it has its value
pub set_means : (r : Run) (at : ReadPoint) (d j : ℕ) (o : Option Lin) → 0 < d → OptionalLin (IsReady r at d) o
    → Means (Holds (set_claim (in_run r) at j o)) (HasValue r at d j o)
set_means r at d j None some ready = same_stands (state_of r at.row at.flow j) (state_of r at.states at.flow j)
set_means r at d j (Some lin) some ready =
    let m : ℕ = scale_with 1 lin.terms in
    let x : ℤ = state_of r at.row at.flow j in
    stands_means Equal (pos (d / m)) (pos m *ℤ x +ℤ total (lin_terms (in_run r) at Right m lin.terms)) (pos d *ℤ x) (value r at d lin.terms)
    (factor_of d m some (one_divides r at d lin ready)).some (over_value r at d lin x some ready)
