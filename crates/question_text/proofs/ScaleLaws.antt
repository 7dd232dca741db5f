-- A comparison holds at each common multiple of its denominators where it holds at the least.
use Rattle.std.proofs.Common.{◌≡◌, ◌↔◌, ℕ, zero, suc, ◌*◌, ◌/◌, ◌≤◌, ℤ, pos, ◌+ℤ◌, ◌-ℤ◌, ◌*ℤ◌, ◌<ℤ◌, List, [], ◌∷◌, sym, ◌∙◌, ap, subst, arith}
use Rattle.std.specs.Prelude.{All}
use Rattle.std.proofs.lemmas.Int.{ints}
use Rattle.std.proofs.lemmas.List.Elements.{All-head, All-tail}
use Rattle.std.proofs.Math.Nat.{div-mul_cancel}
use Rattle.whole.proofs.Integers.{*ℤ-+ℤ, *ℤ_assoc}
use Rattle.weighing.specs.declared.weighings.Rel5.{Rel5}
use Rattle.run_rows.specs.declared.rows.Run.{Run}
use Rattle.claim_values.specs.Values.{Compares, number}
use Rattle.claim_values.proofs.Scales.{some_den}
use Rattle.claim_values.proofs.ValueLaws.{number_scaled, stands_means}
use Rattle.question_text.specs.Conditions.{compares}
use Rattle.question_text.specs.Expressions.{AreCleared, Divides, HasNum, scale_of_two}
use Rattle.question_text.specs.Meaning.{ComparisonHolds, value}
use Rattle.question_text.specs.NameMeanings.{amount}
use Rattle.question_text.specs.declared.conditions.QLin.{QLin}
use Rattle.question_text.specs.declared.conditions.QTerm.{QTerm}
use Rattle.question_text.specs.declared.names.Rows.{Rows}
use Rattle.question_text.proofs.Scales.{least_scale}

-- at k times a scale a value is k times as great
value_scaled : (r : Run) (at : Rows) (k s : ℕ) (ts : List QTerm) → All HasNum ts → AreCleared s ts
    → pos k *ℤ value r at s ts ≡ value r at (k * s) ts
value_scaled r at k s [] nums cleared = omega (arith, ints)
value_scaled r at k s (t ∷ ts) nums cleared =
    let n : ℤ = number s t.coef in
    let a : ℤ = amount r at t.of in
    *ℤ-+ℤ (pos k) (n *ℤ a) (value r at s ts)
    ∙ ap (λ z. z +ℤ pos k *ℤ value r at s ts)
    (sym (*ℤ_assoc (pos k) n a)
    ∙ ap (λ z. z *ℤ a) (number_scaled k s t.coef (some_den t.coef (All-head HasNum t ts nums)) (All-head (Divides s) t ts cleared)))
    ∙ ap (λ z. number (k * s) t.coef *ℤ a +ℤ z) (value_scaled r at k s ts (All-tail HasNum t ts nums) (All-tail (Divides s) t ts cleared))

-- the relation of two numbers is that of their positive multiples
compared_scaled : (rel : Rel5) (k x y : ℤ) → pos 0 <ℤ k → Compares rel x y ↔ Compares rel (k *ℤ x) (k *ℤ y)
compared_scaled rel k x y some =
    let once = stands_means rel (pos 1) (x -ℤ y) x y (omega (arith, ints)) (omega (arith, ints)) in
    let turned = *ℤ-minus k x y in
    let often = stands_means rel k (x -ℤ y) (k *ℤ x) (k *ℤ y) some turned in
    ((λ h. often.0 (once.1 h)), (λ h. once.0 (often.1 h)))
  where
    *ℤ-minus : (k x y : ℤ) → k *ℤ (x -ℤ y) ≡ k *ℤ x -ℤ k *ℤ y
    *ℤ-minus k x y = let split = *ℤ-+ℤ k (x -ℤ y) y in let whole : x -ℤ y +ℤ y ≡ x = omega (arith, ints) in
        let same : k *ℤ (x -ℤ y +ℤ y) ≡ k *ℤ x = ap (λ z. k *ℤ z) whole in omega (arith, ints)

some_times : (k s m : ℕ) → k * s ≡ m → 1 ≤ m → pos 0 <ℤ pos k
some_times zero s m is some = absurd (let none : zero * s ≡ 0 = omega arith in omega (arith, is, none))
some_times (suc k) s m is some = omega (arith, ints)

pub any_scale : (r : Run) (at : Rows) (left right : QLin) (rel : Rel5) (m : ℕ) → All HasNum left.terms → All HasNum right.terms
    → 1 ≤ m → AreCleared m left.terms → AreCleared m right.terms
    → ComparisonHolds r at (compares left rel right) ↔ Compares rel (value r at m left.terms) (value r at m right.terms)
any_scale r at left right rel m lefts rights some clears_left clears_right =
    let s : ℕ = scale_of_two left right in
    let one = least_scale left right lefts rights in
    let k : ℕ = m / s in
    let whole : k * s ≡ m = div-mul_cancel s (one.least m clears_left clears_right) in
    let here : value r at (k * s) left.terms ≡ value r at m left.terms = ap (λ n. value r at n left.terms) whole in
    let there : value r at (k * s) right.terms ≡ value r at m right.terms = ap (λ n. value r at n right.terms) whole in
    let same = compared_scaled rel (pos k) (value r at s left.terms) (value r at s right.terms) (some_times k s m whole some) in
    subst (λ x. Compares rel (value r at s left.terms) (value r at s right.terms) ↔ Compares rel x (value r at m right.terms))
    (value_scaled r at k s left.terms lefts one.of_left ∙ here)
    (subst (λ y. Compares rel (value r at s left.terms) (value r at s right.terms) ↔ Compares rel (pos k *ℤ value r at s left.terms) y)
    (value_scaled r at k s right.terms rights one.of_right ∙ there) same)
