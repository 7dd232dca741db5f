-- Scales grow from denominator to denominator, and divide each common multiple of them.
use Rattle.std.proofs.Common.{◌≡◌, ℕ, ◌<◌, ◌≤◌, List, [], ◌∷◌, get_or, length, drop, map, subst, arith}
use Rattle.std.specs.Prelude.{All}
use Rattle.std.specs.Int.{◌∣◌}
use Rattle.std.proofs.lemmas.Nat.Gcd.{dvd_trans}
use Rattle.std.proofs.Math.Nat.{one-dvd}
use Rattle.std.proofs.lemmas.List.Elements.{All-nil, All-cons, All-head, All-tail, All-map}
use Rattle.std.proofs.lemmas.List.Folds.{fold-map}
use Rattle.weighing.specs.Scaled.{IsNum, common, den_of}
use Rattle.weighing.specs.declared.scales.Num.{Num}
use Rattle.ctrl_types.specs.Denominators.{IsLeastOver}
use Rattle.ctrl_types.proofs.DenominatorLaws.{least_over}
use Rattle.run_rows.specs.declared.rows.Run.{Run}
use Rattle.claim_values.proofs.Scales as scales
use Rattle.question_text.specs.declared.names.Rows.{Rows}
use Rattle.question_text.specs.declared.conditions.QTerm.{QTerm}
use Rattle.question_text.specs.declared.conditions.QLin.{QLin}
use Rattle.question_text.specs.Expressions.{AreCleared, CanTake, HasNum, IsLeastScale, scale_of_two, scale_with}

abbrev pub coef_of : QTerm → Num
coef_of t = t.coef

pub scale_grows : (s : ℕ) (ts : List QTerm) → 1 ≤ s → All HasNum ts → s ≤ scale_with s ts
scale_grows s ts from each = scales.scale_grows coef_of s ts from each

pub scale_step : (s start : ℕ) (ts : List QTerm) (i : ℕ) (d : QTerm) → i < length ts → All HasNum ts → 1 ≤ s
    → scale_with s (drop i ts) ≡ scale_with start ts → scale_with start ts ≤ 1000000 → scales.ScaleStep coef_of s start ts i (get_or ts i d)
scale_step s start ts i d inside each from so_far small = scales.scale_step coef_of s start ts i d inside each from so_far small

-- a scale is the least multiple of what it began with and of each denominator
record IsScale (s : ℕ) (ts : List QTerm) : Type 0 where
  some : 1 ≤ scale_with s ts
  of_start : s ∣ scale_with s ts
  of_terms : AreCleared (scale_with s ts) ts
  least : (m : ℕ) → s ∣ m → AreCleared m ts → scale_with s ts ∣ m

each_term : (P : Num → Type 0) (ts : List QTerm) → All P (map coef_of ts) → All (λ t. P t.coef) ts
each_term P [] each = All-nil (λ t. P (coef_of t))
each_term P (t ∷ ts) each =
    All-cons (λ t. P (coef_of t)) t ts (All-head P t.coef (map coef_of ts) each) (each_term P ts (All-tail P t.coef (map coef_of ts) each))

is_scale : (s : ℕ) (ts : List QTerm) → 1 ≤ s → All HasNum ts → IsScale s ts
is_scale s ts from each =
    let over : IsLeastOver s (map coef_of ts) (scale_with s ts) =
    subst (IsLeastOver s (map coef_of ts)) (fold-map common coef_of s ts) (least_over (map coef_of ts) s from (All-map IsNum coef_of ts each)) in
    record {
      some = omega (arith, scale_grows s ts from each);
      of_start = over.of_start;
      of_terms = each_term (λ n. den_of n ∣ scale_with s ts) ts over.of_nums;
      least = λ m start cleared. over.least m start (All-map (λ n. den_of n ∣ m) coef_of ts cleared);
    }

cleared_more : (m n : ℕ) (ts : List QTerm) → m ∣ n → AreCleared m ts → AreCleared n ts
cleared_more m n ts more each = λ k d inside. dvd_trans (den_of (get_or ts k d).coef) (each k d inside) more

pub least_scale : (left right : QLin) → All HasNum left.terms → All HasNum right.terms → IsLeastScale left right (scale_of_two left right)
least_scale left right lefts rights =
    let one = is_scale 1 left.terms (omega arith) lefts in
    let two = is_scale (scale_with 1 left.terms) right.terms one.some rights in
    record {
      of_left = cleared_more (scale_with 1 left.terms) (scale_of_two left right) left.terms two.of_start one.of_terms;
      of_right = two.of_terms;
      least = λ n cleared cleared'. two.least n (one.least n (one-dvd n) cleared) cleared';
    }
