-- Scales of an expression's terms grow from denominator to denominator.
use Rattle.std.proofs.Common.{◌≡◌, ℕ, ◌<◌, ◌≤◌, List, get_or, length, drop}
use Rattle.std.specs.Prelude.{All}
use Rattle.weighing.specs.Scaled.{IsNum}
use Rattle.weighing.specs.declared.scales.Num.{Num}
use Rattle.claim_values.proofs.Scales as scales
use Rattle.ctrl_types.specs.declared.expressions.LinTerm.{LinTerm}
use Rattle.ctrl_meaning.specs.Expressions.{IsTerm, scale_with}

abbrev pub coef_of : LinTerm → Num
coef_of t = t.coef

numbers_of : (n : ℕ) (ts : List LinTerm) → All (IsTerm n) ts → All (λ (t : LinTerm). IsNum t.coef) ts
numbers_of n ts each = λ k d inside. (each k d inside).coef_in

pub scale_grows : (n s : ℕ) (ts : List LinTerm) → 1 ≤ s → All (IsTerm n) ts → s ≤ scale_with s ts
scale_grows n s ts from each = scales.scale_grows coef_of s ts from (numbers_of n ts each)

pub scale_step : (n s start : ℕ) (ts : List LinTerm) (i : ℕ) (d : LinTerm) → i < length ts → All (IsTerm n) ts → 1 ≤ s
    → scale_with s (drop i ts) ≡ scale_with start ts → scale_with start ts ≤ 1000000 → scales.ScaleStep coef_of s start ts i (get_or ts i d)
scale_step n s start ts i d inside each from so_far small = scales.scale_step coef_of s start ts i d inside (numbers_of n ts each) from so_far small
