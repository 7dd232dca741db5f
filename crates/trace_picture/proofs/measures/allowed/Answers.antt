use Rattle.std.proofs.Common.{◌≡◌, ℤ, ◌+ℤ◌, Result, Ok, Err, ap, ◌∙◌, rules, FitsSigned}
use Rattle.std.specs.Prelude.{IfOk}
use Rattle.std.specs.Int.{w128}
use Rattle.std.proofs.lemmas.Int.{to_z-of_z}
use Rattle.trace_picture.specs.declared.exact.DrawFault.{DrawFault}
use Rattle.trace_picture.proofs.measures.allowed.Goals as goal

sum_is : (result : Result ℤ DrawFault) (x y a b : ℤ) → IfOk result (λ z. z ≡ x +ℤ y) → x ≡ a → y ≡ b → IfOk result (λ z. z ≡ a +ℤ b)
sum_is (Ok z) x y a b is left right = is ∙ ap (λ (n : ℤ). n +ℤ y) left ∙ ap (λ (n : ℤ). a +ℤ n) right
sum_is (Err fault) x y a b is left right = tt

pub returns : goal.returns
returns c =
    let left : FitsSigned w128 c.in_ok-at_rate.field-0 = search rules in
    let right : FitsSigned w128 c.in_ok-left_over.field-0 = search rules in
    sum_is c.sum.result _ _ _ _ c.sum.ensures (to_z-of_z w128 c.in_ok-at_rate.field-0 left ∙ c.in_ok-at_rate.ensures)
    (to_z-of_z w128 c.in_ok-left_over.field-0 right ∙ c.in_ok-left_over.ensures)
