use Rattle.std.proofs.Common.{◌≡◌, ◌<◌, List, [], ◌∷◌, Some, ◌∙◌, ap}
use Rattle.std.specs.List.{slice_get}
use Rattle.linear_form.specs.declared.lists.Term.{Term}
use Rattle.linear_form.specs.Reduced.{IsReduced}
use Rattle.linear_form.specs.NormalForm.{divisor_from}
use Rattle.linear_form.proofs.CommonDivisor.{divisor_from-some}
use Rattle.linear_form.proofs.QuotientSums.{size_some}
use Rattle.linear_form.proofs.normalising.literal_of.Goals as goal

-- a sum with a first term has a divisor above 0
some_divisor : (ts : List Term) (t : Term) → Some t ≡ slice_get ts 0 → IsReduced ts → 0 < divisor_from 0 ts
some_divisor [] t e is = absurd (cc)
some_divisor (u ∷ rest) t e is = divisor_from-some 0 u rest (size_some u.coef is.0)

pub bound_of-requires-clause-some : goal.bound_of-requires-clause-some
bound_of-requires-clause-some c =
    some_divisor c.args.terms.items c.in-Some.first (c.in-Some.ensures ∙ c.first.ensures.value ∙ ap (λ ts. slice_get ts 0) c.deref.ensures.value) c.requires.sum
