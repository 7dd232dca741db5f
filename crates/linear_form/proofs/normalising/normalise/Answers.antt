use Rattle.std.proofs.Common.{◌≡◌, ◌↔◌, ◌*◌, ◌^◌, ◌≤◌, List, All, unsigned_abs, ℤ, to_z, of_z, sym, ◌∙◌, ap, subst, arith}
use Rattle.std.specs.Int.{w128}
use Rattle.whole.specs.Numbers.{IsWithin}
use Rattle.linear_form.specs.declared.lists.Term.{Term}
use Rattle.linear_form.specs.declared.relations.Rel.{Rel}
use Rattle.linear_form.specs.declared.relations.Normal.{Normal}
use Rattle.linear_form.specs.Reduced.{reduced, IsReduced}
use Rattle.linear_form.specs.NormalForm.{Meets, MeetsNormal, IsNormal, HasSmallNumbers, HasColumnsBelow, normal, normal_of}
use Rattle.linear_form.proofs.LiteralBounds.{HasSmallNumbers-normal_of, HasColumnsBelow-normal_of}
use Rattle.linear_form.proofs.NormalLiterals.{IsNormal-normal_of, normal_of-same}
use Rattle.linear_form.proofs.ReducedLists.{IsReduced-reduced}
use Rattle.linear_form.proofs.Running.{same_bits}
use Rattle.linear_form.proofs.Truth.{normal_of-truth}
use Rattle.linear_form.proofs.normalising.normalise.Goals as goal

pub literal_of-requires-clause-sum : goal.literal_of-requires-clause-sum
literal_of-requires-clause-sum c = subst IsReduced (sym c.in_ok-terms.ensures.sum) (IsReduced-reduced c.as_slice.result.now)

-- the literal of the terms that were read, with the constant as it is passed
literal_is : (terms read items : List Term) (constant : ℤ) (rel : Rel) (r : Normal) → IsWithin constant → items ≡ reduced read → read ≡ terms → r ≡ normal items (to_z w128 (of_z w128 constant)) rel → r ≡ normal (reduced terms) constant rel
literal_is terms read items constant rel r small sum same is =
    is ∙ ap (λ ts. normal ts (to_z w128 (of_z w128 constant)) rel) (sum ∙ ap reduced same) ∙ ap (λ z. normal (reduced terms) z rel) (same_bits constant small)

pub returns-clause-exact : goal.returns-clause-exact
unfolding normal_of
returns-clause-exact c =
    literal_is c.args.c.now.terms c.as_slice.result.now c.in_ok-terms.terms.items c.args.c.now.constant c.args.c.now.rel c.literal_of.result (omega (arith, c.requires.constant)) c.in_ok-terms.ensures.sum c.as_slice.ensures c.literal_of.ensures

pub returns-clause-truth : goal.returns-clause-truth
returns-clause-truth c value den some =
    let P : Normal → Type 0 = λ n. Meets value den c.args.c.now ↔ MeetsNormal value den n in
    subst P (sym (returns-clause-exact c)) (normal_of-truth c.args.c.now value den some)

pub returns-clause-normal : goal.returns-clause-normal
returns-clause-normal c = subst IsNormal (sym (returns-clause-exact c)) (IsNormal-normal_of c.args.c.now)

pub returns-clause-unique : goal.returns-clause-unique
returns-clause-unique c other same = returns-clause-exact c ∙ normal_of-same c.args.c.now other same

pub returns-clause-small : goal.returns-clause-small
returns-clause-small c =
    let IsSmaller : Term → Type 0 = λ t. unsigned_abs t.coef ≤ 128 * 10 ^ 13 in
    let coefs = subst (All IsSmaller) (c.in_ok-terms.ensures.sum ∙ ap reduced c.as_slice.ensures) c.in_ok-terms.ensures.coefs in
    subst HasSmallNumbers (sym (returns-clause-exact c)) (HasSmallNumbers-normal_of c.args.c.now coefs c.requires.constant)

pub returns-clause-columns : goal.returns-clause-columns
returns-clause-columns c columns all =
    subst (HasColumnsBelow columns) (sym (returns-clause-exact c)) (HasColumnsBelow-normal_of c.args.c.now columns all)
