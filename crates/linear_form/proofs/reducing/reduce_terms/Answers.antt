use Rattle.std.proofs.Common.{rules, ◌≤◌, ◌^◌, unsigned_abs, All, sym, ◌∙◌, ap, subst}
use Rattle.std.specs.List.Sorted.{IsNonDecreasingBy}
use Rattle.std.proofs.lemmas.List.Sorted.{All-permutation, IsNonDecreasingBy-from_sort_by_key}
use Rattle.std.proofs.lemmas.Result.{IfOk-weaker}
use Rattle.linear_form.specs.declared.lists.Term.{Term}
use Rattle.linear_form.specs.Reduced.{reduced}
use Rattle.linear_form.proofs.JoinedRuns.{reduced-permutation}
use Rattle.linear_form.proofs.reducing.reduce_terms.Goals as goal

pub join_runs-requires-clause-coefs : goal.join_runs-requires-clause-coefs
join_runs-requires-clause-coefs c =
    let IsSmall : Term → Type 0 = λ t. unsigned_abs t.coef ≤ 10 ^ 13 in
    subst (All IsSmall) (sym c.as_slice.ensures.value) (All-permutation IsSmall _ _ c.sort_unstable_by_key.ensures.permutation (subst (All IsSmall) (sym c.in_ok-sorted.ensures.items) c.requires.coefs))

pub join_runs-requires-clause-order : goal.join_runs-requires-clause-order
join_runs-requires-clause-order c =
    subst (IsNonDecreasingBy (λ t. t.column)) (sym c.as_slice.ensures.value) (IsNonDecreasingBy-from_sort_by_key (λ t. t.column) _ c.sort_unstable_by_key.ensures.sorted (λ a r q k. search rules))

pub returns-clause-sum : goal.returns-clause-sum
returns-clause-sum c =
    IfOk-weaker c.join_runs.result _ _ (λ v is. is ∙ ap reduced c.as_slice.ensures.value ∙ reduced-permutation _ _ c.sort_unstable_by_key.ensures.permutation ∙ ap reduced c.in_ok-sorted.ensures.items) c.join_runs.ensures.sum
