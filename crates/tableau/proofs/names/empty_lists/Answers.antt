use Rattle.std.proofs.Common.{◌≡◌, ℕ, ◌+◌, [], ◌∷◌, ◌++◌, length, get_or, ap, ◌∙◌}
use Rattle.std.proofs.lemmas.List.{length_push}
use Rattle.tableau.proofs.NameLaws.{get_or-push_default}
use Rattle.tableau.proofs.names.empty_lists.Goals as goal

pub loop-made-preserved : goal.loop-made-preserved
loop-made-preserved g c = record {
  length = ap length c.in_ok-push.ensures.items ∙ length_push _ _ ∙ ap (λ n. n + 1) c.loop-made.invariant.length;
  empty = λ v. ap (λ l. get_or l v []) c.in_ok-push.ensures.items ∙ ap (λ d. get_or (c.loop-made.lists.items ++ d ∷ []) v []) c.new.ensures ∙ get_or-push_default c.loop-made.lists.items [] v ∙ c.loop-made.invariant.empty v;
}
