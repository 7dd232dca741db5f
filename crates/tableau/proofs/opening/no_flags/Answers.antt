use Rattle.std.proofs.Common.{◌≡◌, ℕ, ◌+◌, false, length, get_or, ap, ◌∙◌}
use Rattle.std.proofs.lemmas.List.{length_push}
use Rattle.tableau.proofs.NameLaws.{get_or-push_default}
use Rattle.tableau.proofs.opening.no_flags.Goals as goal

pub loop-made-preserved : goal.loop-made-preserved
loop-made-preserved c = record {
  count = ap length c.in_ok-push.ensures.items ∙ length_push _ _ ∙ ap (λ n. n + 1) c.loop-made.invariant.count;
  none = λ v. ap (λ l. get_or l v false) c.in_ok-push.ensures.items ∙ get_or-push_default c.loop-made.flags.items false v ∙ c.loop-made.invariant.none v;
}
