use Rattle.question_text.proofs.MixLaws.{mixed_again, mixed_are}
use Rattle.question_text.proofs.telling.kinds_are_mixed_by_two_terms.Goals as goal

pub returns : goal.returns
returns c states s left right = (mixed_are states s left right, mixed_again states s left right)
