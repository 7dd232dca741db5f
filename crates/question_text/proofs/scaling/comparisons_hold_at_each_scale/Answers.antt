use Rattle.question_text.proofs.ScaleLaws.{any_scale}
use Rattle.question_text.proofs.Scales.{least_scale}
use Rattle.question_text.proofs.scaling.comparisons_hold_at_each_scale.Goals as goal

pub returns-clause-least : goal.returns-clause-least
returns-clause-least c = least_scale

pub returns-clause-any : goal.returns-clause-any
returns-clause-any c = any_scale
