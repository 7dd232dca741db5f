use Rattle.ordered_field.proofs.OrderFacts.{<ℚ-apart, <ℚ_trans, <ℚ_irrefl}
use Rattle.corner_values.proofs.meeting.is_below.Goals as goal

pub returns-in-Equal : goal.returns-in-Equal
returns-in-Equal g c = (λ e. absurd (cc), λ h. absurd (<ℚ-apart _ _ h c.in-Equal.ensures))

pub returns-in-Greater : goal.returns-in-Greater
returns-in-Greater g c = (λ e. absurd (cc), λ h. absurd (<ℚ_irrefl _ (<ℚ_trans _ _ _ h c.in-Greater.ensures)))
