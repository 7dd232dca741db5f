use Rattle.std.proofs.Common.{◌≡◌, ◌∙◌, refl, sym, inl, inr}
use Rattle.trace_replay.specs.declared.replaying.Replayed.TheVariants.{Violating}
use Rattle.verdict.proofs.judging.replayed.Goals as goal

pub returns-in-Wide : goal.returns-in-Wide
returns-in-Wide c = (refl, sym c.replay.ensures.exact ∙ c.in-Wide.is, (c.replay.ensures.wide c.in-Wide.stuck).0 c.in-Wide.is)

pub returns-in_default : goal.returns-in_default
returns-in_default c =
    let violates : c.replay.result ≡ Violating =
    elim (c.replay.ensures.violation_answered c.requires.violation.run c.requires.bounded c.requires.violation.violates) [
      | inl is ↦ is
      | inr wide ↦ absurd (c.in_default.not-Wide wide.0 wide.1)
    ] in
    (refl, refl, sym c.replay.ensures.exact ∙ violates)
