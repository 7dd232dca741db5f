use Rattle.std.proofs.Common.{◌≡◌, ◌⊎◌, ◌∙◌, sym, subst}
use Rattle.whole.specs.declared.answers.Stuck.{Stuck}
use Rattle.ctrl_meaning.specs.declared.opening.OpeningHolds.TheVariants.{Yes, Wide}
use Rattle.ctrl_meaning.proofs.OpeningLaws.{found_law, state_again, state_law, wide_again, wide_law, yes_again, yes_law}
use Rattle.ctrl_meaning.proofs.opening.opening_holds.Goals as goal

pub returns-clause-yes : goal.returns-clause-yes
returns-clause-yes c = (
  λ is. yes_law c.args.controller.now c.args.setting.now c.args.run.now c.args.flow (sym c.examine_opening.ensures ∙ is),
  λ both. c.examine_opening.ensures ∙ yes_again c.args.controller.now c.args.setting.now c.args.run.now c.args.flow both.0 both.1,
)

pub returns-clause-state : goal.returns-clause-state
returns-clause-state c = λ state. (
  λ is. state_law c.args.controller.now c.args.setting.now c.args.run.now c.args.flow state (sym c.examine_opening.ensures ∙ is),
  λ one. c.examine_opening.ensures ∙ state_again c.args.controller.now c.args.setting.now c.args.run.now c.args.flow state one,
)

pub returns-clause-wide : goal.returns-clause-wide
returns-clause-wide c = λ stuck. (
  λ is. wide_law c.args.controller.now c.args.setting.now c.args.run.now c.args.flow stuck (sym c.examine_opening.ensures ∙ is),
  λ one. c.examine_opening.ensures ∙ wide_again c.args.controller.now c.args.setting.now c.args.run.now c.args.flow stuck one,
)

pub returns-clause-found : goal.returns-clause-found
returns-clause-found c = λ within.
    subst (λ a. (a ≡ Yes) ⊎ ((stuck : Stuck) × (a ≡ Wide stuck))) (sym c.examine_opening.ensures)
    (found_law c.args.controller.now c.args.setting.now c.args.run.now c.args.flow within)
