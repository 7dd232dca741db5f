use Rattle.std.proofs.Common.{◌≡◌, ◌⊎◌, ◌∙◌, sym, subst}
use Rattle.whole.specs.declared.answers.Stuck.{Stuck}
use Rattle.ctrl_meaning.specs.declared.step.StepHolds.TheVariants.{Yes, StepWide, SendWide}
use Rattle.ctrl_meaning.proofs.StepLaws.{arrival_again, arrival_law, found_law, ready_row, send_wide_again, send_wide_law, state_again, state_law, step_wide_again, step_wide_law, yes_again, yes_law}
use Rattle.ctrl_meaning.proofs.step.step_holds.Goals as goal

pub returns-clause-state : goal.returns-clause-state
returns-clause-state c =
    let ready = ready_row c.args.controller.now c.args.setting.now c.args.run.now c.args.row c.args.flow c.requires.controller_in c.requires.setting_in
    c.requires.run_in c.requires.row_in c.requires.flow_from c.requires.flow_to in
    λ state. (
      λ is. state_law c.args.controller.now c.args.setting.now c.args.run.now c.args.row c.args.flow ready state (sym c.examine_step.ensures ∙ is),
      λ one. c.examine_step.ensures ∙ state_again c.args.controller.now c.args.setting.now c.args.run.now c.args.row c.args.flow ready state one,
    )

pub returns-clause-arrival : goal.returns-clause-arrival
returns-clause-arrival c =
    let ready = ready_row c.args.controller.now c.args.setting.now c.args.run.now c.args.row c.args.flow c.requires.controller_in c.requires.setting_in
    c.requires.run_in c.requires.row_in c.requires.flow_from c.requires.flow_to in (
      λ is. arrival_law c.args.controller.now c.args.setting.now c.args.run.now c.args.row c.args.flow ready (sym c.examine_step.ensures ∙ is),
      λ one. c.examine_step.ensures ∙ arrival_again c.args.controller.now c.args.setting.now c.args.run.now c.args.row c.args.flow ready one,
    )

pub returns-clause-step_wide : goal.returns-clause-step_wide
returns-clause-step_wide c =
    let ready = ready_row c.args.controller.now c.args.setting.now c.args.run.now c.args.row c.args.flow c.requires.controller_in c.requires.setting_in
    c.requires.run_in c.requires.row_in c.requires.flow_from c.requires.flow_to in
    λ stuck. (
      λ is. step_wide_law c.args.controller.now c.args.setting.now c.args.run.now c.args.row c.args.flow ready stuck (sym c.examine_step.ensures ∙ is),
      λ one. c.examine_step.ensures ∙ step_wide_again c.args.controller.now c.args.setting.now c.args.run.now c.args.row c.args.flow ready stuck one,
    )

pub returns-clause-send_wide : goal.returns-clause-send_wide
returns-clause-send_wide c =
    let ready = ready_row c.args.controller.now c.args.setting.now c.args.run.now c.args.row c.args.flow c.requires.controller_in c.requires.setting_in
    c.requires.run_in c.requires.row_in c.requires.flow_from c.requires.flow_to in
    λ stuck. (
      λ is. send_wide_law c.args.controller.now c.args.setting.now c.args.run.now c.args.row c.args.flow ready stuck (sym c.examine_step.ensures ∙ is),
      λ one. c.examine_step.ensures ∙ send_wide_again c.args.controller.now c.args.setting.now c.args.run.now c.args.row c.args.flow ready stuck one,
    )

pub returns-clause-yes : goal.returns-clause-yes
returns-clause-yes c =
    let ready = ready_row c.args.controller.now c.args.setting.now c.args.run.now c.args.row c.args.flow c.requires.controller_in c.requires.setting_in
    c.requires.run_in c.requires.row_in c.requires.flow_from c.requires.flow_to in
    λ rule. (
      λ is. yes_law c.args.controller.now c.args.setting.now c.args.run.now c.args.row c.args.flow ready rule (sym c.examine_step.ensures ∙ is),
      λ one. c.examine_step.ensures ∙ yes_again c.args.controller.now c.args.setting.now c.args.run.now c.args.row c.args.flow ready rule one.0 one.1,
    )

pub returns-clause-found : goal.returns-clause-found
returns-clause-found c =
    let ready = ready_row c.args.controller.now c.args.setting.now c.args.run.now c.args.row c.args.flow c.requires.controller_in c.requires.setting_in
    c.requires.run_in c.requires.row_in c.requires.flow_from c.requires.flow_to in
    λ rule is.
    subst (λ a. (a ≡ Yes rule) ⊎ ((stuck : Stuck) × ((a ≡ StepWide stuck) ⊎ (a ≡ SendWide stuck)))) (sym c.examine_step.ensures)
    (found_law c.args.controller.now c.args.setting.now c.args.run.now c.args.row c.args.flow ready rule is)
