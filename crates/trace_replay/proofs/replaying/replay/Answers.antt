use Rattle.std.proofs.Common.{◌≡◌, ◌⊎◌, ◌∙◌, sym, subst}
use Rattle.whole.specs.declared.answers.Stuck.{Stuck}
use Rattle.trace_replay.specs.declared.replaying.Replayed.TheVariants.{Violating, Keeps, Wide}
use Rattle.trace_replay.proofs.ReplayLaws.{broken_again, broken_law, keeping_answered_law, keeping_found_law, keeps_law, keeps_weighed, violating_law, violating_weighed, violation_answered_law, violation_found_law, wide_again, wide_law}
use Rattle.trace_replay.proofs.replaying.replay.Goals as goal

pub returns-clause-violating : goal.returns-clause-violating
returns-clause-violating c = λ is. violating_law c.args.controller.now c.args.question.now c.args.run.now c.requires.controller_in c.requires.question_in.setting_in (sym c.examine.ensures ∙ is)

pub returns-clause-keeps : goal.returns-clause-keeps
returns-clause-keeps c = λ is. keeps_law c.args.controller.now c.args.question.now c.args.run.now c.requires.controller_in c.requires.question_in.setting_in (sym c.examine.ensures ∙ is)

pub returns-clause-violating_weighed : goal.returns-clause-violating_weighed
returns-clause-violating_weighed c = λ is. violating_weighed c.args.controller.now c.args.question.now c.args.run.now c.requires.controller_in c.requires.question_in.setting_in (sym c.examine.ensures ∙ is)

pub returns-clause-keeps_weighed : goal.returns-clause-keeps_weighed
returns-clause-keeps_weighed c = λ is. keeps_weighed c.args.controller.now c.args.question.now c.args.run.now c.requires.controller_in c.requires.question_in.setting_in (sym c.examine.ensures ∙ is)

pub returns-clause-broken : goal.returns-clause-broken
returns-clause-broken c = λ rule row flow. (
  λ is. broken_law c.args.controller.now c.args.question.now c.args.run.now c.requires.controller_in c.requires.question_in.setting_in rule row flow (sym c.examine.ensures ∙ is),
  λ one. c.examine.ensures ∙ broken_again c.args.controller.now c.args.question.now c.args.run.now c.requires.controller_in c.requires.question_in.setting_in rule row flow one,
)

pub returns-clause-wide : goal.returns-clause-wide
returns-clause-wide c = λ stuck. (
  λ is. wide_law c.args.controller.now c.args.question.now c.args.run.now c.requires.controller_in c.requires.question_in.setting_in stuck (sym c.examine.ensures ∙ is),
  λ one. c.examine.ensures ∙ wide_again c.args.controller.now c.args.question.now c.args.run.now c.requires.controller_in c.requires.question_in.setting_in stuck one,
)

pub returns-clause-violation_found : goal.returns-clause-violation_found
returns-clause-violation_found c = λ run_of bounded small violates.
    c.examine.ensures ∙ violation_found_law c.args.controller.now c.args.question.now c.args.run.now c.requires.controller_in c.requires.question_in.setting_in run_of bounded small violates

pub returns-clause-keeping_found : goal.returns-clause-keeping_found
returns-clause-keeping_found c = λ run_of bounded small keeps.
    c.examine.ensures ∙ keeping_found_law c.args.controller.now c.args.question.now c.args.run.now c.requires.controller_in c.requires.question_in.setting_in run_of bounded small keeps

pub returns-clause-violation_answered : goal.returns-clause-violation_answered
returns-clause-violation_answered c = λ run_of bounded violates.
    subst (λ a. (a ≡ Violating) ⊎ ((stuck : Stuck) × (a ≡ Wide stuck))) (sym c.examine.ensures)
    (violation_answered_law c.args.controller.now c.args.question.now c.args.run.now c.requires.controller_in c.requires.question_in.setting_in run_of bounded violates)

pub returns-clause-keeping_answered : goal.returns-clause-keeping_answered
returns-clause-keeping_answered c = λ run_of bounded keeps.
    subst (λ a. (a ≡ Keeps) ⊎ ((stuck : Stuck) × (a ≡ Wide stuck))) (sym c.examine.ensures)
    (keeping_answered_law c.args.controller.now c.args.question.now c.args.run.now c.requires.controller_in c.requires.question_in.setting_in run_of bounded keeps)
