use Rattle.ctrl_meaning.proofs.ExampleFits.{made_controller_in, made_run_in}
use Rattle.ctrl_meaning.proofs.tests.answers.Goals as goal

pub opening_holds-opening-requires-clause-controller_in : goal.opening_holds-opening-requires-clause-controller_in
opening_holds-opening-requires-clause-controller_in c = made_controller_in c.in_ok-controller.controller c.in_ok-controller.ensures

pub opening_holds-opening-requires-clause-run_in : goal.opening_holds-opening-requires-clause-run_in
opening_holds-opening-requires-clause-run_in c =
    made_run_in c.in_ok-controller.controller c.setting-setting.result c.in_ok-run.run' c.args.opens c.args.a c.args.x
    c.in_ok-controller.ensures c.setting-setting.ensures c.in_ok-run.ensures c.requires.opens_in c.requires.a_in c.requires.x_in

pub step_holds-step-requires-clause-controller_in : goal.step_holds-step-requires-clause-controller_in
step_holds-step-requires-clause-controller_in c = made_controller_in c.in_ok-controller.controller c.in_ok-controller.ensures

pub step_holds-step-requires-clause-run_in : goal.step_holds-step-requires-clause-run_in
step_holds-step-requires-clause-run_in c =
    made_run_in c.in_ok-controller.controller c.setting-setting.result c.in_ok-run.run' c.args.opens c.args.a c.args.x
    c.in_ok-controller.ensures c.setting-setting.ensures c.in_ok-run.ensures c.requires.opens_in c.requires.a_in c.requires.x_in
