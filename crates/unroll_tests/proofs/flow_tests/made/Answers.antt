use Rattle.std.proofs.Common.{arith}
use Rattle.ctrl_meaning.proofs.ExampleFits.{made_controller_in}
use Rattle.unroll_tests.proofs.ExampleShapes.{four_rows}
use Rattle.unroll_tests.proofs.flow_tests.made.Goals as goal

pub flow_row-requires-clause-controller_in : goal.flow_row-requires-clause-controller_in
flow_row-requires-clause-controller_in c = made_controller_in c.in_ok-controller.controller c.in_ok-controller.ensures

pub flow_row-requires-clause-row_in : goal.flow_row-requires-clause-row_in
flow_row-requires-clause-row_in c =
    let to = c.requires in
    let four = four_rows c.in_ok-controller.controller c.setting.result c.in_ok-controller.ensures c.setting.ensures in omega (arith, to, four)
