use Rattle.unroll_tests.proofs.ExamplePaths.{example_in, example_shape}
use Rattle.unroll_tests.proofs.path_tests.made.Goals as goal

pub path_row-requires-clause-setting_in : goal.path_row-requires-clause-setting_in
path_row-requires-clause-setting_in c = example_in c.setting.result c.args.buffer c.setting.ensures c.requires.buffer_in

pub path_row-requires-clause-shape_in : goal.path_row-requires-clause-shape_in
path_row-requires-clause-shape_in c = example_shape c.setting.result c.args.buffer c.setting.ensures
