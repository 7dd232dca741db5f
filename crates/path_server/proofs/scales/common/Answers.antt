use Rattle.path_server.proofs.Sizes.{common_found}
use Rattle.path_server.proofs.scales.common.Goals as goal

pub returns-clause-value : goal.returns-clause-value
returns-clause-value c =
    (common_found c.args.left c.args.right c.unwrap_or.result c.lcm.result
    c.requires.left_from c.requires.left_to c.requires.right_from c.requires.right_to c.lcm.ensures.exact c.unwrap_or.ensures).0

pub returns-clause-size : goal.returns-clause-size
returns-clause-size c =
    (common_found c.args.left c.args.right c.unwrap_or.result c.lcm.result
    c.requires.left_from c.requires.left_to c.requires.right_from c.requires.right_to c.lcm.ensures.exact c.unwrap_or.ensures).1
