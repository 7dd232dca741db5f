use Rattle.cert_text.proofs.LineLaws.{node_given}
use Rattle.cert_text.proofs.lines.line_of.Goals as goal

pub returns-in-Node-clause-exact : goal.returns-in-Node-clause-exact
returns-in-Node-clause-exact c = node_given c.args.want c.in-Node.depth c.args.line.now c.node_of.result c.in-Node.is c.if-depth-le-DEEPEST.true (c.node_of.ensures.exact c.args.want)
