use Rattle.farkas_cert.specs.Trees.{tree_of}
use Rattle.cert_text.proofs.DraftLaws.{first_ended, second_ended}
use Rattle.cert_text.proofs.splits.close.Goals as goal

pub returns-in-First : goal.returns-in-First
returns-in-First c =
    first_ended c.args.splits.now c.loop-split.splits c.pop.new.self c.push.new.self c.in-First.atom c.loop-split.tree (tree_of c.args.leaf) (rw c.in-First.is at c.in-Some.ensures) c.in_ok-push-in-First.ensures.ok
    c.loop-split.invariant.0 c.loop-split.invariant.1

pub loop-split-preserved : goal.loop-split-preserved
loop-split-preserved c =
    second_ended c.loop-split.splits c.pop.new.self c.in-Second.atom c.in-Second.held c.loop-split.tree c.in_ok-tree-in-Second.tree _ _ (rw c.in-Second.is at c.in-Some.ensures) c.in_ok-tree-in-Second.ensures
    c.loop-split.invariant.0 c.loop-split.invariant.1
