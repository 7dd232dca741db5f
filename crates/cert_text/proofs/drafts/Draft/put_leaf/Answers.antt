use Rattle.std.proofs.Common.{arith}
use Rattle.farkas_cert.specs.Trees.{tree_of}
use Rattle.cert_text.proofs.DraftLaws.{closes_shorter, put_on, put_last}
use Rattle.cert_text.proofs.drafts.Draft.put_leaf.Goals as goal

pub overflow_cast-self : goal.overflow_cast-self
overflow_cast-self c =
    let short = closes_shorter c.args.self.now.splits c.close.new.splits (tree_of c.args.leaf) (rw c.in-None.is at c.in_ok-close.ensures) in
    rw c.len.ensures (omega (arith, short, c.requires.shallow))

pub returns-in-None : goal.returns-in-None
returns-in-None c =
    rw c.len.ensures (put_on c.args.self.now (tree_of c.args.leaf) c.close.new.splits c.requires.wanted (rw c.in-None.is at c.in_ok-close.ensures))

pub returns-in-Some : goal.returns-in-Some
returns-in-Some c = put_last c.args.self.now (tree_of c.args.leaf) c.close.new.splits c.in-Some.proof c.end_lemma.result c.end_lemma.new.self c.requires.wanted (rw c.in-Some.is at c.in_ok-close.ensures) c.end_lemma.ensures
