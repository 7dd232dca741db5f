use Rattle.std.proofs.Common.{arith}
use Rattle.cert_text.specs.declared.wants.Line.TheVariants.{Split, Clause, Farkas}
use Rattle.cert_text.proofs.DraftLaws.{node_wanted, header_taken, size_taken, lemma_taken, end_taken, split_taken, clause_taken, farkas_taken}
use Rattle.cert_text.proofs.drafts.Draft.take.Goals as goal

pub open-requires : goal.open-requires
open-requires c =
    let node = node_wanted c.args.self.now (Split c.in-Split.atom) (λ x. x) (λ x. x) (λ x. x) (rw c.in-Split.is at c.requires.may_stand) c.requires.agrees in
    omega (arith, node.1)

pub put_leaf-requires-clause-wanted : goal.put_leaf-requires-clause-wanted
put_leaf-requires-clause-wanted c = (node_wanted c.args.self.now (Clause c.in-Clause.number) (λ x. x) (λ x. x) (λ x. x) (rw c.in-Clause.is at c.requires.may_stand) c.requires.agrees).0

pub put_leaf-requires-clause-shallow : goal.put_leaf-requires-clause-shallow
put_leaf-requires-clause-shallow c =
    let node = node_wanted c.args.self.now (Clause c.in-Clause.number) (λ x. x) (λ x. x) (λ x. x) (rw c.in-Clause.is at c.requires.may_stand) c.requires.agrees in
    omega (arith, node.1)

pub put_leaf-requires-in-Farkas-clause-wanted : goal.put_leaf-requires-in-Farkas-clause-wanted
put_leaf-requires-in-Farkas-clause-wanted c = (node_wanted c.args.self.now (Farkas c.in-Farkas.parts) (λ x. x) (λ x. x) (λ x. x) (rw c.in-Farkas.is at c.requires.may_stand) c.requires.agrees).0

pub put_leaf-requires-in-Farkas-clause-shallow : goal.put_leaf-requires-in-Farkas-clause-shallow
put_leaf-requires-in-Farkas-clause-shallow c =
    let node = node_wanted c.args.self.now (Farkas c.in-Farkas.parts) (λ x. x) (λ x. x) (λ x. x) (rw c.in-Farkas.is at c.requires.may_stand) c.requires.agrees in
    omega (arith, node.1)

pub returns-in-Header : goal.returns-in-Header
returns-in-Header c =
    let d = c.args.self.now in
    rw c.in-Header.is (header_taken d.columns d.atoms d.clauses d.lemmas d.clause d.splits d.want c.in-Header.version (rw c.in-Header.is at c.requires.may_stand) c.requires.agrees)

pub returns-in-Size : goal.returns-in-Size
returns-in-Size c =
    let d = c.args.self.now in
    rw (c.in-Size.is, c.set_sizes.ensures)
    (size_taken d.columns d.atoms d.clauses d.lemmas d.clause d.splits d.want c.in-Size.columns c.in-Size.atoms c.in-Size.clauses (rw c.in-Size.is at c.requires.may_stand) c.requires.agrees)

pub returns-in-Lemma : goal.returns-in-Lemma
returns-in-Lemma c =
    let d = c.args.self.now in
    rw (c.in-Lemma.is, c.begin.ensures) (lemma_taken d.columns d.atoms d.clauses d.lemmas d.clause d.splits d.want c.in-Lemma.clause (rw c.in-Lemma.is at c.requires.may_stand) c.requires.agrees)

pub returns-in_ok-open-in-Split : goal.returns-in_ok-open-in-Split
returns-in_ok-open-in-Split c =
    let d = c.args.self.now in
    rw (c.in-Split.is, c.in_ok-open-in-Split.ensures) (split_taken d.columns d.atoms d.clauses d.lemmas d.clause d.splits d.want c.in-Split.atom (rw c.in-Split.is at c.requires.may_stand) c.requires.agrees)

pub returns-in_ok-put_leaf-in-Clause : goal.returns-in_ok-put_leaf-in-Clause
returns-in_ok-put_leaf-in-Clause c =
    rw c.in-Clause.is
    (clause_taken c.args.self.now c.put_leaf.new.self c.in-Clause.number (rw c.in-Clause.is at c.requires.may_stand) c.requires.agrees (rw c.clause.ensures at c.in_ok-put_leaf-in-Clause.ensures))

pub returns-in_ok-put_leaf-in-Farkas : goal.returns-in_ok-put_leaf-in-Farkas
returns-in_ok-put_leaf-in-Farkas c =
    rw c.in-Farkas.is
    (farkas_taken c.args.self.now c.put_leaf-in-Farkas.new.self c.in-Farkas.parts (rw c.in-Farkas.is at c.requires.may_stand) c.requires.agrees (rw c.farkas.ensures at c.in_ok-put_leaf-in-Farkas.ensures))

pub returns-in-End : goal.returns-in-End
returns-in-End c =
    let d = c.args.self.now in
    rw c.in-End.is (end_taken d.columns d.atoms d.clauses d.lemmas d.clause d.splits d.want (rw c.in-End.is at c.requires.may_stand) c.requires.agrees)
