use Rattle.std.proofs.Common.{string_bytes, ap, ◌∙◌}
use Rattle.farkas_cert.specs.Trees.{tree_of}
use Rattle.cert_text.proofs.PrintLaws.{split_written, farkas_written, clause_written, tree_of-Split, tree_of-Farkas, tree_of-Clause, carried}
use Rattle.cert_text.proofs.printing.+put_tree.Goals as goal

pub returns-in_ok-put_tree-in-Split : goal.returns-in_ok-put_tree-in-Split
returns-in_ok-put_tree-in-Split t c =
    carried c.put_tree-in-Split.result
    (λ three.
    split_written c.in-Split.atom (tree_of c.in-Split.yes.value) (tree_of c.in-Split.no.value) (tree_of c.args.tree.now) (string_bytes c.args.out.now) (string_bytes c.put_split.new.out) (string_bytes c.put_tree.new.out) (string_bytes c.put_tree-in-Split.new.out)
    (ap tree_of c.in-Split.is ∙ tree_of-Split c.in-Split.atom c.in-Split.yes c.in-Split.no) c.in_ok-put_split-in-Split.ensures (rw c.deref.ensures at c.in_ok-put_tree-in-Split.ensures) (rw c.deref-in-Split.ensures at three))
    c.put_tree-in-Split.ensures

pub returns-in-Farkas : goal.returns-in-Farkas
returns-in-Farkas t c =
    carried c.put_farkas.result
    (λ one.
    farkas_written c.in-Farkas.parts c.as_slice.result.now (tree_of c.args.tree.now) (string_bytes c.args.out.now) (string_bytes c.put_farkas.new.out) (ap tree_of c.in-Farkas.is ∙ tree_of-Farkas c.in-Farkas.parts) c.as_slice.ensures one)
    c.put_farkas.ensures

pub returns-in-Clause : goal.returns-in-Clause
returns-in-Clause t c =
    carried c.put_cited.result
    (λ one. clause_written c.in-Clause.number (tree_of c.args.tree.now) (string_bytes c.args.out.now) (string_bytes c.put_cited.new.out) (ap tree_of c.in-Clause.is ∙ tree_of-Clause c.in-Clause.number) one)
    c.put_cited.ensures
