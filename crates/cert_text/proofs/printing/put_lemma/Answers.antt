use Rattle.std.proofs.Common.{◌≡◌, ◌++◌, List, subst, string_bytes}
use Rattle.text_lines.specs.Pieces.{ended}
use Rattle.text_lines.proofs.PieceLaws.{line_then}
use Rattle.farkas_cert.specs.declared.literals.Lit.{Lit}
use Rattle.farkas_cert.specs.Trees.{tree_of}
use Rattle.cert_text.specs.Spelling.{lemma_line, tree_lines}
use Rattle.cert_text.proofs.printing.put_lemma.Goals as goal

pub returns : goal.returns
returns c =
    let lemma = c.args.lemma.now in
    line_then _ _ _ (lemma_line c.args.number lemma.clause) (tree_lines (tree_of lemma.proof))
    (subst (λ (ls : List Lit). string_bytes c.put_clause.new.out ≡ string_bytes c.args.out.now ++ ended (lemma_line c.args.number ls)) c.as_slice.ensures c.in_ok-put_clause.ensures) c.in_ok-put_tree.ensures
