use Rattle.std.proofs.Common.{[], ◌∷◌, ◌++◌, ◌∙◌, ap, List, ℕ, map, string_bytes}
use Rattle.std.specs.Prelude.{codes}
use Rattle.std.specs.Fmt.{decimal}
use Rattle.text_lines.proofs.PieceLaws.{line_is_ended, text_of_one}
use Rattle.cert_text.specs.Spelling.{literal_item, lemma_line}
use Rattle.cert_text.proofs.printing.put_clause.Goals as goal

pub returns : goal.returns
returns c =
    line_is_ended _ _ _ _ (codes "lemma") (decimal c.args.number ∷ []) (map literal_item c.args.lits.now) c.in_ok-put_number.ensures c.in_ok-put_literals.ensures c.in_ok-push_str.ensures.bytes
    ∙ ap (λ (x : List ℕ). string_bytes c.args.out.now ++ x) (text_of_one (lemma_line c.args.number c.args.lits.now))
