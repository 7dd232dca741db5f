use Rattle.std.proofs.Common.{[], ◌∷◌, ◌++◌, ◌∙◌, ap, List, ℕ, length, string_bytes}
use Rattle.std.specs.Prelude.{codes}
use Rattle.std.specs.Fmt.{decimal}
use Rattle.text_lines.proofs.PieceLaws.{line_is_ended, text_of_one}
use Rattle.cert_text.specs.Spelling.{part_items, farkas_line}
use Rattle.cert_text.proofs.printing.put_farkas.Goals as goal

pub returns : goal.returns
returns c =
    line_is_ended _ _ _ _ (codes "f") (decimal (length c.args.parts.now) ∷ []) (part_items c.args.parts.now) c.in_ok-put_count.ensures c.in_ok-put_parts.ensures c.in_ok-push_str.ensures.bytes
    ∙ ap (λ (x : List ℕ). string_bytes c.args.out.now ++ x) (text_of_one (farkas_line c.args.parts.now))
