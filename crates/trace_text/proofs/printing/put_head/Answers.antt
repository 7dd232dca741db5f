use Rattle.std.proofs.Common.{[], ◌∷◌, ◌++◌, List, ℕ, sym, ap, ◌∙◌, string_bytes}
use Rattle.text_lines.proofs.PieceLaws.{line_then, text_of_one}
use Rattle.trace_text.specs.Spelling.{header, shape_line, over_line, credit_line}
use Rattle.trace_text.proofs.printing.put_head.Goals as goal

pub returns : goal.returns
returns c =
    let shape = shape_line c.args.shape.now in
    let over = over_line c.args.run.now in
    let credit = credit_line c.args.run.now in
    line_then _ _ _ header (shape ∷ over ∷ credit ∷ []) c.in_ok-push_str.ensures.bytes
    (line_then _ _ _ shape (over ∷ credit ∷ []) c.in_ok-put_shape.ensures
    (line_then _ _ _ over (credit ∷ []) c.in_ok-put_over.ensures
    (c.in_ok-put_credit.ensures ∙ ap (λ (rest : List ℕ). string_bytes c.put_over.new.out ++ rest) (sym (text_of_one credit)))))
