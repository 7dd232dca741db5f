use Rattle.std.proofs.Common.{◌≡◌, [], ◌∷◌, ◌++◌, List, ℕ, sym, ap, ◌∙◌, string_bytes, append_assoc}
use Rattle.std.specs.Prelude.{codes}
use Rattle.std.specs.Global.{Vec}
use Rattle.text_lines.specs.Pieces.{ended, text}
use Rattle.text_lines.specs.Steps.{numbered}
use Rattle.text_lines.proofs.PieceLaws.{text-append, text-push}
use Rattle.trace_text.specs.Spelling.{Line, header, shape_line, over_line, credit_line, row_lines, trace_lines}
use Rattle.trace_text.proofs.printing.print_trace.Goals as goal

pub returns : goal.returns
unfolding trace_lines
returns c =
    let head : List Line = header ∷ shape_line c.args.shape.now ∷ over_line c.args.run.now ∷ credit_line c.args.run.now ∷ [] in
    let rows : List Line = numbered row_lines 0 c.args.run.now.rows in
    let last : Line = codes "end" ∷ [] in
    let start : string_bytes c.put_head.new.out ≡ text head = c.in_ok-put_head.ensures ∙ ap (λ (x : List ℕ). x ++ text head) c.new-out.ensures.bytes in
    let middle : string_bytes c.put_rows.new.out ≡ text head ++ text rows = rw c.as_slice.ensures at c.in_ok-put_rows.ensures ∙ ap (λ (x : List ℕ). x ++ text rows) start in
    let whole : string_bytes c.push_str.new.self ≡ (text head ++ text rows) ++ ended last = c.in_ok-push_str.ensures.bytes ∙ ap (λ (x : List ℕ). x ++ ended last) middle in
    ap (λ (v : Vec ℕ). v.items) c.into_bytes.ensures.value ∙ whole ∙ append_assoc (text head) (text rows) (ended last)
    ∙ ap (λ (x : List ℕ). text head ++ x) (sym (text-push rows last)) ∙ sym (text-append head (rows ++ last ∷ []))
