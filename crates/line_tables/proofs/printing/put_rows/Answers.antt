use Rattle.std.proofs.Common.{List, ℕ, ◌+◌, ◌++◌, ◌∙◌, ap, sym, refl, string_bytes}
use Rattle.text_lines.specs.Pieces.{text}
use Rattle.text_lines.specs.Steps.{numbered}
use Rattle.text_lines.proofs.PieceLaws.{lines_go_on, lines_are_done, text_of_one}
use Rattle.line_tables.specs.Tables.{row_items, row_texts, rules_of}
use Rattle.line_tables.proofs.printing.put_rows.Goals as goal

pub loop-row-preserved : goal.loop-row-preserved
loop-row-preserved c =
    let i = c.loop-row.row-index in
    let rules = rules_of c.args.lines.now in
    lines_go_on (row_texts rules) c.row-item.result c.args.rows.now i i (i + 1) (string_bytes c.args.out.now) (string_bytes c.loop-row.out) (string_bytes c.put_row.new.out)
    (text (numbered (row_texts rules) 0 c.args.rows.now)) c.loop-row-test.true c.row-item.is refl c.loop-row.invariant
    (c.in_ok-put_row.ensures ∙ ap (λ (x : List ℕ). string_bytes c.loop-row.out ++ x) (sym (text_of_one (row_items rules c.row-item.result))))

pub returns : goal.returns
returns c =
    let rules = rules_of c.args.lines.now in
    lines_are_done (row_texts rules) c.args.rows.now c.loop-row.row-index c.loop-row.row-index (string_bytes c.args.out.now) (string_bytes c.loop-row.out) (text (numbered (row_texts rules) 0 c.args.rows.now))
    c.loop-row-test.false c.loop-row.invariant
