use Rattle.std.proofs.Common.{List, ℕ, ◌++◌, ◌∙◌, ap, sym}
use Rattle.std.specs.Global.{Vec}
use Rattle.text_lines.specs.Pieces.{text}
use Rattle.text_lines.specs.Steps.{numbered}
use Rattle.line_tables.specs.declared.spots.Spot.TheVariants.{Start}
use Rattle.line_tables.specs.Tables.{row_texts, rules_of}
use Rattle.line_tables.proofs.RowLaws.{rows_spelled}
use Rattle.line_tables.proofs.printing.print.Goals as goal

pub returns : goal.returns
returns c = record {
  text_is =
      ap (λ (v : Vec ℕ). v.items) c.into_bytes.ensures.value ∙ c.in_ok-put_rows.ensures
      ∙ ap (λ (x : List ℕ). x ++ text (numbered (row_texts (rules_of c.args.table.now.lines.now)) 0 c.args.rows.now)) c.new-out.ensures.bytes
      ∙ ap text (sym (rows_spelled c.args.table.now.letter (rules_of c.args.table.now.lines.now) c.requires.words Start 0 c.args.rows.now c.requires.whole));
  is_whole = c.requires.whole;
}
