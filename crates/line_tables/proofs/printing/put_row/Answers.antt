use Rattle.std.proofs.Common.{[], ◌++◌, ◌∙◌, ap, List, ℕ, map, string_bytes}
use Rattle.std.specs.Fmt.{signed_decimal}
use Rattle.text_lines.proofs.PieceLaws.{line_is_ended, text_of_one}
use Rattle.line_tables.specs.Tables.{row_items, rule_at, rules_of}
use Rattle.line_tables.proofs.printing.put_row.Goals as goal

pub returns : goal.returns
returns c =
    let rules = rules_of c.args.lines.now in
    line_is_ended _ _ _ _ (rule_at rules c.args.row.now.line).word [] (map signed_decimal c.args.row.now.numbers)
    (c.in_ok-push_str.ensures.bytes ∙ ap (λ (w : List ℕ). string_bytes c.args.out.now ++ w) c.word_of.ensures) (rw c.as_slice.ensures at c.in_ok-put_numbers.ensures) c.in_ok-push_str-2.ensures.bytes
    ∙ ap (λ (x : List ℕ). string_bytes c.args.out.now ++ x) (text_of_one (row_items rules c.args.row.now))
