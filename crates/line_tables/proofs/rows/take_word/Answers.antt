use Rattle.std.proofs.Common.{◌≡◌, ◌∷◌, sym, rules}
use Rattle.line_tables.proofs.RowLaws.{word_taken, word_failed}
use Rattle.line_tables.proofs.rows.take_word.Goals as goal

pub returns-in-Some-clause-exact : goal.returns-in-Some-clause-exact
returns-in-Some-clause-exact c = λ ok.
    let parts : c.args.fields.now ≡ c.in_ok-item.item.now ∷ c.next_item.new.self = search rules in
    word_taken c.args.lines.now ok c.args.fields.now c.next_item.new.self c.in_ok-item.item.now c.in-Some.at parts (sym c.in-Some.ensures.exact)

pub returns-in-None-clause-exact : goal.returns-in-None-clause-exact
returns-in-None-clause-exact c = λ ok.
    let parts : c.args.fields.now ≡ c.in_ok-item.item.now ∷ c.next_item.new.self = search rules in
    word_failed c.args.lines.now ok c.args.fields.now c.next_item.new.self c.in_ok-item.item.now parts (sym c.in-None.ensures.exact)
