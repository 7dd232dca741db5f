use Rattle.std.proofs.Common.{◌≡◌, ◌∙◌, ap, subst, sym, refl, List, map, string_bytes}
use Rattle.std.specs.Prelude.{IfOk, IsTrue}
use Rattle.command_words.specs.Forms.{Entry, are_entries, asked_of, entry_of}
use Rattle.command_table.specs.Plain.{bytes_of, plain_of, wants_json}
use Rattle.command_line.specs.Table.{commands}
use Rattle.command_line.proofs.table.plain.Goals as goal

pub plain_words-requires : goal.plain_words-requires
plain_words-requires c =
    let table : map entry_of c.as_slice.result.now ≡ commands = ap (map entry_of) c.as_slice.ensures.value ∙ c.in_ok-forms.ensures in
    subst (λ (es : List Entry). IsTrue (are_entries es)) (sym table) refl

pub returns-clause-words : goal.returns-clause-words
returns-clause-words c =
    let table : map entry_of c.as_slice.result.now ≡ commands = ap (map entry_of) c.as_slice.ensures.value ∙ c.in_ok-forms.ensures in
    subst (λ (es : List Entry). IfOk c.plain_words.result (λ plain. bytes_of plain ≡ plain_of (asked_of es (map string_bytes c.args.words.now))))
    table c.plain_words.ensures.words

pub returns-clause-json : goal.returns-clause-json
returns-clause-json c =
    let table : map entry_of c.as_slice.result.now ≡ commands = ap (map entry_of) c.as_slice.ensures.value ∙ c.in_ok-forms.ensures in
    subst (λ (es : List Entry). IfOk c.plain_words.result (λ plain. plain.json ≡ wants_json (asked_of es (map string_bytes c.args.words.now))))
    table c.plain_words.ensures.json
