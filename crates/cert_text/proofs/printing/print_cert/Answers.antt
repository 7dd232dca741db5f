use Rattle.std.proofs.Common.{List, ℕ, ◌++◌, ap, ◌∙◌, string_bytes}
use Rattle.std.specs.Global.{Vec}
use Rattle.text_lines.specs.Pieces.{text}
use Rattle.farkas_cert.specs.Trees.{derived}
use Rattle.cert_text.specs.Spelling.{certificate, lemma_lines}
use Rattle.cert_text.proofs.PrintLaws.{cert_written, numbered-map, spells}
use Rattle.cert_text.proofs.printing.print_cert.Goals as goal

pub returns-clause-text : goal.returns-clause-text
returns-clause-text c =
    ap (λ (v : Vec ℕ). v.items) c.into_bytes.ensures.value
    ∙ cert_written (certificate c.args.cert.now) (string_bytes c.new-out.result) (string_bytes c.push_str.new.self) (string_bytes c.put_size.new.out) (string_bytes c.put_lemmas.new.out) (string_bytes c.push_str-2.new.self)
    c.new-out.ensures.bytes c.in_ok-push_str.ensures.bytes c.in_ok-put_size.ensures
    (rw c.as_slice.ensures at c.in_ok-put_lemmas.ensures ∙ ap (λ (ls : List (List (List ℕ))). string_bytes c.put_size.new.out ++ text ls) (numbered-map lemma_lines derived 0 c.args.cert.now.lemmas))
    c.in_ok-push_str-2.ensures.bytes

pub returns-clause-spells : goal.returns-clause-spells
returns-clause-spells c within = spells c.into_bytes.result.items (certificate c.args.cert.now) (returns-clause-text c) within
