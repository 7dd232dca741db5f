use Rattle.std.proofs.Common.{List, ℕ, ◌++◌, ap, ◌∙◌, string_bytes}
use Rattle.std.specs.Global.{Vec}
use Rattle.text_lines.specs.Steps.{numbered}
use Rattle.trace_picture.specs.declared.panels.Panel.{Panel}
use Rattle.picture_svg.specs.Documents.{document_text, opening_text}
use Rattle.picture_svg.specs.Panels.{panel_text}
use Rattle.picture_svg.proofs.WritingLaws.{joins}
use Rattle.picture_svg.proofs.documents.svg.Goals as goal

pub returns : goal.returns
unfolding document_text
returns c =
    let p = c.args.picture.now in
    ap (λ (v : Vec ℕ). v.items) c.into_bytes.ensures.value
    ∙ joins (string_bytes c.new-out.result) _ _ (string_bytes c.put_opening.new.out) (string_bytes c.push_str-3.new.self) (c.in_ok-put_opening.ensures ∙ ap (λ (n : ℕ). string_bytes c.new-out.result ++ opening_text n) c.len.ensures)
    (joins (string_bytes c.put_opening.new.out) _ _ (string_bytes c.push_str.new.self) (string_bytes c.push_str-3.new.self) c.in_ok-push_str.ensures.bytes (joins (string_bytes c.push_str.new.self) _ _ (string_bytes c.push_str-2.new.self) (string_bytes c.push_str-3.new.self) c.in_ok-push_str-2.ensures.bytes (joins (string_bytes c.push_str-2.new.self) _ _ (string_bytes c.put_head.new.out) (string_bytes c.push_str-3.new.self) c.in_ok-put_head.ensures
    (joins (string_bytes c.put_head.new.out) _ _ (string_bytes c.put_panels.new.out) (string_bytes c.push_str-3.new.self)
    (c.in_ok-put_panels.ensures ∙ ap (λ (panels : List Panel). string_bytes c.put_head.new.out ++ numbered (panel_text p) 0 panels) c.as_slice.ensures)
    c.in_ok-push_str-3.ensures.bytes))))
    ∙ ap (λ (none : List ℕ). none ++ document_text p) c.new-out.ensures.bytes
