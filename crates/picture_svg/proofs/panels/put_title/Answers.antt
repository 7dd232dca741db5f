use Rattle.std.proofs.Common.{List, ℕ, ◌++◌, ap, ◌∙◌, codes, string_bytes}
use Rattle.picture_svg.specs.Panels.{title_text}
use Rattle.picture_svg.proofs.WritingLaws.{ends_5, pushed}
use Rattle.picture_svg.proofs.panels.put_title.Goals as goal

pub returns : goal.returns
unfolding title_text
returns c =
    ends_5 c.push_str-4.result (string_bytes c.args.out.now) _ _ _ _ _ (string_bytes c.push_str.new.self) (string_bytes c.put_name.new.out) (string_bytes c.push_str-2.new.self)
    (string_bytes c.push_str-3.new.self) (string_bytes c.push_str-4.new.self)
    c.in_ok-push_str.ensures.bytes c.in_ok-put_name.ensures c.in_ok-push_str-2.ensures.bytes
    (c.in_ok-push_str-3.ensures.bytes ∙ ap (λ (unit : List ℕ). string_bytes c.push_str-2.new.self ++ unit) c.unit_of.ensures) (pushed c.push_str-4.result (string_bytes c.push_str-3.new.self) (codes "</text>\n") (string_bytes c.push_str-4.new.self) c.push_str-4.ensures.bytes)
