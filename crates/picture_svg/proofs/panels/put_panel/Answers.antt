use Rattle.std.proofs.Common.{List, ℕ, ◌++◌, ap, ◌∙◌, codes, string_bytes}
use Rattle.trace_picture.specs.declared.panels.Line.{Line}
use Rattle.picture_svg.specs.Panels.{area_of, legend_text, line_text, panel_text}
use Rattle.picture_svg.specs.Shapes.{listed}
use Rattle.picture_svg.proofs.WritingLaws.{ends_2, ends_3, ends_4, pushed}
use Rattle.picture_svg.proofs.panels.put_panel.Goals as goal

pub returns : goal.returns
unfolding panel_text
returns c =
    ends_2 c.push_str.result (string_bytes c.args.out.now) _ _ (string_bytes c.write.new.self) (string_bytes c.push_str.new.self) c.in_ok-write.ensures.bytes
    (ends_4 c.push_str.result (string_bytes c.write.new.self) _ _ _ _ (string_bytes c.put_title.new.out) (string_bytes c.put_areas.new.out) (string_bytes c.put_axes.new.out)
    (string_bytes c.push_str.new.self) c.in_ok-put_title.ensures
    (c.in_ok-put_areas.ensures ∙ ap (λ (lines : List Line). string_bytes c.put_title.new.out ++ listed area_of lines) c.as_slice.ensures)
    c.in_ok-put_axes.ensures
    (ends_3 c.push_str.result (string_bytes c.put_axes.new.out) _ _ _ (string_bytes c.put_lines.new.out) (string_bytes c.put_legend.new.out) (string_bytes c.push_str.new.self)
    (c.in_ok-put_lines.ensures ∙ ap (λ (lines : List Line). string_bytes c.put_axes.new.out ++ listed line_text lines) c.as_slice-2.ensures)
    (c.in_ok-put_legend.ensures ∙ ap (λ (lines : List Line). string_bytes c.put_lines.new.out ++ legend_text lines) c.as_slice-3.ensures)
    (pushed c.push_str.result (string_bytes c.put_legend.new.out) (codes "</g>\n") (string_bytes c.push_str.new.self) c.push_str.ensures.bytes)))
