use Rattle.std.proofs.Common.{List, ℕ, ℤ, ◌++◌, ap, ◌∙◌, codes, string_bytes, rules, FitsSigned}
use Rattle.std.specs.Int.{w128}
use Rattle.std.proofs.lemmas.Int.{to_z-of_z}
use Rattle.picture_svg.specs.Panels.{tick_style, tick_text}
use Rattle.picture_svg.specs.Shapes.{grid_text, signed_thousandths}
use Rattle.picture_svg.proofs.WritingLaws.{ends_4, pushed}
use Rattle.picture_svg.proofs.panels.put_tick.Goals as goal

pub returns : goal.returns
unfolding tick_text
returns c =
    let old = string_bytes c.args.out.now in
    let tick = c.args.tick in
    let fits : FitsSigned w128 c.args.tick.amount = search rules in
    let amount = to_z-of_z w128 c.args.tick.amount fits in
    ends_4 c.push_str.result old _ _ _ _ (string_bytes c.put_grid.new.out) (string_bytes c.write.new.self) (string_bytes c.put_thousandths.new.out)
    (string_bytes c.push_str.new.self)
    (c.in_ok-put_grid.ensures ∙ ap (λ (style : List ℕ). old ++ grid_text style tick.up) c.tick_style.ensures
    ∙ ap (λ (z : ℤ). old ++ grid_text (tick_style z) tick.up) amount)
    c.in_ok-write.ensures.bytes
    (c.in_ok-put_thousandths.ensures ∙ ap (λ (z : ℤ). string_bytes c.write.new.self ++ signed_thousandths z) amount)
    (pushed c.push_str.result (string_bytes c.put_thousandths.new.out) (codes "</text>\n") (string_bytes c.push_str.new.self) c.push_str.ensures.bytes)
