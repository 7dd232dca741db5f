use Rattle.std.proofs.Common.{◌≡◌, Some, None, slice_get, sym, ◌∙◌, ap}
use Rattle.std.specs.Option.{option_copied}
use Rattle.lra_theory.proofs.CutLaws.{cut-refused, cut-told, mark-within}
use Rattle.lra_theory.proofs.undoing.cut.Goals as goal

pub undo-requires : goal.undo-requires
undo-requires g c =
    let at : slice_get c.args.trail.now.told.items c.args.mark ≡ Some c.in-Some.told.now = ap (λ ls. slice_get ls c.args.mark) (sym c.as_slice.ensures.value) ∙ sym c.at.ensures ∙ ap option_copied c.in-Some.is in
    mark-within g.F.OrderedField.value c.args.trail.now.told.items c.args.trail.now.refused c.args.simplex.now c.args.mark c.in-Some.told.now at c.requires.sound.0 c.requires.sound.1

pub returns-in-Some : goal.returns-in-Some
returns-in-Some g c =
    let at : slice_get c.args.trail.now.told.items c.args.mark ≡ Some c.in-Some.told.now = ap (λ ls. slice_get ls c.args.mark) (sym c.as_slice.ensures.value) ∙ sym c.at.ensures ∙ ap option_copied c.in-Some.is in
    cut-told g.F.OrderedField.value c.args.trail.now.told.items c.args.trail.now.refused c.args.simplex.now c.args.mark c.in-Some.told.now at c.requires.sound.0 c.requires.sound.1 c.undo.new.self c.undo.ensures.undone c.truncate.new.self.items c.truncate.ensures.items

pub returns-in_default : goal.returns-in_default
returns-in_default g c =
    let at : slice_get c.args.trail.now.told.items c.args.mark ≡ None = ap (λ ls. slice_get ls c.args.mark) (sym c.as_slice.ensures.value) ∙ sym c.at.ensures ∙ ap option_copied c.in_default.is in
    cut-refused g.F.OrderedField.value c.args.trail.now.told.items c.args.trail.now.refused c.args.simplex.now c.args.mark c.requires.sound.0 c.requires.sound.1 at c.requires.some
