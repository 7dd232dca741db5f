use Rattle.std.proofs.Common.{◌∙◌, unsigned_abs}
use Rattle.std.proofs.lemmas.Result.{err_from_is_err_and}
use Rattle.text_machine.specs.Items.{whole}
use Rattle.text_machine.specs.Lines.{times}
use Rattle.line_tables.specs.Tables.{form_of}
use Rattle.line_tables.proofs.ItemLaws.{fails_along, as_natural, as_whole, as_wholes}
use Rattle.line_tables.proofs.items.take_item.Goals as goal

pub returns-in_err-take_natural-in-Natural : goal.returns-in_err-take_natural-in-Natural
returns-in_err-take_natural-in-Natural c = λ items.
    let p = err_from_is_err_and c.from_residual.result c.from_residual.ensures.1 in
    rw (p.1, p.2)
    (fails_along c.in_err-take_natural-in-Natural.field-0.0 _ _ (as_natural c.in-Natural.low c.in-Natural.high c.args.item items c.args.numbers.now c.args.fields.now c.in-Natural.is)
    (c.in_err-take_natural-in-Natural.ensures (λ _. form_of items)))

pub returns-in_ok-take_natural-in-Natural : goal.returns-in_ok-take_natural-in-Natural
returns-in_ok-take_natural-in-Natural c = λ items.
    as_natural c.in-Natural.low c.in-Natural.high c.args.item items c.args.numbers.now c.args.fields.now c.in-Natural.is ∙ c.in_ok-take_natural-in-Natural.ensures (λ _. form_of items)

pub returns-in_err-take_whole-in-Whole : goal.returns-in_err-take_whole-in-Whole
returns-in_err-take_whole-in-Whole c = λ items.
    let p = err_from_is_err_and c.from_residual-in_err-take_whole-in-Whole.result c.from_residual-in_err-take_whole-in-Whole.ensures.1 in
    rw (p.1, p.2)
    (fails_along c.in_err-take_whole-in-Whole.field-0.0 _ _ (as_whole c.args.item items c.args.numbers.now c.args.fields.now c.in-Whole.is) (c.in_err-take_whole-in-Whole.ensures (form_of items)))

pub returns-in_ok-take_whole-in-Whole : goal.returns-in_ok-take_whole-in-Whole
returns-in_ok-take_whole-in-Whole c = λ items.
    as_whole c.args.item items c.args.numbers.now c.args.fields.now c.in-Whole.is ∙ c.in_ok-take_whole-in-Whole.ensures (form_of items)

pub returns-in_err-count-in-Wholes : goal.returns-in_err-count-in-Wholes
returns-in_err-count-in-Wholes c = λ items.
    let p = err_from_is_err_and c.from_residual-in_err-count-in-Wholes.result c.from_residual-in_err-count-in-Wholes.ensures.1 in
    rw (p.1, p.2)
    (fails_along c.in_err-count-in-Wholes.field-0.0 _ _ (as_wholes c.in-Wholes.most c.args.item items c.args.numbers.now c.args.fields.now c.in-Wholes.is)
    (c.in_err-count-in-Wholes.ensures (λ count. times (unsigned_abs count) whole (form_of items))))

pub returns-in_err-take_wholes-in-Wholes : goal.returns-in_err-take_wholes-in-Wholes
returns-in_err-take_wholes-in-Wholes c = λ items.
    let p = err_from_is_err_and c.from_residual-in_err-take_wholes-in-Wholes.result c.from_residual-in_err-take_wholes-in-Wholes.ensures.1 in
    rw (p.1, p.2)
    (fails_along c.in_err-take_wholes-in-Wholes.field-0.0 _ _
    (as_wholes c.in-Wholes.most c.args.item items c.args.numbers.now c.args.fields.now c.in-Wholes.is ∙ c.in_ok-count-in-Wholes.ensures (λ count. times (unsigned_abs count) whole (form_of items)))
    (c.in_err-take_wholes-in-Wholes.ensures (form_of items)))

pub returns-in_ok-take_wholes-in-Wholes : goal.returns-in_ok-take_wholes-in-Wholes
returns-in_ok-take_wholes-in-Wholes c = λ items.
    as_wholes c.in-Wholes.most c.args.item items c.args.numbers.now c.args.fields.now c.in-Wholes.is ∙ c.in_ok-count-in-Wholes.ensures (λ count. times (unsigned_abs count) whole (form_of items))
    ∙ c.in_ok-take_wholes-in-Wholes.ensures (form_of items)
