use Rattle.std.proofs.Common.{List, ℤ, Ok, ◌∙◌, ap}
use Rattle.std.proofs.lemmas.List.{append-nil}
use Rattle.std.proofs.lemmas.Result.{err_from_is_err_and}
use Rattle.line_tables.specs.Given.{onto}
use Rattle.line_tables.proofs.ItemLaws.{last_kind}
use Rattle.line_tables.proofs.items.items_of.Goals as goal

pub returns-in_err-end : goal.returns-in_err-end
returns-in_err-end c =
    let p = err_from_is_err_and c.from_residual-in_err-end.result c.from_residual-in_err-end.ensures.1 in
    rw (p.1, p.2)
    (c.loop-item.invariant ∙ last_kind c.args.items.now c.loop-item.item-index c.loop-item.numbers c.loop-item.fields c.loop-item-test.false ∙ ap (onto c.loop-item.numbers) c.in_err-end.ensures)

pub returns : goal.returns
returns c =
    c.loop-item.invariant ∙ last_kind c.args.items.now c.loop-item.item-index c.loop-item.numbers c.loop-item.fields c.loop-item-test.false ∙ ap (onto c.loop-item.numbers) c.in_ok-end.ensures
    ∙ ap (λ (zs : List ℤ). Ok zs) (append-nil c.loop-item.numbers)
