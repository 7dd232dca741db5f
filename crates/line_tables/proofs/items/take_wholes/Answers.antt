use Rattle.std.proofs.Common.{◌+◌, ◌-◌, ◌∙◌}
use Rattle.std.proofs.lemmas.Result.{err_from_is_err_and}
use Rattle.text_machine.specs.Items.{whole}
use Rattle.text_machine.specs.Lines.{number, times, read_line}
use Rattle.line_tables.specs.Given.{onto}
use Rattle.line_tables.proofs.ItemLaws.{fails_along, one_of_times}
use Rattle.line_tables.proofs.items.take_wholes.Goals as goal

pub returns-in_err-take_whole : goal.returns-in_err-take_whole
returns-in_err-take_whole c = λ form.
    let p = err_from_is_err_and c.from_residual.result c.from_residual.ensures.1 in
    let left = times (c.args.count - (c.loop.counter + 1)) whole form in
    rw (p.1, p.2)
    (fails_along c.in_err-take_whole.field-0.0 (onto c.args.numbers.now (read_line (times c.args.count whole form) c.args.fields.now)) (onto c.loop.numbers (read_line (number whole (λ _. left)) c.loop.fields))
    (c.loop.invariant form ∙ one_of_times c.args.count c.loop.counter form c.loop.numbers c.loop.fields c.loop-test.true) (c.in_err-take_whole.ensures left))

pub loop-preserved : goal.loop-preserved
loop-preserved c = λ form.
    c.loop.invariant form ∙ one_of_times c.args.count c.loop.counter form c.loop.numbers c.loop.fields c.loop-test.true
    ∙ c.in_ok-take_whole.ensures (times (c.args.count - (c.loop.counter + 1)) whole form)
