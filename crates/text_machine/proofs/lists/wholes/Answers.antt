use Rattle.std.proofs.Common.{◌+◌, FitsSigned, refl, rules}
use Rattle.std.specs.Int.{w128}
use Rattle.std.proofs.lemmas.Int.{to_z-of_z}
use Rattle.std.proofs.lemmas.Result.{err_from_is_err_and}
use Rattle.text_machine.specs.Items.{whole}
use Rattle.text_machine.specs.Lines.{take}
use Rattle.text_lines.specs.Steps.{each}
use Rattle.text_lines.proofs.StepLaws.{each_goes_on, each_stops, each_is_done}
use Rattle.text_machine.proofs.lists.wholes.Goals as goal

pub returns-in_err-number : goal.returns-in_err-number
returns-in_err-number c =
    let p = err_from_is_err_and c.from_residual.result c.from_residual.ensures.1 in
    rw (p.1, p.2)
    (each_stops c.in_err-number.field-0.0 (λ _. take whole) c.args.count c.loop.counter c.loop.counter c.loop.numbers c.loop.fields (each (λ _. take whole) c.args.count 0 c.args.fields.now)
    c.loop-test.true c.in_err-number.ensures c.loop.invariant)

pub loop-preserved : goal.loop-preserved
loop-preserved c =
    let fits : FitsSigned w128 c.in_ok-number.number = search rules in
    rw (simp to_z-of_z at c.in_ok-push.ensures.ok)
    (each_goes_on (λ _. take whole) c.args.count c.loop.counter c.loop.counter (c.loop.counter + 1) c.loop.numbers c.loop.fields c.in_ok-number.number c.whole.new.self (each (λ _. take whole) c.args.count 0 c.args.fields.now)
    c.loop-test.true refl c.in_ok-number.ensures c.loop.invariant)

pub returns : goal.returns
returns c =
    each_is_done (λ _. take whole) c.args.count c.loop.counter c.loop.counter c.loop.numbers c.loop.fields (each (λ _. take whole) c.args.count 0 c.args.fields.now)
    c.loop-test.false c.loop.invariant
