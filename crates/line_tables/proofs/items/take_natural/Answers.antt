use Rattle.std.proofs.Common.{◌<◌, ◌^◌, ◌∷◌, [], ◌++◌, ◌≡◌, ◌∙◌, ℤ, ap, pos, arith}
use Rattle.std.specs.Int.{w128}
use Rattle.std.proofs.lemmas.Int.{to_z_pos}
use Rattle.std.proofs.lemmas.Result.{err_from_is_err_and}
use Rattle.text_machine.specs.Items.{natural}
use Rattle.line_tables.proofs.ItemLaws.{number_taken, number_failed}
use Rattle.line_tables.proofs.items.take_natural.Goals as goal

pub returns-in_err-found : goal.returns-in_err-found
returns-in_err-found c = λ form.
    let p = err_from_is_err_and c.from_residual.result c.from_residual.ensures.1 in
    rw (p.1, p.2) (number_failed (natural c.args.low c.args.high) form c.args.numbers.now c.args.fields.now c.in_err-found.field-0.0 c.in_err-found.ensures.exact)

pub returns : goal.returns
returns c = λ form.
    let fits : c.in_ok-found.found < 2 ^ 127 = omega (arith, c.in_ok-found.ensures.range.1, c.ranges.high.fits) in
    let longer : c.push.new.self ≡ c.args.numbers.now ++ pos c.in_ok-found.found ∷ [] =
    c.in_ok-push.ensures.ok ∙ ap (λ (z : ℤ). c.args.numbers.now ++ z ∷ []) (to_z_pos w128 c.in_ok-found.found fits) in
    rw longer (number_taken (natural c.args.low c.args.high) form c.args.numbers.now c.args.fields.now c.natural.new.self (pos c.in_ok-found.found) c.in_ok-found.ensures.exact)
