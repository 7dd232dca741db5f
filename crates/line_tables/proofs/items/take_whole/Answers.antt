use Rattle.std.proofs.Common.{FitsSigned, rules}
use Rattle.std.specs.Int.{w128}
use Rattle.std.proofs.lemmas.Int.{to_z-of_z}
use Rattle.std.proofs.lemmas.Result.{err_from_is_err_and}
use Rattle.text_machine.specs.Items.{whole}
use Rattle.line_tables.proofs.ItemLaws.{number_taken, number_failed}
use Rattle.line_tables.proofs.items.take_whole.Goals as goal

pub returns-in_err-found : goal.returns-in_err-found
returns-in_err-found c = λ form.
    let p = err_from_is_err_and c.from_residual.result c.from_residual.ensures.1 in
    rw (p.1, p.2) (number_failed whole (λ _. form) c.args.numbers.now c.args.fields.now c.in_err-found.field-0.0 c.in_err-found.ensures)

pub returns : goal.returns
returns c = λ form.
    let fits : FitsSigned w128 c.in_ok-found.found = search rules in
    rw (simp to_z-of_z at c.in_ok-push.ensures.ok) (number_taken whole (λ _. form) c.args.numbers.now c.args.fields.now c.whole.new.self c.in_ok-found.found c.in_ok-found.ensures)
