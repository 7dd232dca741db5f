use Rattle.std.proofs.lemmas.Result.{err_from_is_err_and}
use Rattle.text_machine.specs.Items.{literal}
use Rattle.text_machine.specs.Lines.{take_all}
use Rattle.cert_text.specs.Rules.{index_limit}
use Rattle.cert_text.proofs.LineLaws.{lits_go_on, lits_stop, lits_are_done}
use Rattle.cert_text.proofs.lines.literals.Goals as goal

pub returns-in_err-found : goal.returns-in_err-found
returns-in_err-found c =
    let p = err_from_is_err_and c.from_residual.result c.from_residual.ensures.1 in
    rw (p.1, p.2)
    (lits_stop c.loop-item.lits.items c.in_err-found.field-0.0 c.in-Some.item.now c.loop-item.fields c.next_item.new.self (take_all (literal index_limit) c.args.fields.now)
    c.in-Some.ensures c.in_err-found.ensures.exact c.loop-item.invariant)

pub loop-item-preserved : goal.loop-item-preserved
loop-item-preserved c =
    lits_go_on c.loop-item.lits.items c.push.new.self.items (record { atom = c.in_ok-found.found.atom; positive = c.in_ok-found.found.positive }) c.in-Some.item.now c.loop-item.fields c.next_item.new.self (take_all (literal index_limit) c.args.fields.now)
    c.in_ok-push.ensures.items c.in-Some.ensures c.in_ok-found.ensures.exact c.loop-item.invariant

pub returns : goal.returns
returns c =
    rw c.from_vec.ensures
    (lits_are_done c.loop-item.lits.items c.loop-item.fields (take_all (literal index_limit) c.args.fields.now) c.in_default.ensures.0 c.loop-item.invariant)
