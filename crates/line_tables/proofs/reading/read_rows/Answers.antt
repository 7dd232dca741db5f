use Rattle.std.proofs.Common.{arith, ◌∙◌, ap}
use Rattle.std.proofs.lemmas.Result.{err_from_is_err_and}
use Rattle.text_lines.specs.Lines.{Unread, is_finished}
use Rattle.line_tables.specs.Tables.{format, rules_of}
use Rattle.line_tables.proofs.TextLaws.{shorter, fed_start, fed_more, fed_fails, fed_ends}
use Rattle.line_tables.proofs.reading.read_rows.Goals as goal

pub loop-text-init : goal.loop-text-init
loop-text-init c = fed_start (format c.args.letter (rules_of c.args.lines.now)) c.new-found.result c.of-left.result c.args.bytes.now c.new-found.ensures c.of-left.ensures

pub loop-text-smaller : goal.loop-text-smaller
loop-text-smaller c = omega (arith, shorter c.loop-text.left c.in-Some.text.now c.next_line.new.self c.in-Some.ensures)

pub loop-text-preserved : goal.loop-text-preserved
loop-text-preserved c =
    fed_more (format c.args.letter (rules_of c.args.lines.now)) c.loop-text.spot c.in_ok-row-in-Some.next c.loop-text.found c.push.new.self c.in_ok-row-in-Some.row c.loop-text.left c.next_line.new.self c.in-Some.text.now c.args.bytes.now c.number-number.result
    c.in-Some.ensures c.number-number.ensures c.in_ok-row-in-Some.ensures c.in_ok-push-in-Some.ensures.ok c.loop-text.invariant

pub returns-in_err-row-in-Some : goal.returns-in_err-row-in-Some
returns-in_err-row-in-Some c =
    let p = err_from_is_err_and c.from_residual.result c.from_residual.ensures.1 in
    rw (p.1, p.2)
    (fed_fails (format c.args.letter (rules_of c.args.lines.now)) c.loop-text.spot c.loop-text.found c.loop-text.left c.next_line.new.self c.in-Some.text.now c.args.bytes.now c.number-number.result c.in_err-row-in-Some.field-0.0
    c.in-Some.ensures c.number-number.ensures c.in_err-row-in-Some.ensures c.loop-text.invariant)

pub returns-in-None : goal.returns-in-None
returns-in-None c =
    fed_ends (format c.args.letter (rules_of c.args.lines.now)) c.loop-text.spot c.loop-text.found c.loop-text.left c.args.bytes.now c.number-number.result c.is_finished.result c.finish.result c.in-None.ensures.0 c.number-number.ensures
    (c.is_finished.ensures ∙ ap (λ (u : Unread). is_finished u) c.in-None.ensures.1) c.loop-text.invariant (c.finish.ensures (rules_of c.args.lines.now))
