use Rattle.std.proofs.Common.{arith, ◌∙◌, ap}
use Rattle.std.proofs.lemmas.Result.{err_from_is_err_and}
use Rattle.text_lines.specs.Lines.{Unread, is_finished}
use Rattle.cert_text.proofs.FeedLaws.{feeds_start, shorter, feeds_more, feeds_fail, feeds_end}
use Rattle.cert_text.proofs.reading.read_lines.Goals as goal

pub loop-line-init : goal.loop-line-init
loop-line-init c = feeds_start c.new-draft.result c.of-lines.result c.args.bytes.now c.of-lines.ensures c.new-draft.ensures.stage c.new-draft.ensures.table c.new-draft.ensures.agrees c.new-draft.ensures.none

pub loop-line-smaller : goal.loop-line-smaller
loop-line-smaller c = omega (arith, (shorter c.loop-line.lines c.in-Some.line.now c.next_line.new.self c.in-Some.ensures).1)

pub loop-line-preserved : goal.loop-line-preserved
loop-line-preserved c =
    feeds_more c.loop-line.draft c.feed.new.self c.loop-line.lines c.next_line.new.self c.in-Some.line.now c.args.bytes.now c.number-number.result c.in-Some.ensures c.number-number.ensures c.in_ok-feed-in-Some.ensures c.loop-line.invariant

pub returns-in_err-feed-in-Some : goal.returns-in_err-feed-in-Some
returns-in_err-feed-in-Some c =
    let p = err_from_is_err_and c.from_residual.result c.from_residual.ensures.1 in
    rw (p.1, p.2)
    (feeds_fail c.loop-line.draft c.loop-line.lines c.next_line.new.self c.in-Some.line.now c.args.bytes.now c.number-number.result c.in_err-feed-in-Some.field-0.0 c.in-Some.ensures c.number-number.ensures c.in_err-feed-in-Some.ensures c.loop-line.invariant)

pub returns-in-None : goal.returns-in-None
returns-in-None c =
    feeds_end c.loop-line.draft c.loop-line.lines c.args.bytes.now c.number-number.result c.is_finished.result c.finish.result c.in-None.ensures.0 c.number-number.ensures
    (c.is_finished.ensures ∙ ap (λ (u : Unread). is_finished u) c.in-None.ensures.1) c.loop-line.invariant c.finish.ensures
