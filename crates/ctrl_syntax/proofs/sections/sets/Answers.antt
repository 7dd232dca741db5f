use Rattle.std.proofs.Common.{◌≡◌, true, length, sym, ◌∙◌}
use Rattle.std.specs.Prelude.{codes}
use Rattle.std.proofs.lemmas.Result.{err_from_is_err_and}
use Rattle.ctrl_syntax.specs.Rest.{first_says}
use Rattle.ctrl_syntax.specs.Reading.{refusal, line_by, set_at, sets_by}
use Rattle.ctrl_syntax.proofs.ManyLoop.{many_goes_on, many_fails, many_is_done, some_line}
use Rattle.ctrl_syntax.proofs.sections.sets.Goals as goal

pub loop-alloc-preserved : goal.loop-alloc-preserved
unfolding sets_by
loop-alloc-preserved c =
    rw c.in_ok-push.ensures.ok
    (many_goes_on (refusal 11) (codes "set") (line_by set_at) c.loop-alloc.sets c.loop-alloc.rest (sets_by c.args.rest.now) (length c.loop-alloc.rest.lines) (length c.set_line.new.rest.lines) c.in_ok-set.set c.set_line.new.rest
    c.in_ok-set.ensures.shorter (sym c.begins_with.ensures ∙ c.loop-alloc-test.true) c.in_ok-set.ensures.exact c.loop-alloc.invariant)

pub returns-in_err-set : goal.returns-in_err-set
unfolding sets_by
returns-in_err-set c =
    let named : first_says (codes "set") c.loop-alloc.rest.lines ≡ true = sym c.begins_with.ensures ∙ c.loop-alloc-test.true in
    let p = err_from_is_err_and c.from_residual.result c.from_residual.ensures.1 in
    rw (p.1, p.2)
    (many_fails (refusal 11) (codes "set") (line_by set_at) c.loop-alloc.sets c.loop-alloc.rest (sets_by c.args.rest.now) c.in_err-set.field-0.0 (length c.loop-alloc.rest.lines) (some_line (codes "set") c.loop-alloc.rest.lines named)
    named c.in_err-set.ensures.exact c.loop-alloc.invariant)

pub returns : goal.returns
unfolding sets_by
returns c =
    many_is_done (refusal 11) (codes "set") (line_by set_at) c.loop-alloc.sets c.loop-alloc.rest (sets_by c.args.rest.now) (length c.loop-alloc.rest.lines) (sym c.begins_with.ensures ∙ c.loop-alloc-test.false) c.loop-alloc.invariant
