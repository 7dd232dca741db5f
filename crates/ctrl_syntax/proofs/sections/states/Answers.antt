use Rattle.std.proofs.Common.{◌≡◌, ◌+◌, ◌-◌, ◌<◌, suc, List, length, length-append, sym, ap, subst, ◌∙◌, arith}
use Rattle.std.specs.Prelude.{codes}
use Rattle.std.proofs.lemmas.Result.{err_from_is_err_and}
use Rattle.text_lines.proofs.StepLaws.{with_front}
use Rattle.ctrl_syntax.specs.declared.syntax.StateLine.{StateLine}
use Rattle.ctrl_syntax.specs.Reading.{refusal, line_by, state_at, many_by}
use Rattle.ctrl_syntax.proofs.ManyLoop.{many_goes_on, many_fails, many_is_full, many_is_done}
use Rattle.ctrl_syntax.proofs.sections.states.Goals as goal

pub returns-then-len-eq-STATE_LIMIT : goal.returns-then-len-eq-STATE_LIMIT
returns-then-len-eq-STATE_LIMIT c =
    let none : 8 - length c.loop-alloc.states ≡ 0 = omega arith in
    rw (c.refusal.ensures, c.number.ensures) (many_is_full (refusal 11) (codes "state") (line_by state_at) c.loop-alloc.states c.loop-alloc.rest (many_by (codes "state") (line_by state_at) 8 c.args.rest.now) (8 - length c.loop-alloc.states) none (sym c.begins_with.ensures ∙ c.loop-alloc-test.true) c.loop-alloc.invariant.told)

pub loop-alloc-preserved : goal.loop-alloc-preserved
loop-alloc-preserved c =
    let size : length c.push.new.self ≡ length c.loop-alloc.states + 1 = omega (arith, simp length-append at (ap length c.in_ok-push.ensures.ok)) in
    let more : 8 - length c.loop-alloc.states ≡ suc (8 - length c.push.new.self) = omega arith in
    record {
      told = subst (λ (front : List StateLine). with_front front (many_by (codes "state") (line_by state_at) (8 - length c.push.new.self) c.state_line.new.rest) ≡ many_by (codes "state") (line_by state_at) 8 c.args.rest.now)
          (sym c.in_ok-push.ensures.ok)
          (many_goes_on (refusal 11) (codes "state") (line_by state_at) c.loop-alloc.states c.loop-alloc.rest (many_by (codes "state") (line_by state_at) 8 c.args.rest.now) (8 - length c.loop-alloc.states) (8 - length c.push.new.self) c.in_ok-state.state c.state_line.new.rest more (sym c.begins_with.ensures ∙ c.loop-alloc-test.true) c.in_ok-state.ensures c.loop-alloc.invariant.told);
      few = omega arith;
    }

pub returns-in_err-state : goal.returns-in_err-state
returns-in_err-state c =
    let some : 0 < 8 - length c.loop-alloc.states = omega arith in
    let p = err_from_is_err_and c.from_residual.result c.from_residual.ensures.1 in
    rw (p.1, p.2)
    (many_fails (refusal 11) (codes "state") (line_by state_at) c.loop-alloc.states c.loop-alloc.rest (many_by (codes "state") (line_by state_at) 8 c.args.rest.now) c.in_err-state.field-0.0 (8 - length c.loop-alloc.states) some (sym c.begins_with.ensures ∙ c.loop-alloc-test.true) c.in_err-state.ensures c.loop-alloc.invariant.told)

pub returns : goal.returns
returns c = many_is_done (refusal 11) (codes "state") (line_by state_at) c.loop-alloc.states c.loop-alloc.rest (many_by (codes "state") (line_by state_at) 8 c.args.rest.now) (8 - length c.loop-alloc.states) (sym c.begins_with.ensures ∙ c.loop-alloc-test.false) c.loop-alloc.invariant.told
