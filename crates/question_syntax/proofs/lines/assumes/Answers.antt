use Rattle.std.proofs.Common.{◌≡◌, ◌+◌, ◌-◌, ◌<◌, suc, List, [], ◌∷◌, length, length-append, sym, ap, subst, ◌∙◌, arith}
use Rattle.std.specs.Prelude.{codes}
use Rattle.std.proofs.lemmas.Result.{err_from_is_err_and}
use Rattle.text_lines.proofs.StepLaws.{with_front}
use Rattle.std.proofs.lemmas.List.{map-append}
use Rattle.ctrl_syntax.specs.Reading.{many_within}
use Rattle.ctrl_syntax.proofs.ManyLoop.{many_goes_on, many_fails, many_is_full, many_is_done}
use Rattle.question_syntax.specs.Sections.{Wanted, wanted_of, all_wanted_of}
use Rattle.question_syntax.specs.Reading.{refusal, wanted_by, assumes_by}
use Rattle.question_syntax.proofs.lines.assumes.Goals as goal

pub returns-then-len-eq-ASSUME_LIMIT : goal.returns-then-len-eq-ASSUME_LIMIT
returns-then-len-eq-ASSUME_LIMIT c =
    let none : 16 - length c.loop-alloc.assumes ≡ 0 = omega arith in
    rw (c.refusal.ensures, c.number.ensures)
    (many_is_full (refusal 9) (codes "assume") (wanted_by (codes "assume")) (all_wanted_of c.loop-alloc.assumes) c.loop-alloc.rest (assumes_by c.args.rest.now) (16 - length c.loop-alloc.assumes)
    none (sym c.begins_with.ensures ∙ c.loop-alloc-test.true) c.loop-alloc.invariant.told)

pub loop-alloc-preserved : goal.loop-alloc-preserved
loop-alloc-preserved c =
    let size : length c.push.new.self ≡ length c.loop-alloc.assumes + 1 = omega (arith, simp length-append at (ap length c.in_ok-push.ensures.ok)) in
    let more : 16 - length c.loop-alloc.assumes ≡ suc (16 - length c.push.new.self) = omega arith in
    record {
      told = subst (λ (front : List Wanted). with_front front (many_within (refusal 9) (codes "assume") (wanted_by (codes "assume")) (16 - length c.push.new.self) c.condition_line.new.rest) ≡ assumes_by c.args.rest.now)
          (sym (ap all_wanted_of c.in_ok-push.ensures.ok ∙ map-append wanted_of c.loop-alloc.assumes (c.in_ok-assume.assume ∷ [])))
          (many_goes_on (refusal 9) (codes "assume") (wanted_by (codes "assume")) (all_wanted_of c.loop-alloc.assumes) c.loop-alloc.rest (assumes_by c.args.rest.now) (16 - length c.loop-alloc.assumes)
          (16 - length c.push.new.self) (wanted_of c.in_ok-assume.assume) c.condition_line.new.rest more (sym c.begins_with.ensures ∙ c.loop-alloc-test.true) c.in_ok-assume.ensures c.loop-alloc.invariant.told);
      few = omega arith;
    }

pub returns-in_err-assume : goal.returns-in_err-assume
returns-in_err-assume c =
    let some : 0 < 16 - length c.loop-alloc.assumes = omega arith in
    let p = err_from_is_err_and c.from_residual.result c.from_residual.ensures.1 in
    rw (p.1, p.2)
    (many_fails (refusal 9) (codes "assume") (wanted_by (codes "assume")) (all_wanted_of c.loop-alloc.assumes) c.loop-alloc.rest (assumes_by c.args.rest.now) c.in_err-assume.field-0.0 (16 - length c.loop-alloc.assumes)
    some (sym c.begins_with.ensures ∙ c.loop-alloc-test.true) c.in_err-assume.ensures c.loop-alloc.invariant.told)

pub returns : goal.returns
returns c =
    many_is_done (refusal 9) (codes "assume") (wanted_by (codes "assume")) (all_wanted_of c.loop-alloc.assumes) c.loop-alloc.rest (assumes_by c.args.rest.now) (16 - length c.loop-alloc.assumes)
    (sym c.begins_with.ensures ∙ c.loop-alloc-test.false) c.loop-alloc.invariant.told
