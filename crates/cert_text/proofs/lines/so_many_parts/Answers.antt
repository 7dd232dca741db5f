use Rattle.std.proofs.Common.{◌+◌, refl, arith, ap, ◌∙◌}
use Rattle.std.proofs.lemmas.List.{length-append}
use Rattle.std.proofs.lemmas.Result.{err_from_is_err_and}
use Rattle.text_lines.specs.Steps.{each}
use Rattle.text_lines.proofs.StepLaws.{each_goes_on, each_stops, each_is_done}
use Rattle.cert_text.specs.Tables.{part_at}
use Rattle.cert_text.proofs.lines.so_many_parts.Goals as goal

pub returns-in_err-part-clause-exact : goal.returns-in_err-part-clause-exact
returns-in_err-part-clause-exact c =
    let p = err_from_is_err_and c.from_residual.result c.from_residual.ensures.1 in
    rw (p.1, p.2)
    (each_stops c.in_err-part.field-0.0 (λ _. part_at) c.args.count c.loop.counter c.loop.counter c.loop.parts c.loop.fields (each (λ _. part_at) c.args.count 0 c.args.fields.now)
    c.loop-test.true c.in_err-part.ensures c.loop.invariant.0)

pub loop-preserved : goal.loop-preserved
loop-preserved c = (
  rw c.in_ok-push.ensures.ok
      (each_goes_on (λ _. part_at) c.args.count c.loop.counter c.loop.counter (c.loop.counter + 1) c.loop.parts c.loop.fields c.in_ok-part.part c.part_of.new.fields (each (λ _. part_at) c.args.count 0 c.args.fields.now)
      c.loop-test.true refl c.in_ok-part.ensures c.loop.invariant.0),
  (rw c.in_ok-push.ensures.ok (length-append c.loop.parts _ ∙ ap (λ n. n + 1) c.loop.invariant.1.0), omega (arith, c.loop-test.true)),
)

pub returns-clause-exact : goal.returns-clause-exact
returns-clause-exact c =
    each_is_done (λ _. part_at) c.args.count c.loop.counter c.loop.counter c.loop.parts c.loop.fields (each (λ _. part_at) c.args.count 0 c.args.fields.now)
    c.loop-test.false c.loop.invariant.0
