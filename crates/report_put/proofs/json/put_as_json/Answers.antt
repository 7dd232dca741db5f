use Rattle.std.proofs.Common.{◌∙◌, subst}
use Rattle.report_put.specs.Put.{IsPut, put_without_memory}
use Rattle.report_put.proofs.PutLaws.{nothing_put}
use Rattle.report_put.proofs.json.put_as_json.Goals as goal

pub returns-in-Ok : goal.returns-in-Ok
returns-in-Ok g c =
    subst (λ text. IsPut c.args.status text (g.S.Sink.got c.args.out.now) (g.S.Sink.got c.put.new.out) c.put.result)
    (c.as_slice.ensures.value ∙ c.in-Ok.ensures) c.put.ensures

pub returns-in-Err : goal.returns-in-Err
returns-in-Err g c = put_without_memory 0 (nothing_put (g.S.Sink.got c.args.out.now).text)
