use Rattle.std.proofs.Common.{◌∙◌, ap, option_map}
use Rattle.std.proofs.lemmas.Result.{IfOk-weaker}
use Rattle.command_words.specs.Forms.{entry_of}
use Rattle.command_words.specs.Views.{seen}
use Rattle.command_words.proofs.RequestLaws.{not_taken, taken}
use Rattle.command_words.proofs.requests.request_by.Goals as goal

pub returns-in_ok-values_in-in-Ok : goal.returns-in_ok-values_in-in-Ok
returns-in_ok-values_in-in-Ok c =
    taken (entry_of c.args.form) _ _ c.in-Ok.matches _ _ c.requires c.in_ok-command.ensures c.in-Ok.ensures.kinds c.in-Ok.ensures.matches
    c.in_ok-values_in-in-Ok.ensures c.get_flag.ensures.value c.get_flag.ensures.other

pub returns-in-Err : goal.returns-in-Err
returns-in-Err c =
    IfOk-weaker c.refused.result _ _
    (λ request r. ap (option_map seen) r.0 ∙ not_taken (entry_of c.args.form) _ _ c.in-Err.error c.requires c.in_ok-command.ensures c.in-Err.ensures.kinds (λ memory. r.1 (c.kind.ensures ∙ memory)))
    c.refused.ensures
