use Rattle.std.proofs.Common.{◌≡◌, rules, ◌∙◌, ap, ap₂}
use Rattle.std.proofs.lemmas.Result.{IfOk-weaker}
use Rattle.clap.specs.Words.{rule_of, with_rule}
use Rattle.clap.specs.Simple.{app_of_fields}
use Rattle.command_words.specs.Clap.{json_rule, without_help}
use Rattle.command_words.proofs.clap_command.bare_command.Goals as goal

pub returns : goal.returns
returns c =
    let json_is : rule_of c.action-json.result ≡ json_rule = search rules in
    let bare_is = ap app_of_fields c.disable_help_flag.ensures ∙ ap without_help c.new-2.ensures.app in
    IfOk-weaker c.arg.result _ _ (λ command adds. adds.shape (search rules) ∙ ap₂ with_rule bare_is json_is) c.arg.ensures
