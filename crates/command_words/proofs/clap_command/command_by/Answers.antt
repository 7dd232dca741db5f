use Rattle.std.proofs.Common.{◌∙◌, ap, codes}
use Rattle.std.proofs.lemmas.Result.{IfOk-weaker}
use Rattle.command_words.specs.Clap.{with_value}
use Rattle.command_words.proofs.clap_command.command_by.Goals as goal

pub returns : goal.returns
returns c =
    IfOk-weaker c.with_value-4.result _ _
    (λ next is. is ∙ ap (λ a. with_value c.args.form.least c.args.form.most a 3 (codes "fourth"))
    (c.in_ok-command-3.ensures ∙ ap (λ a. with_value c.args.form.least c.args.form.most a 2 (codes "third"))
    (c.in_ok-command-2.ensures ∙ ap (λ a. with_value c.args.form.least c.args.form.most a 1 (codes "second"))
    (c.in_ok-command.ensures ∙ ap (λ a. with_value c.args.form.least c.args.form.most a 0 (codes "first")) c.in_ok-bare_command.ensures))))
    c.with_value-4.ensures
