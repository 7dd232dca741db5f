use Rattle.std.proofs.Common.{◌≡◌, ◌∙◌, rules, ap, sym, true, nat_lt, if◌then◌else◌}
use Rattle.std.proofs.lemmas.Bool.{lt-ltb}
use Rattle.std.proofs.lemmas.Result.{IfOk-weaker}
use Rattle.clap.specs.Words.{app_of, rule_of, with_rule}
use Rattle.command_words.specs.Clap.{value_rule}
use Rattle.command_words.proofs.clap_command.with_value.Goals as goal

pub returns-then-place-form : goal.returns-then-place-form
returns-then-place-form c =
    let value_is : rule_of c.required-value.result ≡ value_rule c.args.form.least c.args.place c.args.name.now = search rules in
    let below : nat_lt c.args.place c.args.form.most ≡ true = lt-ltb c.args.place c.args.form.most c.if-place-form.true in
    IfOk-weaker c.arg.result _ _
    (λ next adds. adds.shape (search rules) ∙ ap (with_rule (app_of c.args.command)) value_is
    ∙ sym (ap (λ b. if b then with_rule (app_of c.args.command) (value_rule c.args.form.least c.args.place c.args.name.now) else app_of c.args.command) below))
    c.arg.ensures
