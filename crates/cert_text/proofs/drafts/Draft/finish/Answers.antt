use Rattle.std.proofs.Common.{◌∙◌, sym, ap, Err}
use Rattle.whole.specs.declared.answers.Refusal.{Refusal}
use Rattle.cert_text.specs.Rules.{refusal}
use Rattle.cert_text.proofs.DraftLaws.{whole_is, unfinished_is}
use Rattle.cert_text.proofs.drafts.Draft.finish.Goals as goal

pub returns-then-is_whole : goal.returns-then-is_whole
returns-then-is_whole c rest e =
    let d = c.args.self in
    whole_is d.columns d.atoms d.clauses d.lemmas d.clause d.splits d.want c.args.number rest c.args.is_finished (sym c.is_whole.ensures ∙ c.if-is_whole.true) e

pub returns : goal.returns
returns c rest e =
    let d = c.args.self in
    unfinished_is d.columns d.atoms d.clauses d.lemmas d.clause d.splits d.want c.args.number rest c.args.is_finished (sym c.is_whole.ensures ∙ c.if-is_whole.false) e
    ∙ ap (λ (r : Refusal). Err r) (sym (c.refusal.ensures ∙ ap (λ n. refusal n c.args.number) c.last_rule-rule.ensures))
