use Rattle.std.proofs.Common.{◌≡◌, ◌-◌, ◌∙◌, suc, length, ap, sym, arith}
use Rattle.linear_form.proofs.ReducedLists.{true_not_false}
use Rattle.cert_check.specs.declared.found.Checked.TheVariants.{Fails}
use Rattle.cert_check.proofs.LemmaLaws.{end_none, end_empty, end_other}
use Rattle.cert_check.proofs.checking.at_end.Goals as goal

pub returns-then-count-eq0 : goal.returns-then-count-eq0
returns-then-count-eq0 c = end_none c.args.lemmas.now (omega arith)

pub returns-then-is_empty : goal.returns-then-is_empty
returns-then-is_empty c =
    let long : length c.args.lemmas.now ≡ suc (length c.args.lemmas.now - 1) = omega arith in
    end_empty c.args.lemmas.now c.lemma_at.result.now (length c.args.lemmas.now - 1) c.lemma_at.ensures long (c.is_empty.ensures.0 c.if-is_empty.true)

pub returns-else-is_empty : goal.returns-else-is_empty
returns-else-is_empty c =
    let long : length c.args.lemmas.now ≡ suc (length c.args.lemmas.now - 1) = omega arith in
    ap (λ n. Fails n 0 8) c.name.ensures ∙ end_other c.args.lemmas.now c.lemma_at.result.now (length c.args.lemmas.now - 1) c.lemma_at.ensures long (λ e. true_not_false (sym (c.is_empty.ensures.1 e) ∙ c.if-is_empty.false))
