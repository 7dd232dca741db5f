use Rattle.std.proofs.Common.{◌≡◌, ◌<◌, ℕ, Option, Result, Err, List, length, get_or, sym, ap, subst, ◌∙◌}
use Rattle.std.specs.Prelude.{All}
use Rattle.std.specs.Option.{ok_or}
use Rattle.std.specs.Result.{result_ok}
use Rattle.std.proofs.lemmas.List.Elements.{All-push}
use Rattle.std.proofs.lemmas.Result.{err_from_is_err_and}
use Rattle.weighing.specs.Scaled.{IsNum}
use Rattle.condition_syntax.specs.declared.expressions.ETerm.{ETerm}
use Rattle.ctrl_types.specs.declared.breaches.Breach.{Breach}
use Rattle.ctrl_types.specs.declared.breaches.Breach.TheVariants.{Unknown}
use Rattle.ctrl_types.specs.declared.expressions.LinTerm.{LinTerm}
use Rattle.ctrl_types.specs.declared.expressions.Source.{Source}
use Rattle.ctrl_syntax.specs.Limits.{IsPlainTerm}
use Rattle.ctrl_types.specs.Names.{terms_of}
use Rattle.ctrl_types.proofs.LoopLaws.{terms_go_on, terms_stop, terms_end, lin_found, lin_missing}
use Rattle.ctrl_types.proofs.sums.lin.Goals as goal

-- the same error of another call
same_error : {X Y : Type 0} (b d : Breach) → ◌≡◌ {A = Result X Breach} (Err b) (Err d) → ◌≡◌ {A = Result Y Breach} (Err b) (Err d)
same_error b d e = let same : b ≡ d = cc in ap (λ (x : Breach). Err x) same

pub returns-in_err-of-clause-exact : goal.returns-in_err-of-clause-exact
returns-in_err-of-clause-exact c =
    let p = err_from_is_err_and c.from_residual.result c.from_residual.ensures.1 in
    let none = c.ok_or.ensures.ok_part ∙ ap result_ok c.in_err-of.was in
    rw (p.1, p.2)
    (lin_missing c.args.scope.now.states.now c.args.signals c.args.expr.now
    (ap (terms_of c.args.scope.now.states.now c.args.signals) (sym c.as_slice-term-items.ensures)
    ∙ terms_stop c.args.scope.now.states.now c.args.signals c.as_slice-term-items.result.now c.loop-term.term-index c.loop-term.terms _ c.loop-term.invariant.told
    c.term-item.result c.term-item.is c.loop-term-test.true (sym c.source_of.ensures ∙ none))
    ∙ same_error Unknown c.in_err-of.field-0.0 (sym (c.ok_or.ensures.value ∙ ap (λ (o : Option Source). ok_or o Unknown) none) ∙ c.in_err-of.was))

-- a term that stands in an expression within the limits
plain_at : (items : List ETerm) (i : ℕ) (t : ETerm) → t ≡ get_or items i t → i < length items → All IsPlainTerm items → IsNum t.coef
plain_at items i t here inside all = let is = all i t inside in subst (λ (x : ETerm). IsNum x.coef) (sym here) is.coef

pub loop-term-preserved : goal.loop-term-preserved
loop-term-preserved c = record {
  told = rw c.in_ok-push.ensures.ok
      (terms_go_on c.args.scope.now.states.now c.args.signals c.as_slice-term-items.result.now c.loop-term.term-index c.loop-term.terms _ c.loop-term.invariant.told
      c.term-item.result c.in_ok-of.of c.term-item.is c.loop-term-test.true (sym c.source_of.ensures ∙ c.ok_or.ensures.ok_part ∙ ap result_ok c.in_ok-of.was));
  within = rw c.in_ok-push.ensures.ok
      (All-push (λ (t : LinTerm). IsNum t.coef) c.loop-term.terms (record { coef = c.term-item.result.coef; of = c.in_ok-of.of }) c.loop-term.invariant.within
      (plain_at c.as_slice-term-items.result.now c.loop-term.term-index c.term-item.result c.term-item.is c.loop-term-test.true
      (subst (All IsPlainTerm) (sym c.as_slice-term-items.ensures) c.requires.expr_in)));
}

pub returns-clause-exact : goal.returns-clause-exact
returns-clause-exact c =
    lin_found c.args.scope.now.states.now c.args.signals c.args.expr.now c.loop-term.terms
    (ap (terms_of c.args.scope.now.states.now c.args.signals) (sym c.as_slice-term-items.ensures)
    ∙ terms_end c.args.scope.now.states.now c.args.signals c.as_slice-term-items.result.now c.loop-term.term-index c.loop-term.terms _ c.loop-term.invariant.told c.loop-term-test.false)
