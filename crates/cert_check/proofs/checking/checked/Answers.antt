use Rattle.std.proofs.Common.{◌≡◌, ◌≢◌, List, take, sym, ◌∙◌, ap}
use Rattle.farkas_cert.specs.Trees.{derived}
use Rattle.farkas_cert.specs.declared.literals.Lit.{Lit}
use Rattle.clause_form.specs.Derivations.{rows_of}
use Rattle.cert_check.specs.declared.found.Found.{Found}
use Rattle.cert_check.specs.declared.found.Found.TheVariants.{Sound}
use Rattle.cert_check.specs.Answers.{first_found, sound_before, answer_of}
use Rattle.cert_check.specs.Causes.{lemma_founds}
use Rattle.cert_check.specs.Known.{known_with}
use Rattle.cert_check.specs.Tables.{Assumed}
use Rattle.cert_check.specs.Verdicts.{verdict_at, proved}
use Rattle.cert_check.proofs.LemmaLaws.{judged_next, judged_fault, verdict_sized}
use Rattle.cert_check.proofs.checking.checked.Goals as goal

pub returns-in_default : goal.returns-in_default
returns-in_default c =
    let fs : List Found = lemma_founds (rows_of c.args.clauses.now) (known_with c.args.clauses.now.clauses (take c.loop-i.i c.as_slice-lemmas.result.now)) (derived c.lemma_at-lemma.result.now) in
    let some : first_found fs ≢ Sound = λ e. c.in_default.not-Sound (c.in_ok-fault.ensures.found ∙ e) in
    c.answer.ensures c.loop-i.i (sound_before fs) c.name.ensures c.in_ok-fault.ensures.node ∙ ap answer_of (sym (verdict_sized c.args.clauses.now c.args.cert.now c.as_slice-lemmas.result.now (sym c.has_sizes.ensures ∙ c.if-not-has_sizes.false) c.as_slice-lemmas.ensures ∙ sym c.loop-i.invariant.2 ∙ judged_fault (rows_of c.args.clauses.now) c.as_slice-lemmas.result.now c.args.clauses.now.clauses c.loop-i.i c.lemma_at-lemma.result.now c.lemma_at-lemma.ensures some ∙ ap (λ (f : Found). verdict_at c.loop-i.i (sound_before fs) f proved) (sym c.in_ok-fault.ensures.found)))

pub loop-i-preserved : goal.loop-i-preserved
loop-i-preserved c =
    let ready = c.in_ok-fault.ensures.ready c.in-Sound.is in (
      ready.0,
      ap (λ (p : Assumed). p.lits) ready.1 ∙ c.loop-i.invariant.1,
      sym (judged_next (rows_of c.args.clauses.now) c.as_slice-lemmas.result.now c.args.clauses.now.clauses c.loop-i.i c.lemma_at-lemma.result.now c.lemma_at-lemma.ensures (sym c.in_ok-fault.ensures.found ∙ c.in-Sound.is)) ∙ c.loop-i.invariant.2,
    )
