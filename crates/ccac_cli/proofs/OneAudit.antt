-- The bytes of a controller, a question and a certificate have one answer: they pose one problem, and what a check comes to
-- depends on a certificate only as its text says.
use Rattle.std.proofs.Common.{◌≡◌, ℕ, List, [], ◌∷◌, ◌++◌, length, Result, Ok, Err, refl, sym, ◌∙◌, ap, subst}
use Rattle.std.specs.Prelude.{◌==◌, ◌&&◌}
use Rattle.ctrl_types.specs.Resolving.{controller_seen}
use Rattle.ctrl_types.specs.declared.controllers.Controller.{Controller}
use Rattle.question_text.specs.StatementRules.{question_seen}
use Rattle.question_text.specs.declared.questions.Question.{Question}
use Rattle.farkas_cert.specs.declared.certificates.Cert.{Cert}
use Rattle.clause_form.specs.Building.{limit_of}
use Rattle.clause_form.specs.Derivations.{rows_of}
use Rattle.clause_form.specs.declared.clauses.Clauses.{Clauses}
use Rattle.clause_form.specs.declared.clauses.What.{What}
use Rattle.cert_check.specs.Causes.{asked, end_event, events, lemma_events}
use Rattle.cert_check.specs.Verdicts.{Verdict, first_of, verdict}
use Rattle.cert_text.specs.Spelling.{Certificate, certificate}
use Rattle.cert_text.proofs.Exactness as certs
use Rattle.verdict.specs.Problems.{problem_of}
use Rattle.ccac_cli.specs.Saved.{behind_verdict}
use Rattle.ccac_cli.specs.Audits.{AuditAnswers, CertAnswers, ProblemAnswers, cert_refused, checked, large, unrolled}
use Rattle.file_reports.specs.Reports.{Answer, refused}
use Rattle.ccac_cli.specs.Reports.{check_report, too_large}
use Rattle.file_reports.specs.declared.sources.Source.TheVariants.{Cert as CertFile}
use Rattle.ccac_cli.proofs.OneReplay.{asks_once}
use Rattle.verdict.proofs.SameProblem.{problem_same}

-- what a check comes to of what a certificate's text says
abbrev pub verdict_by : Clauses → Certificate → Verdict
verdict_by c x =
    first_of
    (record { lemma = 0; node = 0; found = asked 1 ((x.columns == c.columns) && ((x.atoms == length c.atoms) && (x.clauses == length c.clauses))) }
    ∷ (lemma_events (rows_of c) c.clauses 0 x.lemmas ++ end_event 0 x.lemmas ∷ []))

pub verdict_is : (c : Clauses) (x : Cert) → verdict c x ≡ verdict_by c (certificate x)
unfolding verdict events
verdict_is c x = refl

verdict_same : (c : Clauses) (x y : Cert) → certificate x ≡ certificate y → verdict c x ≡ verdict c y
verdict_same c x y same = verdict_is c x ∙ ap (verdict_by c) same ∙ sym (verdict_is c y)

checked_once : (problem : Clauses) (file : List ℕ) (a b : Answer) → CertAnswers problem file a → CertAnswers problem file b → a ≡ b
checked_once problem file _ _ (cert_refused r one) (cert_refused s two) = ap (refused CertFile) (certs.one_refusal (behind_verdict file) r s one two)
checked_once problem file _ _ (cert_refused r one) (checked y two) = absurd (certs.not_both (behind_verdict file) r (certificate y) one two)
checked_once problem file _ _ (checked x one) (cert_refused s two) = absurd (certs.not_both (behind_verdict file) s (certificate x) two one)
checked_once problem file _ _ (checked x one) (checked y two) =
    ap check_report (verdict_same problem x y (certs.one_certificate (behind_verdict file) (certificate x) (certificate y) one two))

one_limit : (p : Result Clauses What) (v w : What) → p ≡ Err v → p ≡ Err w → v ≡ w
one_limit p v w one two = cc

one_problem : (p : Result Clauses What) (x y : Clauses) → p ≡ Ok x → p ≡ Ok y → x ≡ y
one_problem p x y one two = cc

large_or_not : (p : Result Clauses What) (w : What) (x : Clauses) → p ≡ Err w → p ≡ Ok x → ⊥
large_or_not p w x one two = cc

problem_once : (file : List ℕ) (c d : Controller) (q p : Question) → controller_seen c ≡ controller_seen d → question_seen q ≡ question_seen p
    → (a b : Answer) → ProblemAnswers file c q a → ProblemAnswers file d p b → a ≡ b
problem_once file c d q p controllers questions _ _ (large v one) (large w two) =
    ap (λ what. too_large what (limit_of what)) (one_limit (problem_of d p) v w (sym (problem_same c d q p controllers questions) ∙ one) two)
problem_once file c d q p controllers questions _ _ (large v one) (unrolled y b two second) =
    absurd (large_or_not (problem_of d p) v y (sym (problem_same c d q p controllers questions) ∙ one) two)
problem_once file c d q p controllers questions _ _ (unrolled x a one first) (large w two) =
    absurd (large_or_not (problem_of d p) w x two (sym (problem_same c d q p controllers questions) ∙ one))
problem_once file c d q p controllers questions _ _ (unrolled x a one first) (unrolled y b two second) =
    let same : x ≡ y = one_problem (problem_of d p) x y (sym (problem_same c d q p controllers questions) ∙ one) two in
    checked_once y file a b (subst (λ (z : Clauses). CertAnswers z file a) same first) second

pub audited_once : (controller question file : List ℕ) (a b : Answer) → AuditAnswers controller question file a
    → AuditAnswers controller question file b → a ≡ b
audited_once controller question file = asks_once controller question (ProblemAnswers file) (problem_once file)
