use Rattle.std.proofs.Common.{◌≡◌, sym, subst, ap, ℕ, List, Err}
use Rattle.clause_form.specs.declared.clauses.Clauses.{Clauses}
use Rattle.farkas_cert.specs.declared.certificates.Cert.{Cert}
use Rattle.cert_check.specs.Verdicts.{verdict}
use Rattle.cert_text.specs.Rules.{IsRefused}
use Rattle.cert_text.specs.Spelling.{IsCertText, certificate}
use Rattle.ccac_cli.specs.Saved.{behind_verdict}
use Rattle.ccac_cli.specs.Audits.{CertAnswers, cert_refused, checked}
use Rattle.file_reports.specs.Reports.{Answer}
use Rattle.ccac_cli.specs.Reports.{check_report}
use Rattle.file_reports.specs.declared.sources.Source.TheVariants.{Cert as CertFile}
use Rattle.ccac_cli.proofs.CheckReports.{check_reported}
use Rattle.file_reports.proofs.HaltLaws.{refusal_halts}
use Rattle.ccac_cli.proofs.auditing.audit_cert.Goals as goal

shows_check : (problem : Clauses) (file : List ℕ) (cert : Cert) (answer : Answer) → IsCertText (behind_verdict file) (certificate cert)
    → answer ≡ check_report (verdict problem cert) → CertAnswers problem file answer
shows_check problem file cert answer is shows = subst (CertAnswers problem file) (sym shows) (checked cert is)

pub returns-in_ok-audit_report-in-Ok : goal.returns-in_ok-audit_report-in-Ok
returns-in_ok-audit_report-in-Ok c =
    shows_check c.args.problem.now c.args.cert.now c.in-Ok.cert _
    (subst (λ bytes. IsCertText bytes (certificate c.in-Ok.cert)) c.behind_verdict.ensures.exact c.in-Ok.ensures.found)
    (check_reported (verdict c.args.problem.now c.in-Ok.cert) c.check.result _ c.check.ensures.exact c.in_ok-audit_report-in-Ok.ensures)

pub returns-in-Err : goal.returns-in-Err
returns-in-Err c =
    refusal_halts (CertAnswers c.args.problem.now c.args.cert.now) CertFile c.in-Err.fault c.halted.result c.halted.ensures
    (λ r is. cert_refused r (subst (λ bytes. IsRefused bytes r) c.behind_verdict.ensures.exact (c.in-Err.ensures.refused r (ap Err is))))
