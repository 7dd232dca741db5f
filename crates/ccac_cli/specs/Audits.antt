-- What is answered to a controller, a question and a certificate: the first of the texts that is refused, in this order, but the
-- problem's size comes before the certificate; then what comes of checking the certificate.
use Rattle.std.specs.Prelude.{◌≡◌, ℕ, List, Ok, Err}
use Rattle.whole.specs.declared.answers.Refusal.{Refusal}
use Rattle.ctrl_types.specs.declared.controllers.Controller.{Controller}
use Rattle.question_text.specs.declared.questions.Question.{Question}
use Rattle.farkas_cert.specs.declared.certificates.Cert.{Cert}
use Rattle.clause_form.specs.Building.{limit_of}
use Rattle.clause_form.specs.declared.clauses.Clauses.{Clauses}
use Rattle.clause_form.specs.declared.clauses.What.{What}
use Rattle.cert_check.specs.Verdicts.{verdict}
use Rattle.cert_text.specs.Rules.{IsRefused}
use Rattle.cert_text.specs.Spelling.{IsCertText, certificate}
use Rattle.verdict.specs.Problems.{problem_of}
use Rattle.ccac_cli.specs.AskAnswers.{Asks}
use Rattle.file_reports.specs.Reports.{Answer, refused}
use Rattle.ccac_cli.specs.Reports.{check_report, too_large}
use Rattle.ccac_cli.specs.Saved.{behind_verdict}
use Rattle.file_reports.specs.declared.sources.Source.TheVariants.{Cert as CertFile}

-- the one answer to a certificate's file, about a problem
pub data CertAnswers (problem : Clauses) (file : List ℕ) : Answer → Type 0 where
  cert_refused : (r : Refusal) → IsRefused (behind_verdict file) r → CertAnswers problem file (refused CertFile r)
  checked : (cert : Cert) → IsCertText (behind_verdict file) (certificate cert) → CertAnswers problem file (check_report (verdict problem cert))

-- the one answer to it, where a controller is asked a question
pub data ProblemAnswers (file : List ℕ) (c : Controller) (q : Question) : Answer → Type 0 where
  large : (what : What) → problem_of c q ≡ Err what → ProblemAnswers file c q (too_large what (limit_of what))
  unrolled : (problem : Clauses) (a : Answer) → problem_of c q ≡ Ok problem → CertAnswers problem file a → ProblemAnswers file c q a

-- the one answer to these bytes
abbrev pub AuditAnswers : List ℕ → List ℕ → List ℕ → Answer → Type 0
AuditAnswers controller question file = Asks controller question (ProblemAnswers file)
