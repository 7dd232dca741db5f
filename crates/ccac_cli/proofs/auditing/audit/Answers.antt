use Rattle.ccac_cli.specs.AskAnswers.{asked}
use Rattle.ccac_cli.specs.Audits.{AuditAnswers, ProblemAnswers}
use Rattle.file_reports.proofs.HaltLaws.{replies_so}
use Rattle.ccac_cli.proofs.auditing.audit.Goals as goal

pub returns : goal.returns
returns c =
    replies_so (ProblemAnswers c.args.cert.now c.in-Ok.asked.controller c.in-Ok.asked.question)
    (AuditAnswers c.args.controller.now c.args.question.now c.args.cert.now) c.audit_problem.result
    (λ answer answers. asked c.in-Ok.asked.controller c.in-Ok.asked.question c.in-Ok.ensures.found answers) c.audit_problem.ensures
