use Rattle.std.proofs.Common.{◌≡◌, sym, subst, ap, ◌∙◌, ℕ, List, length}
use Rattle.ctrl_types.specs.declared.controllers.Controller.{Controller}
use Rattle.question_text.specs.declared.questions.Question.{Question}
use Rattle.clause_form.specs.Answers.{Fails}
use Rattle.clause_form.specs.declared.clauses.BuildFault.{BuildFault}
use Rattle.clause_form.specs.declared.clauses.BuildFault.TheVariants.{Large}
use Rattle.clause_form.specs.declared.clauses.What.{What}
use Rattle.verdict.specs.Problems.{problem_of}
use Rattle.ccac_cli.specs.Audits.{CertAnswers, ProblemAnswers, large, unrolled}
use Rattle.file_reports.specs.Reports.{Answer}
use Rattle.ccac_cli.specs.Reports.{too_large}
use Rattle.verdict.proofs.ProblemLaws.{can_unroll}
use Rattle.file_reports.proofs.HaltLaws.{replies_so}
use Rattle.ccac_cli.proofs.auditing.audit_problem.Goals as goal

pub unroll-requires-clause-question_in : goal.unroll-requires-clause-question_in
unroll-requires-clause-question_in c = can_unroll (length c.args.asked.now.controller.states) c.args.asked.now.question c.requires.question_in

pub returns-in-Ok : goal.returns-in-Ok
returns-in-Ok c =
    replies_so (CertAnswers c.in-Ok.problem.clauses c.args.cert.now)
    (ProblemAnswers c.args.cert.now c.args.asked.now.controller c.args.asked.now.question) c.audit_cert.result
    (λ answer answers. unrolled c.in-Ok.problem.clauses answer c.in-Ok.ensures.exact answers) c.audit_cert.ensures

shows_limit : (file : List ℕ) (c : Controller) (q : Question) (fault : BuildFault) (what : What) (limit : ℕ) (answer : Answer)
    → fault ≡ Large what limit → Fails fault (problem_of c q) → answer ≡ too_large what limit → ProblemAnswers file c q answer
shows_limit file c q fault what limit answer is fails shows =
    let overflows = subst (λ (f : BuildFault). Fails f (problem_of c q)) is fails in
    subst (ProblemAnswers file c q) (sym (shows ∙ ap (too_large what) overflows.1)) (large what overflows.0)

pub returns-in_ok-size_report-in-Err-Large : goal.returns-in_ok-size_report-in-Err-Large
returns-in_ok-size_report-in-Err-Large c =
    shows_limit c.args.cert.now c.args.asked.now.controller c.args.asked.now.question c.in-Err-Large.field-0 c.in-Err-Large.what c.in-Err-Large.limit _
    c.in-Err-Large.field-0-is c.in-Err-Large.ensures.exact c.in_ok-size_report-in-Err-Large.ensures
