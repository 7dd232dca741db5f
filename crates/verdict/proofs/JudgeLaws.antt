-- What is found of a problem is a verdict on the question that poses it.
use Rattle.std.proofs.Common.{◌≡◌, ◌∙◌, ℕ, ℤ, pos, unsigned_abs, List, length, inr, Result, Ok, Err, sym, ap, subst}
use Rattle.claims.specs.Columns.{run_of}
use Rattle.linear_form.specs.Sums.{entry}
use Rattle.run_rows.specs.Columns.{entries_of}
use Rattle.run_rows.specs.Limits.{IsWithin}
use Rattle.run_rows.specs.declared.rows.Run.{Run}
use Rattle.run_rows.specs.declared.shapes.Shape.{Shape}
use Rattle.ctrl_types.specs.Limits.{IsController}
use Rattle.ctrl_types.specs.declared.controllers.Controller.{Controller}
use Rattle.ctrl_meaning.specs.Flows.{shape_for}
use Rattle.question_text.specs.Limits.{IsQuestion}
use Rattle.question_text.specs.declared.questions.Question.{Question}
use Rattle.farkas_cert.specs.declared.certificates.Cert.{Cert}
use Rattle.whole.specs.declared.answers.Stuck.{Stuck}
use Rattle.asked.specs.Asked.{AreAsked, AskFails}
use Rattle.asked.specs.declared.asking.AskFault.{AskFault}
use Rattle.asked.specs.declared.asking.AskFault.TheVariants as asking
use Rattle.clause_form.specs.Answers.{Fails}
use Rattle.clause_form.specs.WellFormed.{IsWellFormed}
use Rattle.clause_form.specs.declared.clauses.BuildFault.{BuildFault}
use Rattle.clause_form.specs.declared.clauses.BuildFault.TheVariants.{Large, NoMemory as OutOfMemory}
use Rattle.cert_check.specs.Verdicts.{proved}
use Rattle.cert_check.specs.Verdicts as checks
use Rattle.cert_check.proofs.VerdictLaws.{each_has_a_verdict}
use Rattle.trace_replay.specs.Replaying.{replaying}
use Rattle.trace_replay.specs.declared.replaying.Replayed.TheVariants.{Violating}
use Rattle.unroll.specs.Problems.{IsViolation}
use Rattle.unroll.specs.declared.problems.Problem.{Problem}
use Rattle.unroll.proofs.ProblemLaws.{over_is, over_some}
use Rattle.lra_solve.specs.declared.solved.Spent.{Spent}
use Rattle.verdict.specs.Deciding.{DecidesTotal, IsFoundRun}
use Rattle.verdict.specs.Judging.{Concludes, IsOverflow, IsReplayed, IsVerified, IsViolated, Judges, Says, Settles, of_asking, of_building}
use Rattle.verdict.specs.LightCerts.{IsCertificate}
use Rattle.verdict.specs.Problems.{IsProblemOf, problem_of}
use Rattle.verdict.specs.declared.deciding.Decided.{Decided}
use Rattle.verdict.specs.declared.deciding.Decided.TheVariants as decided
use Rattle.verdict.specs.declared.judging.JudgeFault.{JudgeFault}
use Rattle.verdict.specs.declared.judging.JudgeFault.TheVariants as judging
use Rattle.verdict.specs.declared.judging.Settled.{Settled}
use Rattle.verdict.specs.declared.judging.Settled.TheVariants as settled
use Rattle.verdict.specs.declared.judging.Verdict.{Verdict}
use Rattle.verdict.specs.declared.judging.Verdict.TheVariants as verdict
use Rattle.verdict.proofs.ProblemLaws.{model_violates, none_violates, problem_columns, problem_formed, shape_is_within}

module _ (c : Controller) (q : Question) (p : Problem) (is : IsController c) (asked : IsQuestion (length c.states) q) (of : IsProblemOf c q p) where
  -- ---- what deciding the problem needs

  pub clauses_formed : IsWellFormed p.clauses
  clauses_formed = problem_formed c q p.clauses is asked of.made

  pub within_limits : IsWithin p.shape
  within_limits = subst IsWithin (sym of.shape_is) (shape_is_within c q p.clauses is asked of.made)

  pub as_many_columns : p.clauses.columns ≡ length (entries_of p.shape)
  as_many_columns = problem_columns c q p.clauses is asked of.made ∙ ap (λ (s : Shape). length (entries_of s)) (sym of.shape_is)

  -- ---- a run

  -- a run that is found violates the question
  pub found_violates : (run : Run) (spent : Spent) → IsFoundRun p q.setting.budget run spent → IsViolation c q run
  found_violates run spent found =
      let values = found.values in
      let some = found.found.is_model.over_from in
      let model =
      model_violates c q p.clauses is asked of.made (entry values.values) (unsigned_abs values.over) _ (over_some values.over some) found.found.is_model.model in
      let here : run ≡ run_of (shape_for c q.setting) (entry values.values) (pos (unsigned_abs values.over)) =
      found.run_at.run_is ∙ ap (λ (s : Shape). run_of s (entry values.values) values.over) of.shape_is
      ∙ ap (λ (z : ℤ). run_of (shape_for c q.setting) (entry values.values) z) (over_is values.over some) in
      subst (λ (r : Run). IsViolation c q r) (sym here) model

  violated_law : (run : Run) (spent : Spent) → IsFoundRun p q.setting.budget run spent → replaying c q run ≡ Violating → IsViolated c q p.shape run
  violated_law run spent found replayed =
      let violation = found_violates run spent found in
      record {
        shape_is = of.shape_is;
        within = within_limits;
        fits = found.run_at.fits;
        run_of = violation.run;
        violates = violation.violates;
        replayed = replayed;
      }

  -- the verdict on a run that is found
  pub replayed_settles : (run : Run) (spent : Spent) (answer : Decided) (v : Settled) → answer ≡ decided.Model run spent → IsFoundRun p q.setting.budget run spent
      → IsReplayed c q p.shape run spent v → Settles c q p answer v
  replayed_settles run spent answer (settled.Verdict (verdict.Violated same kept)) from found is =
      subst (λ (s : Shape). IsViolated c q s kept) (sym is.0) (subst (λ (r : Run). IsViolated c q p.shape r) (sym is.1) (violated_law run spent found is.2))
  replayed_settles run spent answer (settled.Verdict (verdict.Verified cert)) from found is = absurd is
  replayed_settles run spent answer (settled.Verdict (verdict.Budget kept)) from found is = absurd is
  replayed_settles run spent answer (settled.Verdict (verdict.Wide stuck kept)) from found is = absurd is
  replayed_settles run spent answer (settled.Overflow stuck kept) from found is = record {
    run = run;
    is = from ∙ ap (λ (x : Spent). decided.Model run x) (sym is.0);
    violation = found_violates run spent found;
    replayed = is.1;
    overflows = is.2;
  }
  replayed_settles run spent answer settled.NoMemory from found is = absurd is

  -- the run was found with each atom told
  pub overflow_says : (answer : Decided) (stuck : Stuck) (spent : Spent) → DecidesTotal p q.setting.budget answer → IsOverflow c q answer stuck spent
      → Says c q p (verdict.Wide stuck spent)
  overflow_says answer stuck spent decides is =
      inr (record {
        run = is.run;
        found = subst (λ (a : Decided). DecidesTotal p q.setting.budget a) is.is decides;
        violation = is.violation;
        replayed = is.replayed;
        overflows = is.overflows;
      })

  -- ---- a certificate

  pub verified_law : (cert : Cert) → IsCertificate p.clauses cert → IsVerified c q p.clauses cert
  verified_law cert certificate =
      let checked : checks.verdict p.clauses cert ≡ proved = (each_has_a_verdict p.clauses cert).proves.1 (certificate.proves, certificate.fits) in
      record {
        certificate = certificate;
        checked = checked;
        none = none_violates c q p.clauses is asked of.made cert checked;
      }

-- the problem is too large
pub large_law : (c : Controller) (q : Question) (fault : BuildFault) (given : JudgeFault) → given ≡ of_building fault → Fails fault (problem_of c q)
    → Concludes c q (Err given)
large_law c q (Large what limit) given is fails = subst (λ (f : JudgeFault). Concludes c q (Err f)) (sym is) fails
large_law c q OutOfMemory given is fails = subst (λ (f : JudgeFault). Concludes c q (Err f)) (sym is) tt

-- a text is refused
pub asking_law : (controller question : List ℕ) (fault : AskFault) (given : JudgeFault) → given ≡ of_asking fault → AskFails controller question fault
    → Judges controller question (Err given)
asking_law controller question (asking.Controller r) given is fails = subst (λ (f : JudgeFault). Judges controller question (Err f)) (sym is) fails
asking_law controller question (asking.Question r) given is fails = subst (λ (f : JudgeFault). Judges controller question (Err f)) (sym is) fails
asking_law controller question asking.NoMemory given is fails = subst (λ (f : JudgeFault). Judges controller question (Err f)) (sym is) tt

-- what is concluded of the controller and the question whose texts they are
pub concluded_law : (controller question : List ℕ) (c : Controller) (q : Question) → AreAsked controller question c q → (result : Result Verdict JudgeFault)
    → Concludes c q result → Judges controller question result
concluded_law controller question c q are (Ok v) concludes = (c, q, are, concludes)
concluded_law controller question c q are (Err (judging.Controller r)) concludes = absurd concludes
concluded_law controller question c q are (Err (judging.Question r)) concludes = absurd concludes
concluded_law controller question c q are (Err (judging.Large what limit)) concludes = (c, q, are, concludes)
concluded_law controller question c q are (Err judging.NoMemory) concludes = tt
