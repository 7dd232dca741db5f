-- What a search over a problem's clauses comes to is an answer about the problem.
use Rattle.std.proofs.Common.{◌≡◌, ℕ, Bool, List, sym, subst}
use Rattle.farkas_cert.specs.declared.certificates.Cert.{Cert}
use Rattle.clause_form.specs.WellFormed.{IsWellFormed}
use Rattle.clause_form.specs.declared.clauses.Clauses.{Clauses}
use Rattle.corner_values.specs.declared.answer.Values.{Values}
use Rattle.run_rows.specs.declared.rows.Run.{Run}
use Rattle.lra_solve.specs.Solving.{IsFound, IsLightProof, Solves, SolvesWith}
use Rattle.lra_solve.specs.declared.solved.Solved.{Solved}
use Rattle.lra_solve.specs.declared.solved.Solved.TheVariants as solved
use Rattle.lra_solve.specs.declared.solved.Spent.{Spent}
use Rattle.lra_solve.proofs.SolveLaws.{total_found}
use Rattle.unroll.specs.declared.problems.Problem.{Problem}
use Rattle.verdict.specs.Deciding.{Decides, DecidesTotal, DecidesWith, IsAnswerOf, IsFoundRun, IsFoundTotalRun, RunsAt}
use Rattle.verdict.specs.LightCerts.{IsCertificate}
use Rattle.verdict.specs.declared.deciding.Decided.{Decided}
use Rattle.verdict.specs.declared.deciding.Decided.TheVariants as decided
use Rattle.verdict.proofs.LightCerts.{light_stays, light_within}

-- a certificate that the search made
proof_certificate : (c : Clauses) (budget : ℕ) (cert : Cert) → IsWellFormed c → IsLightProof c budget cert → IsCertificate c cert
proof_certificate c budget cert formed light = record {
  proves = light.proves;
  fits = light_stays c cert light.light;
  within = light_within c cert formed light.proves light.few light.light;
}

-- a model that a search found
pub model_found : (c : Clauses) (budget : ℕ) (found : Solved) (values : Values) (truths : List Bool) (spent : Spent) → found ≡ solved.Model values truths spent
    → Solves c budget found → IsFound c budget values truths spent
model_found c budget found values truths spent is solves = subst (λ (s : Solved). Solves c budget s) is solves

module _ (p : Problem) (budget : ℕ) (Found : Values → List Bool → Spent → Type 0) where
  run_law : (values : Values) (truths : List Bool) (spent : Spent) (answer : Decided) → Found values truths spent → RunsAt p values spent answer
      → DecidesWith p budget Found answer
  run_law values truths spent (decided.Model run kept) found is = record {
    values = values;
    truths = truths;
    found = subst (λ (x : Spent). Found values truths x) (sym is.0) found;
    run_at = is.1;
  }
  run_law values truths spent (decided.Closed cert) found is = absurd is
  run_law values truths spent (decided.Spent kept) found is = absurd is
  run_law values truths spent (decided.Stuck stuck kept) found is = absurd is
  run_law values truths spent decided.NoMemory found is = tt

  -- the same answer, of a search that says this of a model
  pub answer_law : (found : Solved) (answer : Decided) → IsWellFormed p.clauses → SolvesWith p.clauses budget Found found → IsAnswerOf p found answer
      → DecidesWith p budget Found answer
  answer_law (solved.Model values truths spent) answer formed solves is = run_law values truths spent answer solves is
  answer_law (solved.Closed cert) answer formed solves is =
      subst (λ (a : Decided). DecidesWith p budget Found a) (sym is) (proof_certificate p.clauses budget cert formed solves)
  answer_law (solved.Spent spent) answer formed solves is = subst (λ (a : Decided). DecidesWith p budget Found a) (sym is) solves
  answer_law (solved.Stuck stuck spent) answer formed solves is = subst (λ (a : Decided). DecidesWith p budget Found a) (sym is) solves
  answer_law solved.NoMemory answer formed solves is = subst (λ (a : Decided). DecidesWith p budget Found a) (sym is) tt

module _ (p : Problem) (budget : ℕ) where
  total_run : (run : Run) (spent : Spent) → IsFoundTotalRun p budget run spent → IsFoundRun p budget run spent
  total_run run spent is = record {
    values = is.values;
    truths = is.truths;
    found = total_found p.clauses budget is.values is.truths spent is.found;
    run_at = is.run_at;
  }

  -- an answer with each atom told is one
  pub total_decides : (answer : Decided) → DecidesTotal p budget answer → Decides p budget answer
  total_decides (decided.Model run spent) is = total_run run spent is
  total_decides (decided.Closed cert) is = is
  total_decides (decided.Spent spent) is = is
  total_decides (decided.Stuck stuck spent) is = is
  total_decides decided.NoMemory is = tt
