-- What the answers about a problem mean.
use Rattle.std.specs.Prelude.{◌≡◌, ℕ, Bool, List}
use Rattle.claims.specs.Columns.{run_of}
use Rattle.linear_form.specs.Sums.{entry}
use Rattle.run_rows.specs.Runs.{Fits}
use Rattle.run_rows.specs.declared.rows.Run.{Run}
use Rattle.corner_values.specs.declared.answer.Values.{Values}
use Rattle.lra_solve.specs.Solving.{IsFound, IsFoundTotal, IsSpent, IsStuck}
use Rattle.lra_solve.specs.declared.solved.Solved.{Solved}
use Rattle.lra_solve.specs.declared.solved.Solved.TheVariants as solved
use Rattle.lra_solve.specs.declared.solved.Spent.{Spent}
use Rattle.unroll.specs.declared.problems.Problem.{Problem}
use Rattle.verdict.specs.LightCerts.{IsCertificate}
use Rattle.verdict.specs.declared.deciding.Decided.{Decided}
use Rattle.verdict.specs.declared.deciding.Decided.TheVariants as decided

-- the run has these values in the problem's columns
pub record IsRunAt (p : Problem) (values : Values) (run : Run) : Type 0 where
  pub run_is : run ≡ run_of p.shape (entry values.values) values.over
  pub fits : Fits p.shape run

-- the run is that of the values of a model of which this is said
pub record IsRunOf (p : Problem) (Found : Values → List Bool → Spent → Type 0) (run : Run) (spent : Spent) : Type 0 where
  pub values : Values
  pub truths : List Bool
  pub found : Found values truths spent
  pub run_at : IsRunAt p values run

-- the run is that of the values of a model of the problem's clauses, at the corner that the journal reaches
abbrev pub IsFoundRun : Problem → ℕ → Run → Spent → Type 0
IsFoundRun p budget run spent = IsRunOf p (IsFound p.clauses budget) run spent

-- and there each atom is told
abbrev pub IsFoundTotalRun : Problem → ℕ → Run → Spent → Type 0
IsFoundTotalRun p budget run spent = IsRunOf p (IsFoundTotal p.clauses budget) run spent

-- what is said of an answer about a problem, where this is said of a model
abbrev pub DecidesWith : Problem → ℕ → (Values → List Bool → Spent → Type 0) → Decided → Type 0
DecidesWith p budget Found (decided.Model run spent) = IsRunOf p Found run spent
DecidesWith p budget Found (decided.Closed cert) = IsCertificate p.clauses cert
DecidesWith p budget Found (decided.Spent spent) = IsSpent p.clauses budget spent
DecidesWith p budget Found (decided.Stuck stuck spent) = IsStuck p.clauses budget stuck spent
DecidesWith p budget Found decided.NoMemory = Unit {0}

abbrev pub Decides : Problem → ℕ → Decided → Type 0
Decides p budget answer = DecidesWith p budget (IsFound p.clauses budget) answer

abbrev pub DecidesTotal : Problem → ℕ → Decided → Type 0
DecidesTotal p budget answer = DecidesWith p budget (IsFoundTotal p.clauses budget) answer

-- ---- from a search's answer

-- the run of these values, or memory runs out
abbrev pub RunsAt : Problem → Values → Spent → Decided → Type 0
RunsAt p values spent (decided.Model run kept) = (kept ≡ spent) × IsRunAt p values run
RunsAt p values spent (decided.Closed cert) = ⊥
RunsAt p values spent (decided.Spent kept) = ⊥
RunsAt p values spent (decided.Stuck stuck kept) = ⊥
RunsAt p values spent decided.NoMemory = Unit {0}

-- the same answer, with the run of a model's values
abbrev pub IsAnswerOf : Problem → Solved → Decided → Type 0
IsAnswerOf p (solved.Model values truths spent) answer = RunsAt p values spent answer
IsAnswerOf p (solved.Closed cert) answer = answer ≡ decided.Closed cert
IsAnswerOf p (solved.Spent spent) answer = answer ≡ decided.Spent spent
IsAnswerOf p (solved.Stuck stuck spent) answer = answer ≡ decided.Stuck stuck spent
IsAnswerOf p solved.NoMemory answer = answer ≡ decided.NoMemory
