-- What a verdict on a question means, and when there is none.
use Rattle.std.specs.Prelude.{◌≡◌, ℕ, ◌⊎◌, List, Result, Ok, Err}
use Rattle.whole.specs.declared.answers.Stuck.{Stuck}
use Rattle.run_rows.specs.Runs.{Fits}
use Rattle.run_rows.specs.Limits.{IsWithin}
use Rattle.run_rows.specs.declared.rows.Run.{Run}
use Rattle.run_rows.specs.declared.shapes.Shape.{Shape}
use Rattle.ctrl_types.specs.declared.controllers.Controller.{Controller}
use Rattle.ctrl_meaning.specs.Flows.{shape_for}
use Rattle.ctrl_meaning.specs.RunOf.{RunOf}
use Rattle.question_text.specs.Meaning.{Violates}
use Rattle.question_text.specs.declared.questions.Question.{Question}
use Rattle.clause_form.specs.Building.{limit_of}
use Rattle.clause_form.specs.declared.clauses.BuildFault.{BuildFault}
use Rattle.clause_form.specs.declared.clauses.BuildFault.TheVariants as building
use Rattle.clause_form.specs.declared.clauses.Clauses.{Clauses}
use Rattle.farkas_cert.specs.declared.certificates.Cert.{Cert}
use Rattle.trace_replay.specs.Meaning.{IsFirstWide}
use Rattle.trace_replay.specs.Replaying.{replaying}
use Rattle.trace_replay.specs.declared.replaying.Replayed.TheVariants.{Violating, Wide as WideRun}
use Rattle.cert_check.specs.Verdicts.{proved}
use Rattle.cert_check.specs.Verdicts as checks
use Rattle.asked.specs.Asked.{AreAsked, IsQuestionRefused}
use Rattle.asked.specs.Texts.{IsControllerRefused}
use Rattle.asked.specs.declared.asking.AskFault.{AskFault}
use Rattle.asked.specs.declared.asking.AskFault.TheVariants as asking
use Rattle.unroll.specs.Problems.{IsViolation}
use Rattle.unroll.specs.declared.problems.Problem.{Problem}
use Rattle.lra_solve.specs.Solving.{IsSpent, IsStuck}
use Rattle.lra_solve.specs.declared.solved.Spent.{Spent}
use Rattle.verdict.specs.Deciding.{IsFoundTotalRun}
use Rattle.verdict.specs.LightCerts.{IsCertificate}
use Rattle.verdict.specs.Problems.{IsProblemOf, NoneViolates, problem_of}
use Rattle.verdict.specs.declared.deciding.Decided.{Decided}
use Rattle.verdict.specs.declared.deciding.Decided.TheVariants as decided
use Rattle.verdict.specs.declared.judging.JudgeFault.{JudgeFault}
use Rattle.verdict.specs.declared.judging.JudgeFault.TheVariants as fault
use Rattle.verdict.specs.declared.judging.Settled.{Settled}
use Rattle.verdict.specs.declared.judging.Settled.TheVariants as settled
use Rattle.verdict.specs.declared.judging.Verdict.{Verdict}
use Rattle.verdict.specs.declared.judging.Verdict.TheVariants as verdict

module _ (c : Controller) (q : Question) where
  -- the run, of this shape, is one of the controller's flows on an admitted path and violates the question, and a replay
  -- finds it so
  pub record IsViolated (shape : Shape) (run : Run) : Type 0 where
    pub shape_is : shape ≡ shape_for c q.setting
    pub within : IsWithin shape
    pub fits : Fits shape run
    pub run_of : RunOf c q.setting run
    pub violates : Violates q run
    pub replayed : replaying c q run ≡ Violating

  -- the certificate proves, a check finds it so, and no run violates the question
  pub record IsVerified (problem : Clauses) (cert : Cert) : Type 0 where
    pub certificate : IsCertificate problem cert
    pub checked : checks.verdict problem cert ≡ proved
    pub none : NoneViolates c q

  -- the run of a model, at the corner that the journal reaches with each atom told, has a weighing that overflows 128 bits before
  -- any other answer
  pub record IsWideReplay (p : Problem) (stuck : Stuck) (spent : Spent) : Type 0 where
    pub run : Run
    pub found : IsFoundTotalRun p q.setting.budget run spent
    pub violation : IsViolation c q run
    pub replayed : replaying c q run ≡ WideRun stuck
    pub overflows : IsFirstWide c q run stuck

  abbrev pub IsWide : Problem → Stuck → Spent → Type 0
  IsWide p stuck spent = IsStuck p.clauses q.setting.budget stuck spent ⊎ IsWideReplay p stuck spent

  -- what a verdict says, where the question poses this problem
  abbrev pub Says : Problem → Verdict → Type 0
  Says p (verdict.Violated shape run) = IsViolated shape run
  Says p (verdict.Verified cert) = IsVerified p.clauses cert
  Says p (verdict.Budget spent) = IsSpent p.clauses q.setting.budget spent
  Says p (verdict.Wide stuck spent) = IsWide p stuck spent

  -- a verdict on the problem that the question poses, or that it is too large
  abbrev pub Concludes : Result Verdict JudgeFault → Type 0
  Concludes (Ok v) = (p : Problem) × IsProblemOf c q p × Says p v
  Concludes (Err (fault.Controller r)) = ⊥
  Concludes (Err (fault.Question r)) = ⊥
  Concludes (Err (fault.Large what limit)) = (problem_of c q ≡ Err what) × (limit ≡ limit_of what)
  Concludes (Err fault.NoMemory) = Unit {0}

  -- what the replay of a run comes to that is one of the controller's flows and violates the question
  abbrev pub IsReplayed : Shape → Run → Spent → Settled → Type 0
  IsReplayed shape run spent (settled.Verdict (verdict.Violated same kept)) = (same ≡ shape) × (kept ≡ run) × (replaying c q run ≡ Violating)
  IsReplayed shape run spent (settled.Verdict (verdict.Verified cert)) = ⊥
  IsReplayed shape run spent (settled.Verdict (verdict.Budget kept)) = ⊥
  IsReplayed shape run spent (settled.Verdict (verdict.Wide stuck kept)) = ⊥
  IsReplayed shape run spent (settled.Overflow stuck kept) = (kept ≡ spent) × (replaying c q run ≡ WideRun stuck) × IsFirstWide c q run stuck
  IsReplayed shape run spent settled.NoMemory = ⊥

  -- the answer is the run of a model, and this is the weighing of its replay that overflows
  pub record IsOverflow (answer : Decided) (stuck : Stuck) (spent : Spent) : Type 0 where
    pub run : Run
    pub is : answer ≡ decided.Model run spent
    pub violation : IsViolation c q run
    pub replayed : replaying c q run ≡ WideRun stuck
    pub overflows : IsFirstWide c q run stuck

  -- what an answer about a problem comes to
  abbrev pub Settles : Problem → Decided → Settled → Type 0
  Settles p answer (settled.Verdict v) = Says p v
  Settles p answer (settled.Overflow stuck spent) = IsOverflow answer stuck spent
  Settles p answer settled.NoMemory = Unit {0}

-- why there is no verdict on what two texts mean: the first refusal, or the limit that the problem exceeds
abbrev pub Refuses : List ℕ → List ℕ → JudgeFault → Type 0
Refuses controller question (fault.Controller r) = IsControllerRefused controller r
Refuses controller question (fault.Question r) = IsQuestionRefused controller question r
Refuses controller question (fault.Large what limit) =
    (c : Controller) × (q : Question) × AreAsked controller question c q × Concludes c q (Err (fault.Large what limit))
Refuses controller question fault.NoMemory = ⊥

-- what comes of two texts: a refusal, or what is concluded about the controller and the question
abbrev pub Judges : List ℕ → List ℕ → Result Verdict JudgeFault → Type 0
Judges controller question (Ok v) = (c : Controller) × (q : Question) × AreAsked controller question c q × Concludes c q (Ok v)
Judges controller question (Err (fault.Controller r)) = Refuses controller question (fault.Controller r)
Judges controller question (Err (fault.Question r)) = Refuses controller question (fault.Question r)
Judges controller question (Err (fault.Large what limit)) = Refuses controller question (fault.Large what limit)
Judges controller question (Err fault.NoMemory) = Unit {0}

-- why there is no verdict on texts that weren't read, and on a problem that wasn't made
abbrev pub of_asking : AskFault → JudgeFault
of_asking (asking.Controller r) = fault.Controller r
of_asking (asking.Question r) = fault.Question r
of_asking asking.NoMemory = fault.NoMemory

abbrev pub of_building : BuildFault → JudgeFault
of_building (building.Large what limit) = fault.Large what limit
of_building building.NoMemory = fault.NoMemory

-- this fault, unless memory runs out
abbrev pub FaultUnless : {X : Type 0} → JudgeFault → Result X JudgeFault → Type 0
FaultUnless wanted (Ok x) = ⊥
FaultUnless wanted (Err (fault.Controller r)) = fault.Controller r ≡ wanted
FaultUnless wanted (Err (fault.Question r)) = fault.Question r ≡ wanted
FaultUnless wanted (Err (fault.Large what limit)) = fault.Large what limit ≡ wanted
FaultUnless wanted (Err fault.NoMemory) = Unit {0}
