-- No fault is one of texts that are accepted and whose problem is converted.
use Rattle.std.proofs.Common.{◌≡◌, ℕ, List, Result, Ok, Err, length, refl, subst}
use Rattle.std.specs.Prelude.{IsOk}
use Rattle.run_rows.specs.Columns.{entries_of}
use Rattle.ctrl_types.specs.declared.controllers.Controller.{Controller}
use Rattle.ctrl_meaning.specs.Flows.{shape_for}
use Rattle.question_text.specs.declared.questions.Question.{Question}
use Rattle.asked.specs.Asked.{AreAsked, AskFails}
use Rattle.asked.specs.declared.asking.AskFault.{AskFault}
use Rattle.asked.specs.declared.asking.AskFault.TheVariants as asking
use Rattle.clause_form.specs.Building.{clauses_of}
use Rattle.clause_form.specs.declared.clauses.Clauses.{Clauses}
use Rattle.clause_form.specs.declared.clauses.What.{What}
use Rattle.unroll.specs.Problems.{problem_formulas}
use Rattle.verdict.specs.Judging.{Judges, Refuses}
use Rattle.verdict.specs.declared.judging.JudgeFault.{JudgeFault}
use Rattle.verdict.specs.declared.judging.JudgeFault.TheVariants as fault
use Rattle.verdict.specs.declared.judging.Verdict.{Verdict}

converted_or_large : (p : Result Clauses What) (what : What) → IsOk p → p ≡ Err what → ⊥
converted_or_large (Ok clauses) what ok large = cc
converted_or_large (Err other) what ok large = cc

module _ (controller question : List ℕ) where
  pub no_fault : ((f : AskFault) → AskFails controller question f → f ≡ asking.NoMemory)
      → ((c : Controller) (q : Question) → AreAsked controller question c q → IsOk (clauses_of (length (entries_of (shape_for c q.setting))) (problem_formulas c q)))
      → (f : JudgeFault) → Refuses controller question f → ⊥
  no_fault accepted converted (fault.Controller r) refused =
      let same : asking.Controller r ≡ asking.NoMemory = accepted (asking.Controller r) refused in
      cc
  no_fault accepted converted (fault.Question r) refused =
      let same : asking.Question r ≡ asking.NoMemory = accepted (asking.Question r) refused in
      cc
  no_fault accepted converted (fault.Large what limit) refused =
      converted_or_large (clauses_of (length (entries_of (shape_for refused.0 refused.1.setting))) (problem_formulas refused.0 refused.1)) what
      (converted refused.0 refused.1 refused.2) refused.3.0
  no_fault accepted converted fault.NoMemory refused = refused

  -- so an answer is a verdict, or memory ran out
  pub no_other : ((f : JudgeFault) → Refuses controller question f → ⊥) → (f : JudgeFault) → Judges controller question (Err f) → f ≡ fault.NoMemory
  no_other never (fault.Controller r) judged = absurd (never (fault.Controller r) judged)
  no_other never (fault.Question r) judged = absurd (never (fault.Question r) judged)
  no_other never (fault.Large what limit) judged = absurd (never (fault.Large what limit) judged)
  no_other never fault.NoMemory judged = refl

-- the same of texts that are these
pub judged_as : (texts : List ℕ) (about : List ℕ) (controller question : List ℕ) → controller ≡ texts → question ≡ about → (r : Result Verdict JudgeFault)
    → Judges controller question r → Judges texts about r
judged_as texts about controller question same same_about r judged =
    subst (λ bytes. Judges texts bytes r) same_about (subst (λ bytes. Judges bytes question r) same judged)

pub only_memory : (texts : List ℕ) (about : List ℕ) (controller question : List ℕ) → controller ≡ texts → question ≡ about
    → ((f : JudgeFault) → Refuses texts about f → ⊥) → (f : JudgeFault) → Judges controller question (Err f) → f ≡ fault.NoMemory
only_memory texts about controller question same same_about never f judged =
    no_other texts about never f (judged_as texts about controller question same same_about (Err f) judged)
