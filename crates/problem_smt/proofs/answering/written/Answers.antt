use Rattle.std.proofs.Common.{◌≡◌, sym, subst, ap, ◌∙◌, ℕ, List, Result, Ok}
use Rattle.clause_form.specs.Answers.{Fails}
use Rattle.clause_form.specs.declared.clauses.BuildFault.{BuildFault}
use Rattle.clause_form.specs.declared.clauses.BuildFault.TheVariants.{Large}
use Rattle.clause_form.specs.declared.clauses.Clauses.{Clauses}
use Rattle.clause_form.specs.declared.clauses.What.{What}
use Rattle.unroll.proofs.QuestionReady.{question_can}
use Rattle.problem_smt.specs.Problems.{answer_of, text_of}
use Rattle.problem_smt.specs.Reports.{Answer, too_large}
use Rattle.problem_smt.specs.declared.requests.Kind.{Kind}
use Rattle.problem_smt.proofs.answering.written.Goals as goal

pub unroll-requires-clause-question_in : goal.unroll-requires-clause-question_in
unroll-requires-clause-question_in c = question_can _ _ c.requires.question_in

module _ (kind : Kind) (made : Result Clauses What) where
  shows_text : (clauses : Clauses) (bytes : List ℕ) → made ≡ Ok clauses → bytes ≡ text_of kind clauses
      → (let a : Answer = record { status = 0; text = bytes } in a) ≡ answer_of kind made
  shows_text clauses bytes is wrote =
      ap (λ (b : List ℕ). let a : Answer = record { status = 0; text = b } in a) wrote ∙ ap (answer_of kind) (sym is)

  shows_limit : (fault : BuildFault) (what : What) (limit : ℕ) (answer : Answer) → fault ≡ Large what limit → Fails fault made
      → answer ≡ too_large what limit → answer ≡ answer_of kind made
  shows_limit fault what limit answer is fails shows =
      let overflows = subst (λ (f : BuildFault). Fails f made) is fails in
      shows ∙ ap (too_large what) overflows.1 ∙ ap (answer_of kind) (sym overflows.0)

pub returns-in_ok-text_of-in-Ok : goal.returns-in_ok-text_of-in-Ok
returns-in_ok-text_of-in-Ok c = shows_text _ _ _ _ c.in-Ok.ensures.exact c.in_ok-text_of-in-Ok.ensures

pub returns-in_ok-too_large-in-Err-Large : goal.returns-in_ok-too_large-in-Err-Large
returns-in_ok-too_large-in-Err-Large c =
    shows_limit _ _ c.in-Err-Large.field-0 c.in-Err-Large.what c.in-Err-Large.limit _ c.in-Err-Large.field-0-is c.in-Err-Large.ensures.exact (rw c.in-Err-Large.field-0-is at c.in_ok-too_large-in-Err-Large.ensures)
