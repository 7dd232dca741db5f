-- A controller and a question that are to be decided have one refusal, and where they have it no verdict.
use Rattle.std.proofs.Common.{◌≡◌, ◌∙◌, ℕ, List, Result, Ok, Err, sym, ap}
use Rattle.ctrl_types.specs.Resolving.{controller_seen}
use Rattle.ctrl_types.specs.declared.controllers.Controller.{Controller}
use Rattle.question_text.specs.StatementRules.{question_seen}
use Rattle.question_text.specs.declared.questions.Question.{Question}
use Rattle.clause_form.specs.Building.{limit_of}
use Rattle.clause_form.specs.declared.clauses.Clauses.{Clauses}
use Rattle.clause_form.specs.declared.clauses.What.{What}
use Rattle.verdict.specs.Problems.{problem_of}
use Rattle.ccac_cli.specs.AskAnswers.{ask_refused, asked}
use Rattle.ccac_cli.specs.Checks.{CheckAnswers, CheckRefusals, SizeAnswers, VerdictAnswers, judged, large, limited}
use Rattle.file_reports.specs.Reports.{Answer}
use Rattle.ccac_cli.specs.Reports.{too_large}
use Rattle.ccac_cli.proofs.OneReplay.{asks_one_of}
use Rattle.verdict.proofs.SameProblem.{problem_same}

size_once : (c d : Controller) (q p : Question) → controller_seen c ≡ controller_seen d → question_seen q ≡ question_seen p
    → (a b : Answer) → VerdictAnswers c q a → SizeAnswers d p b → a ≡ b
size_once c d q p controllers questions _ _ (large v one) (limited w two) =
    ap (λ what. too_large what (limit_of what)) (one_limit (problem_of d p) v w (sym (problem_same c d q p controllers questions) ∙ one) two)
  where
    one_limit : (p : Result Clauses What) (v w : What) → p ≡ Err v → p ≡ Err w → v ≡ w
    one_limit p v w one two = cc
size_once c d q p controllers questions _ _ (judged problem v of says) (limited w two) =
    absurd (large_or_not (problem_of d p) w problem.clauses two (sym (problem_same c d q p controllers questions) ∙ of.made))
  where
    large_or_not : (p : Result Clauses What) (w : What) (x : Clauses) → p ≡ Err w → p ≡ Ok x → ⊥
    large_or_not p w x one two = cc

pub checked_once : (controller question : List ℕ) (a b : Answer) → CheckAnswers controller question a → CheckRefusals controller question b → a ≡ b
checked_once controller question = asks_one_of controller question VerdictAnswers SizeAnswers size_once

-- a refusal is an answer
pub check_refused_so : (controller question : List ℕ) (a : Answer) → CheckRefusals controller question a → CheckAnswers controller question a
check_refused_so controller question a (ask_refused is) = ask_refused is
check_refused_so controller question a (asked c q are is) = asked c q are (size_so c q a is)
  where
    size_so : (c : Controller) (q : Question) (a : Answer) → SizeAnswers c q a → VerdictAnswers c q a
    size_so c q _ (limited what is) = large what is
