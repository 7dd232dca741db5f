-- What a call of the program may answer to its words.
use Rattle.std.specs.Prelude.{◌≡◌, ℕ, List, Option, None, Some, Ok}
use Rattle.ctrl_types.specs.declared.controllers.Controller.{Controller as AController}
use Rattle.question_text.specs.declared.questions.Question.{Question as AQuestion}
use Rattle.clause_form.specs.declared.clauses.Clauses.{Clauses}
use Rattle.asked.specs.Asked.{AreAsked}
use Rattle.verdict.specs.Problems.{problem_of}
use Rattle.ccac_ports.specs.Ports.{Told}
use Rattle.file_reports.specs.Fetched.{Fetches, Holds, IsTold}
use Rattle.file_reports.specs.Had.{had_all}
use Rattle.file_reports.specs.Reports.{Answer, usage}
use Rattle.file_reports.specs.declared.sources.Source.TheVariants.{Controller, Question}
use Rattle.ccac_cli.specs.Commands.{Order, answers_of, entry_of, one_answer_of}

-- what an order is answered with: each file is fetched in its turn, and a fetch can end the order
abbrev pub OrderAnswers : Told → Told → Order → Answer → Type 0
OrderAnswers old new order a = had_all (Fetches old new) (entry_of order.command).files order.names (answers_of order.command) a

-- what an order is answered with where the folder tells what its files hold and counts no fault of them. It is one answer
abbrev pub ToldAnswers : Told → Told → Order → Answer → Type 0
ToldAnswers old new order a = had_all (Holds old new) (entry_of order.command).files order.names (one_answer_of order.command) a

-- the folder tells the texts of a controller and a question, and counts no fault of them; their problem isn't too large
pub record CanCheck (old new : Told) (c q : List ℕ) : Type 0 where
  pub controller : List ℕ
  pub question : List ℕ
  pub controller_told : IsTold old new Controller c controller
  pub question_told : IsTold old new Question q question
  pub asked : AController
  pub about : AQuestion
  pub are_asked : AreAsked controller question asked about
  pub problem : Clauses
  pub is_posed : problem_of asked about ≡ Ok problem

-- the answers to the words: usage where they are no order
abbrev pub Answers : Told → Told → Option Order → Answer → Type 0
Answers old new None a = a ≡ usage
Answers old new (Some order) a = OrderAnswers old new order a
