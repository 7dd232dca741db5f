-- What is answered to a controller and a question that are to be decided: the first of the two that is refused, or that their problem
-- is too large; or the verdict, with the run, the certificate, or the journal of the search that was given up.
use Rattle.std.specs.Prelude.{◌≡◌, ℕ, List, ◌++◌, codes, Err}
use Rattle.std.specs.Fmt.{decimal, signed_decimal}
use Rattle.text_lines.specs.Pieces.{text}
use Rattle.whole.specs.declared.answers.Op.{Op}
use Rattle.whole.specs.declared.answers.Op.TheVariants.{Product, Sum}
use Rattle.whole.specs.declared.answers.Pair.{Pair}
use Rattle.whole.specs.declared.answers.Place.{Place}
use Rattle.whole.specs.declared.answers.Place.TheVariants.{Bound, Value, Pivot, Multiplier, Epsilon, Scale, Column, Replay}
use Rattle.whole.specs.declared.answers.Stuck.{Stuck}
use Rattle.run_rows.specs.Limits.{IsWithin}
use Rattle.run_rows.specs.Runs.{Fits}
use Rattle.run_rows.specs.declared.shapes.Shape.{Shape}
use Rattle.run_rows.specs.declared.rows.Run.{Run}
use Rattle.ctrl_types.specs.declared.controllers.Controller.{Controller}
use Rattle.question_text.specs.declared.questions.Question.{Question}
use Rattle.farkas_cert.specs.declared.certificates.Cert.{Cert}
use Rattle.farkas_cert.specs.declared.journals.Move.{Move}
use Rattle.clause_form.specs.Building.{limit_of}
use Rattle.clause_form.specs.declared.clauses.What.{What}
use Rattle.trace_text.specs.Spelling.{trace_lines}
use Rattle.cert_text.specs.Journals.{journal_lines}
use Rattle.cert_text.specs.Spelling.{cert_lines, certificate}
use Rattle.unroll.specs.declared.problems.Problem.{Problem}
use Rattle.verdict.specs.Judging.{Says}
use Rattle.verdict.specs.Problems.{IsProblemOf, problem_of}
use Rattle.verdict.specs.declared.judging.Verdict.{Verdict}
use Rattle.verdict.specs.declared.judging.Verdict.TheVariants.{Violated, Verified, Budget, Wide}
use Rattle.ccac_cli.specs.AskAnswers.{Asks}
use Rattle.file_reports.specs.Reports.{Answer}
use Rattle.ccac_cli.specs.Reports.{too_large}

-- ---- the reports

-- the word for the place of an operation
abbrev pub place_word : Place → List ℕ
place_word Bound = codes "bound"
place_word Value = codes "value"
place_word Pivot = codes "pivot"
place_word Multiplier = codes "multiplier"
place_word Epsilon = codes "epsilon"
place_word Scale = codes "scale"
place_word Column = codes "column"
place_word Replay = codes "replay"

abbrev pub op_word : Op → List ℕ
op_word Product = codes "product"
op_word Sum = codes "sum"

-- a numerator and a denominator
unfoldable pub pair_items : Pair → List ℕ
pair_items pair = signed_decimal pair.num ++ (codes " " ++ signed_decimal pair.den)

-- the place of an operation, what is numbered there, and what it forms
unfoldable pub operation_items : Stuck → List ℕ
operation_items stuck =
    place_word stuck.place ++ (codes " " ++ (decimal stuck.at ++ (codes " " ++ (decimal stuck.by ++ (codes " " ++ op_word stuck.op)))))

-- the line that names an operation and its operands
unfoldable pub wide_line : Stuck → List ℕ
wide_line stuck =
    codes "unknown wide " ++ (operation_items stuck ++ (codes " " ++ (pair_items stuck.left ++ (codes " " ++ (pair_items stuck.right ++ codes "\n")))))

unfoldable pub violated_report : Shape → Run → Answer
violated_report shape run = record { status = 1; text = codes "violated\n" ++ text (trace_lines shape run) }

unfoldable pub verified_report : Cert → Answer
verified_report cert = record { status = 0; text = codes "verified\n" ++ text (cert_lines (certificate cert)) }

-- the journal of a search behind the line that says why it was given up
unfoldable pub unknown_report : List ℕ → List Move → Answer
unknown_report line moves = record { status = 2; text = line ++ text (journal_lines moves) }

abbrev pub budget_line : List ℕ
budget_line = codes "unknown budget\n"

abbrev pub verdict_report : Verdict → Answer
verdict_report (Violated shape run) = violated_report shape run
verdict_report (Verified cert) = verified_report cert
verdict_report (Budget spent) = unknown_report budget_line spent.journal.moves
verdict_report (Wide stuck spent) = unknown_report (wide_line stuck) spent.journal.moves

-- a run has to fit its shape to be printed
abbrev pub IsPrintable : Verdict → Type 0
IsPrintable (Violated shape run) = IsWithin shape × Fits shape run
IsPrintable (Verified cert) = Unit {0}
IsPrintable (Budget spent) = Unit {0}
IsPrintable (Wide stuck spent) = Unit {0}

-- ---- the answers

-- an answer to a question about a controller
pub data VerdictAnswers (c : Controller) (q : Question) : Answer → Type 0 where
  large : (what : What) → problem_of c q ≡ Err what → VerdictAnswers c q (too_large what (limit_of what))
  judged : (p : Problem) (v : Verdict) → IsProblemOf c q p → Says c q p v → VerdictAnswers c q (verdict_report v)

-- an answer to these bytes
abbrev pub CheckAnswers : List ℕ → List ℕ → Answer → Type 0
CheckAnswers controller question = Asks controller question VerdictAnswers

-- the problem is too large
pub data SizeAnswers (c : Controller) (q : Question) : Answer → Type 0 where
  limited : (what : What) → problem_of c q ≡ Err what → SizeAnswers c q (too_large what (limit_of what))

-- the refusal with which these bytes are answered
abbrev pub CheckRefusals : List ℕ → List ℕ → Answer → Type 0
CheckRefusals controller question = Asks controller question SizeAnswers
