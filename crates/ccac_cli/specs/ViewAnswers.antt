-- What is answered to the texts of a command, with no more of what they mean than what is seen: this can be found for any bytes, where
-- a value that code holds can't be made in a definition.
use Rattle.std.specs.Prelude.{◌≡◌, ℕ, List, [], Result, Ok, Err}
use Rattle.whole.specs.declared.answers.Refusal.{Refusal}
use Rattle.run_rows.specs.declared.shapes.Shape.{Shape}
use Rattle.run_rows.specs.declared.rows.Run.{Run}
use Rattle.ctrl_syntax.specs.Printed as controllers
use Rattle.ctrl_types.specs.Resolving.{SeenController, controller_seen}
use Rattle.ctrl_types.specs.declared.controllers.Controller.{Controller}
use Rattle.question_syntax.specs.Printed as questions
use Rattle.question_text.specs.StatementRules.{SeenQuestion, question_seen}
use Rattle.question_text.specs.Texts.{IsRefused, IsTextOf, sections_written}
use Rattle.question_text.specs.declared.questions.Question.{Question}
use Rattle.trace_replay.specs.Replaying.{replaying}
use Rattle.trace_replay.specs.declared.replaying.Replayed.{Replayed}
use Rattle.trace_text.specs.Script.{IsRefused as IsTraceRefused}
use Rattle.trace_text.specs.Spelling.{IsTraceText}
use Rattle.farkas_cert.specs.declared.certificates.Cert.{Cert}
use Rattle.clause_form.specs.Building.{limit_of}
use Rattle.clause_form.specs.declared.clauses.Clauses.{Clauses}
use Rattle.clause_form.specs.declared.clauses.What.{What}
use Rattle.cert_check.specs.Verdicts.{Verdict, verdict}
use Rattle.cert_text.specs.Rules.{IsRefused as IsCertRefused}
use Rattle.cert_text.specs.Spelling.{Certificate, IsCertText, certificate}
use Rattle.asked.specs.Texts.{IsControllerRefused, MeansController}
use Rattle.verdict.specs.Problems.{problem_of}
use Rattle.ccac_cli.specs.Formats.{formatted}
use Rattle.file_reports.specs.Reports.{Answer, refused}
use Rattle.ccac_cli.specs.Reports.{check_report, replay_verdict, too_large}
use Rattle.ccac_cli.specs.Saved.{behind_verdict}
use Rattle.file_reports.specs.declared.sources.Source.TheVariants.{Controller as ControllerFile, Question as QuestionFile, Trace, Cert as CertFile}

pub data SeenFormat (controller : List ℕ) : Answer → Type 0 where
  seen_refused : (r : Refusal) → IsControllerRefused controller r → SeenFormat controller (refused ControllerFile r)
  seen_put : (c : SeenController) (means : MeansController controller c) → SeenFormat controller (formatted (controllers.printed means.sections))

-- a controller without rules that is otherwise seen as this one: a question's text asks for no more of it
abbrev pub unruled : SeenController → Controller
unruled x = record { states = x.states; rules = []; window = x.window; rate = x.rate; delay_max = x.delay_max; den = x.den }

-- a controller and a question: the first that is refused, or what is then answered to what they mean
pub data SeenAsks (controller question : List ℕ) (Then : SeenController → SeenQuestion → Answer → Type 0) : Answer → Type 0 where
  first_refused : (r : Refusal) → IsControllerRefused controller r → SeenAsks controller question Then (refused ControllerFile r)
  then_refused : (x : SeenController) (r : Refusal) → MeansController controller x → IsRefused (unruled x) question r
      → SeenAsks controller question Then (refused QuestionFile r)
  both_mean : (x : SeenController) (y : SeenQuestion) (a : Answer) → MeansController controller x → IsTextOf (unruled x) question y → Then x y a
      → SeenAsks controller question Then a

abbrev pub IsQuestionPut : SeenController → SeenQuestion → Answer → Type 0
IsQuestionPut x y a = a ≡ formatted (questions.printed (sections_written x.states y))

abbrev pub SeenQuestionFormat : List ℕ → List ℕ → Answer → Type 0
SeenQuestionFormat controller question = SeenAsks controller question IsQuestionPut

-- ---- a trace

-- replaying the run comes to this, for each controller and question that are seen so
abbrev pub ComesTo : SeenController → SeenQuestion → Run → Replayed → Type 0
ComesTo x y r found = (c : Controller) (q : Question) → controller_seen c ≡ x → question_seen q ≡ y → replaying c q r ≡ found

pub data SeenRun (trace : List ℕ) (x : SeenController) (y : SeenQuestion) : Answer → Type 0 where
  trace_refused : (r : Refusal) → IsTraceRefused (behind_verdict trace) r → SeenRun trace x y (refused Trace r)
  replayed : (shape : Shape) (r : Run) (found : Replayed) → IsTraceText (behind_verdict trace) shape r → ComesTo x y r found
      → SeenRun trace x y (replay_verdict found)

abbrev pub SeenReplay : List ℕ → List ℕ → List ℕ → Answer → Type 0
SeenReplay controller question trace = SeenAsks controller question (SeenRun trace)

-- ---- a certificate

-- each controller and question that are seen so pose this problem, or pass this limit
abbrev pub Pose : SeenController → SeenQuestion → Result Clauses What → Type 0
Pose x y posed = (c : Controller) (q : Question) → controller_seen c ≡ x → question_seen q ≡ y → problem_of c q ≡ posed

-- the check of each certificate with this text comes to this
abbrev pub ChecksTo : Clauses → Certificate → Verdict → Type 0
ChecksTo problem z found = (cert : Cert) → certificate cert ≡ z → verdict problem cert ≡ found

pub data SeenCert (problem : Clauses) (file : List ℕ) : Answer → Type 0 where
  cert_refused : (r : Refusal) → IsCertRefused (behind_verdict file) r → SeenCert problem file (refused CertFile r)
  checked : (z : Certificate) (found : Verdict) → IsCertText (behind_verdict file) z → ChecksTo problem z found → SeenCert problem file (check_report found)

pub data SeenProblem (file : List ℕ) (x : SeenController) (y : SeenQuestion) : Answer → Type 0 where
  large : (what : What) → Pose x y (Err what) → SeenProblem file x y (too_large what (limit_of what))
  unrolled : (problem : Clauses) (a : Answer) → Pose x y (Ok problem) → SeenCert problem file a → SeenProblem file x y a

abbrev pub SeenAudit : List ℕ → List ℕ → List ℕ → Answer → Type 0
SeenAudit controller question file = SeenAsks controller question (SeenProblem file)

-- ---- a question that is to be decided

pub data SeenSize (x : SeenController) (y : SeenQuestion) : Answer → Type 0 where
  limited : (what : What) → Pose x y (Err what) → SeenSize x y (too_large what (limit_of what))

-- the refusal of the two texts or of the problem's size
abbrev pub SeenRefusal : List ℕ → List ℕ → Answer → Type 0
SeenRefusal controller question = SeenAsks controller question SeenSize

-- the two texts mean a controller and a question that pose this problem, which isn't too large
pub record SeenPosed (controller question : List ℕ) : Type 0 where
  pub x : SeenController
  pub y : SeenQuestion
  pub controller_means : MeansController controller x
  pub question_is : IsTextOf (unruled x) question y
  pub problem : Clauses
  pub posed : Pose x y (Ok problem)
