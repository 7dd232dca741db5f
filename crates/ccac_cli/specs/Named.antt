-- The files under the names of an order, as they were fetched and read. Where a folder tells what a name holds, the bytes that were
-- fetched are these; else they are those that it gave.
use Rattle.std.specs.Prelude.{◌≡◌, ℕ, List, Ok}
use Rattle.run_rows.specs.declared.shapes.Shape.{Shape}
use Rattle.run_rows.specs.declared.rows.Run.{Run}
use Rattle.path_server.specs.declared.settings.Setting.{Setting}
use Rattle.ctrl_syntax.specs.declared.syntax.Syntax.{Syntax}
use Rattle.ctrl_types.specs.declared.controllers.Controller.{Controller}
use Rattle.question_text.specs.declared.questions.Question.{Question}
use Rattle.trace_text.specs.Spelling.{IsTraceText}
use Rattle.farkas_cert.specs.declared.certificates.Cert.{Cert}
use Rattle.clause_form.specs.declared.clauses.Clauses.{Clauses}
use Rattle.cert_text.specs.Spelling.{IsCertText, certificate}
use Rattle.asked.specs.Asked.{IsAsked}
use Rattle.asked.specs.Texts.{IsControllerText}
use Rattle.verdict.specs.Problems.{problem_of}
use Rattle.ccac_ports.specs.Ports.{Told}
use Rattle.file_reports.specs.Fetched.{IsFetched}
use Rattle.ccac_cli.specs.Saved.{behind_verdict}
use Rattle.ccac_cli.specs.Texts.{IsSettingText}
use Rattle.file_reports.specs.declared.sources.Source.TheVariants.{Controller as ControllerFile, Question as QuestionFile, Trace, Cert as CertFile}

-- a controller under this name
pub record NamesController (folder : Told) (name : List ℕ) : Type 0 where
  pub bytes : List ℕ
  pub fetched : IsFetched folder ControllerFile name bytes
  pub syntax : Syntax
  pub controller : Controller
  pub is : IsControllerText bytes syntax controller

-- a controller and a question about it under these names
pub record NamesQuestion (folder : Told) (controller_name name : List ℕ) : Type 0 where
  pub asked : NamesController folder controller_name
  pub bytes : List ℕ
  pub fetched : IsFetched folder QuestionFile name bytes
  pub question : Question
  pub is : IsAsked asked.controller bytes question

-- a question's setting under this name
pub record NamesSetting (folder : Told) (name : List ℕ) : Type 0 where
  pub bytes : List ℕ
  pub fetched : IsFetched folder QuestionFile name bytes
  pub setting : Setting
  pub is : IsSettingText bytes setting

-- a trace under this name, alone or in a saved report
pub record NamesTrace (folder : Told) (name : List ℕ) : Type 0 where
  pub bytes : List ℕ
  pub fetched : IsFetched folder Trace name bytes
  pub shape : Shape
  pub run : Run
  pub is : IsTraceText (behind_verdict bytes) shape run

-- a certificate under this name, alone or in a saved report
pub record NamesCert (folder : Told) (name : List ℕ) : Type 0 where
  pub bytes : List ℕ
  pub fetched : IsFetched folder CertFile name bytes
  pub cert : Cert
  pub is : IsCertText (behind_verdict bytes) (certificate cert)

-- the clauses of a question under these names, which have a model exactly where some run violates it
pub record Poses (folder : Told) (controller_name name : List ℕ) : Type 0 where
  pub asked : NamesQuestion folder controller_name name
  pub problem : Clauses
  pub is : problem_of asked.asked.controller asked.question ≡ Ok problem
