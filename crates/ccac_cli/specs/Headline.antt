-- What `check CTRL QUEST` comes to. It is said of the program in one sentence, of which each phrase stands again above what says it:
--
--   For every two files that the folder gives, `check` prints a trace that is a run of the controller's flows on an admitted path and
--   violates the question, or a certificate that proves, and then no run of T steps over any denominator violates it; or Unknown, only
--   with its whole step budget spent or a named exact number past 128 bits; every refusal names the broken rule or limit.
use Rattle.std.specs.Prelude.{◌≡◌, ℕ, List, ◌++◌, codes, Ok, Err}
use Rattle.text_lines.specs.Pieces.{text}
use Rattle.whole.specs.declared.answers.Refusal.{Refusal}
use Rattle.whole.specs.declared.answers.Stuck.{Stuck}
use Rattle.run_rows.specs.declared.shapes.Shape.{Shape}
use Rattle.run_rows.specs.declared.rows.Run.{Run}
use Rattle.ctrl_types.specs.declared.controllers.Controller.{Controller}
use Rattle.ctrl_meaning.specs.RunOf.{RunOf}
use Rattle.question_text.specs.Meaning.{Violates}
use Rattle.question_text.specs.Texts.{IsRefused}
use Rattle.question_text.specs.declared.questions.Question.{Question}
use Rattle.trace_text.specs.Spelling.{IsTraceText}
use Rattle.farkas_cert.specs.declared.certificates.Cert.{Cert}
use Rattle.clause_form.specs.Building.{limit_of}
use Rattle.clause_form.specs.Derivations.{Proves}
use Rattle.clause_form.specs.declared.clauses.Clauses.{Clauses}
use Rattle.clause_form.specs.declared.clauses.What.{What}
use Rattle.cert_text.specs.Journals.{journal_lines}
use Rattle.cert_text.specs.Spelling.{IsCertText, certificate}
use Rattle.unroll.specs.declared.problems.Problem.{Problem}
use Rattle.lra_solve.specs.Solving.{IsSpent}
use Rattle.lra_solve.specs.declared.solved.Spent.{Spent}
use Rattle.asked.specs.Texts.{IsControllerRefused}
use Rattle.verdict.specs.Judging.{IsWide}
use Rattle.verdict.specs.Problems.{IsProblemOf, NoneViolates, problem_of}
use Rattle.ccac_ports.specs.Ports.{Told}
use Rattle.ccac_cli.specs.Checks.{budget_line, wide_line}
use Rattle.file_reports.specs.Fetched.{FetchEnds, IsFetched}
use Rattle.ccac_cli.specs.Named.{NamesController, NamesQuestion}
use Rattle.file_reports.specs.Reports.{Answer, refused}
use Rattle.ccac_cli.specs.Reports.{too_large}
use Rattle.file_reports.specs.declared.sources.Source.TheVariants.{Controller as ControllerFile, Question as QuestionFile}

module _ (c : Controller) (q : Question) where
  -- "a trace that is a run of the controller's flows on an admitted path and violates the question": the bytes are the text of a run
  -- (IsTraceText); each flow keeps to the controller and the path to its rules, all of them in one row at once, from an opening within
  -- the ranges of the states (RunOf); every assumption is true of it and the requirement is false (Violates)
  pub record IsViolatingTrace (bytes : List ℕ) : Type 0 where
    pub shape : Shape
    pub run : Run
    pub text_is : IsTraceText bytes shape run
    pub is_run : RunOf c q.setting run
    pub violates : Violates q run

  -- "a certificate that proves": the bytes are the text of one (IsCertText), which closes the clauses of the controller and the question
  -- by its lemmas (Proves). "And then no run of T steps over any denominator violates it": none whatever the path does, is lost, and the
  -- states on the opening row are, and whatever its denominator and the size of its numbers (NoneViolates)
  pub record IsProvingCert (bytes : List ℕ) : Type 0 where
    pub problem : Clauses
    pub posed : problem_of c q ≡ Ok problem
    pub cert : Cert
    pub text_is : IsCertText bytes (certificate cert)
    pub proves : Proves problem cert
    pub none : NoneViolates c q

  -- "its whole step budget spent": the bytes are the journal of a search for a model of these clauses. It is legal, move by move, and each
  -- conflict learns its first implication point; it has exactly as many charged moves as the question's budget; and some further charged
  -- move may follow it (IsSpent)
  pub record IsSpentJournal (bytes : List ℕ) : Type 0 where
    pub problem : Clauses
    pub posed : problem_of c q ≡ Ok problem
    pub spent : Spent
    pub text_is : bytes ≡ text (journal_lines spent.journal.moves)
    pub all_spent : IsSpent problem q.setting.budget spent

  -- "a named exact number past 128 bits": the bytes are such a journal, legal and with at most as many charged moves as the budget, and
  -- the operation is one of those after it and overflows 128 bits: in carrying out its last move, at the corner that it reaches, in the
  -- values of a total assignment, or in weighing the run of these values (IsWide)
  pub record IsWideJournal (stuck : Stuck) (bytes : List ℕ) : Type 0 where
    pub problem : Problem
    pub posed : IsProblemOf c q problem
    pub spent : Spent
    pub text_is : bytes ≡ text (journal_lines spent.journal.moves)
    pub overflows : IsWide c q problem stuck spent

-- "for every two files that the folder gives, `check` prints"
pub data Headline (old new : Told) (c q : List ℕ) : Answer → Type 0 where
  -- "a trace"
  a_trace : (files : NamesQuestion old c q) (bytes : List ℕ) → IsViolatingTrace files.asked.controller files.question bytes
      → Headline old new c q (record { status = 1; text = codes "violated\n" ++ bytes })
  -- "or a certificate"
  a_certificate : (files : NamesQuestion old c q) (bytes : List ℕ) → IsProvingCert files.asked.controller files.question bytes
      → Headline old new c q (record { status = 0; text = codes "verified\n" ++ bytes })
  -- "or Unknown, only with its whole step budget spent"
  unknown_by_budget : (files : NamesQuestion old c q) (bytes : List ℕ) → IsSpentJournal files.asked.controller files.question bytes
      → Headline old new c q (record { status = 2; text = budget_line ++ bytes })
  -- "or a named exact number past 128 bits"
  unknown_by_number : (files : NamesQuestion old c q) (stuck : Stuck) (bytes : List ℕ) → IsWideJournal files.asked.controller files.question stuck bytes
      → Headline old new c q (record { status = 2; text = wide_line stuck ++ bytes })
  -- "every refusal names the broken rule": the first that a statement of the controller breaks, or, where it breaks none, one of the question
  controller_rule : (controller question : List ℕ) (r : Refusal) → IsFetched old ControllerFile c controller → IsFetched old QuestionFile q question
      → IsControllerRefused controller r → Headline old new c q (refused ControllerFile r)
  question_rule : (named : NamesController old c) (question : List ℕ) (r : Refusal) → IsFetched old QuestionFile q question
      → IsRefused named.controller question r → Headline old new c q (refused QuestionFile r)
  -- "or limit": of forms, atoms or clauses, the one that the clauses of the two would pass first
  size_limit : (files : NamesQuestion old c q) (what : What) → problem_of files.asked.controller files.question ≡ Err what
      → Headline old new c q (too_large what (limit_of what))
  -- of a file's length; or the file couldn't be read. The controller is fetched first, and each has a cause that the folder counts (FetchEnds)
  no_controller : (a : Answer) → FetchEnds old new ControllerFile c a → Headline old new c q a
  no_question : (controller : List ℕ) (a : Answer) → IsFetched old ControllerFile c controller → FetchEnds old new QuestionFile q a → Headline old new c q a
