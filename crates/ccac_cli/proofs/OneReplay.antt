-- The bytes of a controller, a question and a trace have one answer: they mean one controller and one question as these are
-- seen, and the answer depends on no more.
use Rattle.std.proofs.Common.{◌≡◌, ℕ, List, ◌∙◌, ap, sym}
use Rattle.run_rows.specs.declared.rows.Run.{Run}
use Rattle.ctrl_types.specs.Resolving.{controller_seen}
use Rattle.ctrl_types.specs.declared.controllers.Controller.{Controller}
use Rattle.ctrl_types.specs.declared.controllers.State.{State}
use Rattle.question_syntax.specs.Printed.{printed}
use Rattle.question_text.specs.StatementRules.{SeenQuestion, question_seen}
use Rattle.question_text.specs.Texts.{sections_written}
use Rattle.question_text.specs.declared.questions.Question.{Question}
use Rattle.question_text.proofs.SeenLaws.{states_same}
use Rattle.trace_replay.specs.Replaying.{replaying}
use Rattle.trace_text.proofs.Exactness as traces
use Rattle.trace_replay.proofs.SeenLaws.{replaying_same}
use Rattle.asked.specs.Asked.{AreAsked}
use Rattle.ccac_cli.specs.AskAnswers.{AskRefused, Asks, ask_refused, asked, controller_refused, question_refused}
use Rattle.ccac_cli.specs.Formats.{QuestionFormat, formatted, question_text}
use Rattle.ccac_cli.specs.Replays as replays
use Rattle.ccac_cli.specs.Replays.{ReplayAnswers, RunAnswers}
use Rattle.file_reports.specs.Reports.{Answer, refused}
use Rattle.ccac_cli.specs.Reports.{replay_verdict}
use Rattle.file_reports.specs.declared.sources.Source.TheVariants.{Controller as ControllerFile, Question as QuestionFile, Trace}
use Rattle.asked.proofs.AskingLaws.{one_asked, one_seen, refused_alone, refused_once}
use Rattle.asked.proofs.ControllerTexts.{one_refusal, not_both}
use Rattle.ccac_cli.specs.Saved.{behind_verdict}

-- ---- a trace about what is seen the same

run_once : (trace : List ℕ) (c d : Controller) (q p : Question) → controller_seen c ≡ controller_seen d → question_seen q ≡ question_seen p
    → (a b : Answer) → RunAnswers trace c q a → RunAnswers trace d p b → a ≡ b
run_once trace c d q p controllers questions _ _ (replays.trace_refused r one) (replays.trace_refused s two) =
    ap (refused Trace) (traces.one_refusal (behind_verdict trace) r s one two)
run_once trace c d q p controllers questions _ _ (replays.trace_refused r one) (replays.replayed shape run two) =
    absurd (traces.not_both (behind_verdict trace) r shape run one two)
run_once trace c d q p controllers questions _ _ (replays.replayed shape run one) (replays.trace_refused r two) =
    absurd (traces.not_both (behind_verdict trace) r shape run two one)
run_once trace c d q p controllers questions _ _ (replays.replayed shape run one) (replays.replayed other another two) =
    ap (λ (r : Run). replay_verdict (replaying c q r)) (traces.one_trace (behind_verdict trace) shape run other another one two).1
    ∙ ap replay_verdict (replaying_same c d q p another controllers questions)

-- ---- a controller and a question: they are refused or mean the same, and what is answered to the same is the same

module _ (controller question : List ℕ) where
  refused_asking : (a b : Answer) → AskRefused controller question a → AskRefused controller question b → a ≡ b
  refused_asking _ _ (controller_refused r one) (controller_refused s two) = ap (refused ControllerFile) (one_refusal controller r s one two)
  refused_asking _ _ (controller_refused r one) (question_refused syntax d s two breaks) = absurd (not_both controller syntax d r two one)
  refused_asking _ _ (question_refused syntax c r one breaks) (controller_refused s two) = absurd (not_both controller syntax c s one two)
  refused_asking _ _ (question_refused syntax c r one breaks) (question_refused other d s two breaks') =
      ap (refused QuestionFile) (refused_once c d (one_seen controller syntax other c d one two) question r s breaks breaks')

  pub refused_or_asked : (a : Answer) (d : Controller) (p : Question) → AskRefused controller question a → AreAsked controller question d p → ⊥
  refused_or_asked _ d p (controller_refused r one) two = not_both controller two.syntax d r two.controller_is one
  refused_or_asked _ d p (question_refused syntax c r one breaks) two =
      refused_alone c d (one_seen controller syntax two.syntax c d one two.controller_is) question r p breaks two.question_is

  pub asks_one_of : (Then Other : Controller → Question → Answer → Type 0)
      → ((c d : Controller) (q p : Question) → controller_seen c ≡ controller_seen d → question_seen q ≡ question_seen p
      → (a b : Answer) → Then c q a → Other d p b → a ≡ b)
      → (a b : Answer) → Asks controller question Then a → Asks controller question Other b → a ≡ b
  asks_one_of Then Other once a b (ask_refused one) (ask_refused two) = refused_asking a b one two
  asks_one_of Then Other once a b (ask_refused one) (asked d p two then) = absurd (refused_or_asked a d p one two)
  asks_one_of Then Other once a b (asked c q one then) (ask_refused two) = absurd (refused_or_asked b c q two one)
  asks_one_of Then Other once a b (asked c q one then) (asked d p two then') =
      let same = one_seen controller one.syntax two.syntax c d one.controller_is two.controller_is in
      once c d q p same (one_asked c d same question q p one.question_is two.question_is) a b then then'

  pub asks_once : (Then : Controller → Question → Answer → Type 0)
      → ((c d : Controller) (q p : Question) → controller_seen c ≡ controller_seen d → question_seen q ≡ question_seen p
      → (a b : Answer) → Then c q a → Then d p b → a ≡ b)
      → (a b : Answer) → Asks controller question Then a → Asks controller question Then b → a ≡ b
  asks_once Then once a b one two = asks_one_of Then Then once a b one two

-- ---- the commands

pub replayed_once : (controller question trace : List ℕ) (a b : Answer) → ReplayAnswers controller question trace a
    → ReplayAnswers controller question trace b → a ≡ b
replayed_once controller question trace = asks_once controller question (RunAnswers trace) (run_once trace)

put_once : (c d : Controller) (q p : Question) → controller_seen c ≡ controller_seen d → question_seen q ≡ question_seen p
    → (a b : Answer) → a ≡ formatted (question_text c q) → b ≡ formatted (question_text d p) → a ≡ b
put_once c d q p same questions a b one two =
    one ∙ ap (λ (states : List State). formatted (printed (sections_written states (question_seen q)))) (states_same c d same)
    ∙ ap (λ (x : SeenQuestion). formatted (printed (sections_written d.states x))) questions ∙ sym two

pub question_formatted_once : (controller question : List ℕ) (a b : Answer) → QuestionFormat controller question a
    → QuestionFormat controller question b → a ≡ b
question_formatted_once controller question = asks_once controller question (λ c q a. a ≡ formatted (question_text c q)) put_once
