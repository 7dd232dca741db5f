use Rattle.std.proofs.Common.{◌≡◌, ◌∙◌, sym, subst, ap, ℕ, List, Err}
use Rattle.run_rows.specs.declared.shapes.Shape.{Shape}
use Rattle.run_rows.specs.declared.rows.Run.{Run}
use Rattle.ctrl_types.specs.declared.controllers.Controller.{Controller}
use Rattle.question_text.specs.declared.questions.Question.{Question}
use Rattle.trace_text.specs.Script.{IsRefused}
use Rattle.trace_text.specs.Spelling.{IsTraceText}
use Rattle.trace_replay.specs.Replaying.{replaying}
use Rattle.trace_replay.specs.declared.replaying.Replayed.{Replayed}
use Rattle.ccac_cli.specs.Replays.{RunAnswers, replayed, trace_refused}
use Rattle.file_reports.specs.Reports.{Answer}
use Rattle.ccac_cli.specs.Reports.{replay_verdict}
use Rattle.ccac_cli.specs.Saved.{behind_verdict}
use Rattle.file_reports.specs.declared.sources.Source.TheVariants.{Trace}
use Rattle.file_reports.proofs.HaltLaws.{refusal_halts}
use Rattle.ccac_cli.proofs.replaying.replay_trace.Goals as goal

shows_verdict : (trace : List ℕ) (c : Controller) (q : Question) (shape : Shape) (r : Run) (found : Replayed) (answer : Answer)
    → IsTraceText (behind_verdict trace) shape r → answer ≡ replay_verdict found → found ≡ replaying c q r → RunAnswers trace c q answer
shows_verdict trace c q shape r found answer spelled shows is =
    subst (RunAnswers trace c q) (sym (shows ∙ ap replay_verdict is)) (replayed shape r spelled)

pub returns-in_ok-replay_report-in-Ok : goal.returns-in_ok-replay_report-in-Ok
returns-in_ok-replay_report-in-Ok c =
    shows_verdict c.args.trace.now c.args.asked.now.controller c.args.asked.now.question c.in-Ok._shape c.in-Ok.run' _ _
    (subst (λ bytes. IsTraceText bytes c.in-Ok._shape c.in-Ok.run') c.behind_verdict.ensures.exact c.in-Ok.ensures.found)
    c.in_ok-replay_report-in-Ok.ensures c.replay-found.ensures.exact

pub returns-in-Err : goal.returns-in-Err
returns-in-Err c =
    refusal_halts (RunAnswers c.args.trace.now c.args.asked.now.controller c.args.asked.now.question) Trace c.in-Err.fault c.halted.result c.halted.ensures
    (λ r is. trace_refused r (subst (λ bytes. IsRefused bytes r) c.behind_verdict.ensures.exact (c.in-Err.ensures.refused r (ap Err is))))
