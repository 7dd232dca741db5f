use Rattle.std.proofs.Common.{◌≡◌, subst, ℕ, List, Result, Ok, Err}
use Rattle.std.specs.Prelude.{IfOk}
use Rattle.whole.specs.declared.answers.NoMemory.{NoMemory}
use Rattle.ccac_ports.specs.Ports.{Told}
use Rattle.draw_trace.specs.Ended.{Settles, goes_on, stops}
use Rattle.draw_trace.specs.Fetched.{AreFetched, BothEnd}
use Rattle.draw_trace.specs.Halted.{HaltsBy}
use Rattle.draw_trace.specs.Ordered.{ordered}
use Rattle.draw_trace.specs.Drawing.{Answers}
use Rattle.draw_trace.specs.Requests.{Order}
use Rattle.draw_trace.specs.Shown.{shown}
use Rattle.draw_trace.specs.declared.fetching.EarlyEnd.{EarlyEnd}
use Rattle.draw_trace.specs.declared.fetching.EarlyEnd.TheVariants as halts
use Rattle.draw_trace.specs.declared.reports.Report.{Report}
use Rattle.draw_trace.proofs.running.carried_out.Goals as goal

stopped : (old new : Told) (order : Order) (halt : EarlyEnd) (report : Report) → halt ≡ halts.Report report
    → HaltsBy (BothEnd old new order.question order.trace) halt → Settles old new order (shown report)
stopped old new order halt report is ends = stops (subst (HaltsBy (BothEnd old new order.question order.trace)) is ends)

pub returns-in-Err-Report : goal.returns-in-Err-Report
returns-in-Err-Report g c =
    rw c.in-Err-Report.field-0-is (stopped _ _ (ordered c.args.request) c.in-Err-Report.field-0 c.in-Err-Report.report c.in-Err-Report.field-0-is c.in-Err-Report.ensures.halted)

-- the report answers to the bytes of both files
answered : (old new : Told) (order : Order) (question trace one two : List ℕ) (result : Result Report NoMemory)
    → AreFetched old order.question order.trace question trace → one ≡ question → two ≡ trace
    → IfOk result (λ report. Answers one two (shown report)) → IfOk result (λ report. Settles old new order (shown report))
answered old new order question trace one two (Ok report) fetched first second is =
    goes_on question trace fetched
    (subst (λ q. Answers question q (shown report)) second (subst (λ c. Answers c two (shown report)) first is))
answered old new order question trace one two (Err fault) fetched first second is = tt

pub returns-in-Ok : goal.returns-in-Ok
returns-in-Ok g c =
    answered _ _ _ _ _ _ _ _ c.in-Ok.ensures.found c.as_slice.ensures.value c.as_slice-in-Ok.ensures.value c.answer.ensures
