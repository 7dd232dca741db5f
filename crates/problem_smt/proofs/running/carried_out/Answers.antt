use Rattle.std.proofs.Common.{◌≡◌, subst, ℕ, List, Result, Ok, Err}
use Rattle.std.specs.Prelude.{IfOk}
use Rattle.whole.specs.declared.answers.NoMemory.{NoMemory}
use Rattle.ccac_ports.specs.Ports.{Told}
use Rattle.problem_smt.specs.Ended.{Settles, goes_on, stops}
use Rattle.problem_smt.specs.Fetched.{AreFetched, BothEnd}
use Rattle.problem_smt.specs.Halted.{HaltsBy}
use Rattle.problem_smt.specs.Ordered.{ordered}
use Rattle.problem_smt.specs.Problems.{Answers}
use Rattle.problem_smt.specs.Requests.{Order}
use Rattle.problem_smt.specs.Shown.{shown}
use Rattle.problem_smt.specs.declared.fetching.EarlyEnd.{EarlyEnd}
use Rattle.problem_smt.specs.declared.fetching.EarlyEnd.TheVariants as halts
use Rattle.problem_smt.specs.declared.reports.Report.{Report}
use Rattle.problem_smt.proofs.running.carried_out.Goals as goal

stopped : (old new : Told) (order : Order) (halt : EarlyEnd) (report : Report) → halt ≡ halts.Report report
    → HaltsBy (BothEnd old new order.controller order.question) halt → Settles old new order (shown report)
stopped old new order halt report is ends = stops (subst (HaltsBy (BothEnd old new order.controller order.question)) is ends)

pub returns-in-Err-Report : goal.returns-in-Err-Report
returns-in-Err-Report g c =
    rw c.in-Err-Report.field-0-is (stopped _ _ (ordered c.args.request) c.in-Err-Report.field-0 c.in-Err-Report.report c.in-Err-Report.field-0-is c.in-Err-Report.ensures.halted)

-- the report answers to the bytes of both files
answered : (old new : Told) (order : Order) (controller question one two : List ℕ) (result : Result Report NoMemory)
    → AreFetched old order.controller order.question controller question → one ≡ controller → two ≡ question
    → IfOk result (λ report. Answers order.kind one two (shown report)) → IfOk result (λ report. Settles old new order (shown report))
answered old new order controller question one two (Ok report) fetched first second is =
    goes_on controller question fetched
    (subst (λ q. Answers order.kind controller q (shown report)) second (subst (λ c. Answers order.kind c two (shown report)) first is))
answered old new order controller question one two (Err fault) fetched first second is = tt

pub returns-in-Ok : goal.returns-in-Ok
returns-in-Ok g c =
    answered _ _ _ _ _ _ _ _ c.in-Ok.ensures.found c.as_slice.ensures.value c.as_slice-in-Ok.ensures.value c.answer.ensures
