use Rattle.std.proofs.Common.{◌≡◌, sym, subst, ap, Err, ℕ, List, length, ◌<◌, Option, None, Some}
use Rattle.std.specs.Prelude.{IfSome}
use Rattle.ccac_ports.specs.Ports.{Told}
use Rattle.draw_trace.specs.Fetched.{FetchEnds, faulty, longer}
use Rattle.draw_trace.specs.Reports.{Answer, most_bytes}
use Rattle.draw_trace.specs.declared.reports.Source.{Source}
use Rattle.draw_trace.proofs.fetching.fetch.Goals as goal

-- the report shows the answer that ends the fetch
shows : (old new : Told) (source : Source) (name : List ℕ) (shown answer : Answer) → shown ≡ answer
    → FetchEnds old new source name answer → FetchEnds old new source name shown
shows old new source name shown answer is ends = subst (FetchEnds old new source name) (sym is) ends

past_limit : (o : Option (List ℕ)) (P : Type 0) → IfSome o (λ held. (most_bytes < length held) × P) → IfSome o (λ held. most_bytes < length held)
past_limit None P none = none
past_limit (Some held) P (past, _) = past

pub returns-in_ok-read_fault-in-Err-Failed-clause-halted : goal.returns-in_ok-read_fault-in-Err-Failed-clause-halted
returns-in_ok-read_fault-in-Err-Failed-clause-halted g c =
    shows _ _ _ _ _ _ c.in_ok-read_fault-in-Err-Failed.ensures (faulty (c.in-Err-Failed.ensures.failed (ap Err c.in-Err-Failed.field-0-is)))

pub returns-in_ok-too_long-in-Err-TooLong-clause-halted : goal.returns-in_ok-too_long-in-Err-TooLong-clause-halted
returns-in_ok-too_long-in-Err-TooLong-clause-halted g c =
    shows _ _ _ _ _ _ c.in_ok-too_long-in-Err-TooLong.ensures
    (longer (c.in-Err-TooLong.ensures.exceeded (ap Err c.in-Err-TooLong.field-0-is))
    (past_limit _ _ (c.in-Err-TooLong.ensures.longer (ap Err c.in-Err-TooLong.field-0-is))))
