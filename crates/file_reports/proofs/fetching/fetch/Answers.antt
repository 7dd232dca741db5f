use Rattle.std.proofs.Common.{◌≡◌, sym, subst, ap, Err, ℕ, List, length, ◌<◌, Option, None, Some}
use Rattle.std.specs.Prelude.{IfSome}
use Rattle.ccac_ports.specs.Ports.{Told}
use Rattle.file_reports.specs.Fetched.{FetchEnds, faulty, longer}
use Rattle.file_reports.specs.Reports.{Answer}
use Rattle.file_reports.specs.declared.sources.Source.{Source}
use Rattle.file_reports.proofs.fetching.fetch.Goals as goal

-- the report shows the answer that ends the fetch
shows : (old new : Told) (source : Source) (name : List ℕ) (shown answer : Answer) → shown ≡ answer
    → FetchEnds old new source name answer → FetchEnds old new source name shown
shows old new source name shown answer is ends = subst (FetchEnds old new source name) (sym is) ends

past_limit : (o : Option (List ℕ)) (n m : ℕ) (P : Type 0) → n ≡ m → IfSome o (λ held. (n < length held) × P) → IfSome o (λ held. m < length held)
past_limit None n m P same none = none
past_limit (Some held) n m P same (past, _) = subst (λ k. k < length held) same past

pub returns-in_ok-read_fault-in-Err-Failed-clause-halted : goal.returns-in_ok-read_fault-in-Err-Failed-clause-halted
returns-in_ok-read_fault-in-Err-Failed-clause-halted g c =
    shows _ _ _ _ _ _ c.in_ok-read_fault-in-Err-Failed.ensures (faulty (c.in-Err-Failed.ensures.failed (ap Err c.in-Err-Failed.field-0-is)))

pub returns-in_ok-too_long-in-Err-TooLong-clause-halted : goal.returns-in_ok-too_long-in-Err-TooLong-clause-halted
returns-in_ok-too_long-in-Err-TooLong-clause-halted g c =
    shows _ _ _ _ _ _ c.in_ok-too_long-in-Err-TooLong.ensures
    (longer (c.in-Err-TooLong.ensures.exceeded (ap Err c.in-Err-TooLong.field-0-is))
    (past_limit _ _ _ _ c.limit.ensures (c.in-Err-TooLong.ensures.longer (ap Err c.in-Err-TooLong.field-0-is))))
