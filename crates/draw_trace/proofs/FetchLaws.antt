-- What is known of a fetch that came after another one.
use Rattle.std.proofs.Common.{◌≡◌, subst, ℕ, ◌<◌, ◌≤◌, inl, inr, List, length, arith}
use Rattle.std.specs.Prelude.{IfSome}
use Rattle.ccac_ports.specs.Ports.{HasRisen, Tells, Told}
use Rattle.draw_trace.specs.Fetched.{AreFetched, BothEnd, FetchEnds, IsFetched, IsLater, at_question, at_trace, faulty, longer}
use Rattle.draw_trace.specs.Halted.{HaltsBy}
use Rattle.draw_trace.specs.Reports.{Answer, most_bytes}
use Rattle.draw_trace.specs.declared.fetching.EarlyEnd.{EarlyEnd}
use Rattle.draw_trace.specs.declared.fetching.EarlyEnd.TheVariants.{Report, NoMemory}
use Rattle.draw_trace.specs.declared.reports.Source.{Source}
use Rattle.draw_trace.specs.declared.reports.Source.TheVariants.{Question, Trace}

rises : (old middle new : ℕ) → old ≤ middle → HasRisen middle new → HasRisen old new
rises old middle new below (inl more) = inl (omega arith)
rises old middle new below (inr last) = inr last

later_fetched : (old middle : Told) (name bytes : List ℕ) → IsLater old middle → IsFetched middle name bytes → IsFetched old name bytes
later_fetched old middle name bytes later fetched = record {
  told = subst (λ told. Tells told bytes) (later.kept name) fetched.told;
  within = fetched.within;
}

later_ends : (old middle new : Told) (source : Source) (name : List ℕ) (answer : Answer) → IsLater old middle
    → FetchEnds middle new source name answer → FetchEnds old new source name answer
later_ends old middle new source name answer later (faulty rose) =
    faulty (rises (old.faults name) (middle.faults name) (new.faults name) (later.faults_stay name) rose)
later_ends old middle new source name answer later (longer rose past) =
    longer (rises (old.excesses name) (middle.excesses name) (new.excesses name) (later.excesses_stay name) rose)
    (subst (λ told. IfSome told (λ held. most_bytes < length held)) (later.kept name) past)

pub first_ends : (old new : Told) (c q : List ℕ) (halt : EarlyEnd) → HaltsBy (FetchEnds old new Question c) halt → HaltsBy (BothEnd old new c q) halt
first_ends old new c q (Report report) ends = at_question ends
first_ends old new c q NoMemory ends = tt

pub second_ends : (old middle new : Told) (c q question : List ℕ) (halt : EarlyEnd) → IsLater old middle → IsFetched old c question
    → HaltsBy (FetchEnds middle new Trace q) halt → HaltsBy (BothEnd old new c q) halt
second_ends old middle new c q question (Report report) later fetched ends =
    at_trace question fetched (later_ends old middle new Trace q _ later ends)
second_ends old middle new c q question NoMemory later fetched ends = tt

pub both_fetched : (old middle : Told) (c q question trace : List ℕ) → IsLater old middle → IsFetched old c question
    → IsFetched middle q trace → AreFetched old c q question trace
both_fetched old middle c q question trace later first second =
    record { question_is = first; trace_is = later_fetched old middle q trace later second }
