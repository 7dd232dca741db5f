-- What is known of a fetch that came after another one.
use Rattle.std.proofs.Common.{◌≡◌, subst, ℕ, ◌<◌, ◌≤◌, inl, inr, List, length, arith}
use Rattle.std.specs.Prelude.{IfSome}
use Rattle.ccac_ports.specs.Ports.{HasRisen, Tells, Told}
use Rattle.problem_smt.specs.Fetched.{AreFetched, BothEnd, FetchEnds, IsFetched, IsLater, at_controller, at_question, faulty, longer}
use Rattle.problem_smt.specs.Halted.{HaltsBy}
use Rattle.problem_smt.specs.Reports.{Answer, most_bytes}
use Rattle.problem_smt.specs.declared.fetching.EarlyEnd.{EarlyEnd}
use Rattle.problem_smt.specs.declared.fetching.EarlyEnd.TheVariants.{Report, NoMemory}
use Rattle.problem_smt.specs.declared.reports.Source.{Source}
use Rattle.problem_smt.specs.declared.reports.Source.TheVariants.{Controller, Question}

rises : (old middle new : ℕ) → old ≤ middle → HasRisen middle new → HasRisen old new
rises old middle new below (inl more) = inl (omega arith)
rises old middle new below (inr last) = inr last

later_fetched : (old middle : Told) (name bytes : List ℕ) → IsLater old middle → IsFetched middle name bytes → IsFetched old name bytes
later_fetched old middle name bytes later fetched = record {
  told = subst (λ told. Tells told bytes) (later.kept name) fetched.told;
  within = fetched.within;
}

later_ends : (old middle new : Told) (source : Source) (name : List ℕ) (answer : Answer) → IsLater old middle
    → FetchEnds middle new source name answer → FetchEnds old new source name answer
later_ends old middle new source name answer later (faulty rose) =
    faulty (rises (old.faults name) (middle.faults name) (new.faults name) (later.faults_stay name) rose)
later_ends old middle new source name answer later (longer rose past) =
    longer (rises (old.excesses name) (middle.excesses name) (new.excesses name) (later.excesses_stay name) rose)
    (subst (λ told. IfSome told (λ held. most_bytes < length held)) (later.kept name) past)

pub first_ends : (old new : Told) (c q : List ℕ) (halt : EarlyEnd) → HaltsBy (FetchEnds old new Controller c) halt → HaltsBy (BothEnd old new c q) halt
first_ends old new c q (Report report) ends = at_controller ends
first_ends old new c q NoMemory ends = tt

pub second_ends : (old middle new : Told) (c q controller : List ℕ) (halt : EarlyEnd) → IsLater old middle → IsFetched old c controller
    → HaltsBy (FetchEnds middle new Question q) halt → HaltsBy (BothEnd old new c q) halt
second_ends old middle new c q controller (Report report) later fetched ends =
    at_question controller fetched (later_ends old middle new Question q _ later ends)
second_ends old middle new c q controller NoMemory later fetched ends = tt

pub both_fetched : (old middle : Told) (c q controller question : List ℕ) → IsLater old middle → IsFetched old c controller
    → IsFetched middle q question → AreFetched old c q controller question
both_fetched old middle c q controller question later first second =
    record { controller_is = first; question_is = later_fetched old middle q question later second }
