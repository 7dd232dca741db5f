-- What comes of words without options: all that `ccac_cli::run` says of them.
use Rattle.std.specs.Prelude.{◌≡◌, ℕ, ◌≤◌, List, ◌⊎◌, None, Some}
use Rattle.ccac_ports.specs.Ports.{Got, HasRisen, Told}
use Rattle.ccac_cli.specs.Commands.{Order, check, order_of}
use Rattle.file_reports.specs.Ended.{Ends, IsAnswered}
use Rattle.ccac_cli.specs.Ended.{Answers, CanCheck, ToldAnswers}
use Rattle.ccac_cli.specs.Headline.{Headline}
use Rattle.ccac_cli.specs.Meaning.{IsMeant}
use Rattle.file_reports.specs.Reports.{Answer}

pub record CarriesOut (old new : Told) (words : List (List ℕ)) (before after : Got) (status : ℕ) : Type 0 where
  pub ended : Ends (Answers old new (order_of words)) before after status
  -- what `check` comes to, phrase by phrase
  pub headline : (c q : List ℕ) → order_of words ≡ Some (check c q) → Ends (Headline old new c q) before after status
  -- what was put with 0, 1 and 2 means what this status says
  pub means : status ≤ 2 → IsMeant old (order_of words) before after status
  -- files that are told, without a fault, have their answer put, unless memory runs out
  pub complete : (order : Order) (a : Answer) → order_of words ≡ Some order → ToldAnswers old new order a
      → (HasRisen before.faults after.faults → ⊥) → IsAnswered a before after status
  -- a question that is told, with its controller, and whose problem isn't too large, is decided
  pub decided : (c q : List ℕ) → order_of words ≡ Some (check c q) → CanCheck old new c q → (HasRisen before.faults after.faults → ⊥) → (status ≤ 2) ⊎ (status ≡ 7)
  pub no_command : status ≡ 4 → order_of words ≡ None
  pub usage : order_of words ≡ None → (status ≡ 4) ⊎ (status ≡ 6) ⊎ (status ≡ 7)
