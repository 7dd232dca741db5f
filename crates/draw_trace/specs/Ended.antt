-- What a call may answer to its words, and how it may end.
use Rattle.std.specs.Prelude.{◌≡◌, ℕ, List, [], take, Option, None, Some}
use Rattle.ccac_ports.specs.Ports.{Appends, Got, HasRisen, Told}
use Rattle.draw_trace.specs.Fetched.{AreFetched, BothEnd}
use Rattle.draw_trace.specs.Drawing.{Answers}
use Rattle.draw_trace.specs.Reports.{Answer, usage}
use Rattle.draw_trace.specs.Requests.{Order}

-- the answer to an order: at the fetch of a file, or to the bytes of both
pub data Settles (old new : Told) (order : Order) (a : Answer) : Type 0 where
  stops : BothEnd old new order.question order.trace a → Settles old new order a
  goes_on : (question trace : List ℕ) → AreFetched old order.question order.trace question trace
      → Answers question trace a → Settles old new order a

-- the answer to the words: usage where they are no order
abbrev pub WordsSettle : Told → Told → Option Order → Answer → Type 0
WordsSettle old new None a = a ≡ usage
WordsSettle old new (Some order) a = Settles old new order a

-- the answer was put whole, or a part of it was put and the sink failed or memory ran out
pub data Delivers (a : Answer) (old new : Got) : ℕ → Type 0 where
  put_whole : Appends old.text new.text a.text → Delivers a old new a.status
  put_failed : HasRisen old.faults new.faults → (n : ℕ) → Appends old.text new.text (take n a.text) → Delivers a old new 6
  put_without_memory : (n : ℕ) → Appends old.text new.text (take n a.text) → Delivers a old new 7

-- the call ends with this status: an answer that is allowed is delivered, or memory ran out with nothing put
pub data Ends (Allowed : Answer → Type 0) (old new : Got) (status : ℕ) : Type 0 where
  delivered : (a : Answer) → Allowed a → Delivers a old new status → Ends Allowed old new status
  no_memory : Appends old.text new.text [] → status ≡ 7 → Ends Allowed old new status
