-- What the fetch of a file can come to.
use Rattle.std.specs.Prelude.{◌≡◌, ℕ, ◌<◌, ◌≤◌, List, length, IfSome}
use Rattle.ccac_ports.specs.Ports.{HasRisen, Tells, Told}
use Rattle.draw_trace.specs.Reports.{Answer, most_bytes, read_fault, too_long}
use Rattle.draw_trace.specs.declared.reports.Source.{Source}
use Rattle.draw_trace.specs.declared.reports.Source.TheVariants.{Question, Trace}

-- neither count of any name fell, and no content changed
pub record IsLater (old new : Told) : Type 0 where
  pub faults_stay : (name : List ℕ) → old.faults name ≤ new.faults name
  pub excesses_stay : (name : List ℕ) → old.excesses name ≤ new.excesses name
  pub kept : (name : List ℕ) → new.content name ≡ old.content name

-- the bytes are those of the name, as far as that is told, and not too many
pub record IsFetched (folder : Told) (name bytes : List ℕ) : Type 0 where
  pub told : Tells (folder.content name) bytes
  pub within : length bytes ≤ most_bytes

-- the bytes of a question and of a trace
pub record AreFetched (folder : Told) (c q question trace : List ℕ) : Type 0 where
  pub question_is : IsFetched folder c question
  pub trace_is : IsFetched folder q trace

-- the answer that ends a call at the fetch of a file, with its cause
pub data FetchEnds (old new : Told) (source : Source) (name : List ℕ) : Answer → Type 0 where
  faulty : HasRisen (old.faults name) (new.faults name) → FetchEnds old new source name (read_fault source)
  longer : HasRisen (old.excesses name) (new.excesses name) → IfSome (old.content name) (λ held. most_bytes < length held)
      → FetchEnds old new source name (too_long source)

-- the answer that ends a call at the fetch of one of its two files: the question's comes first
pub data BothEnd (old new : Told) (c q : List ℕ) (a : Answer) : Type 0 where
  at_question : FetchEnds old new Question c a → BothEnd old new c q a
  at_trace : (question : List ℕ) → IsFetched old c question → FetchEnds old new Trace q a → BothEnd old new c q a
