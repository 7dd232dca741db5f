-- How a call ends that puts a report.
use Rattle.std.specs.Prelude.{◌≡◌, ℕ, [], take, ◌⊎◌}
use Rattle.ccac_ports.specs.Ports.{Appends, Got, HasRisen}
use Rattle.file_reports.specs.Reports.{Answer}

-- the answer was put whole, or a part of it was put and the sink failed or memory ran out
pub data Delivered (a : Answer) (old new : Got) : ℕ → Type 0 where
  put_whole : Appends old.text new.text a.text → Delivered a old new a.status
  put_failed : HasRisen old.faults new.faults → (n : ℕ) → Appends old.text new.text (take n a.text) → Delivered a old new 6
  put_without_memory : (n : ℕ) → Appends old.text new.text (take n a.text) → Delivered a old new 7

-- a part of an answer's text was put, perhaps nothing
pub record IsPart (Allowed : Answer → Type 0) (old new : Got) : Type 0 where
  pub answer : Answer
  pub allowed : Allowed answer
  pub count : ℕ
  pub part : Appends old.text new.text (take count answer.text)

-- the call ends with this status: an answer was put whole and its status is given; or the sink failed;
-- or memory ran out, with nothing put or a part of an answer
pub data Ends (Allowed : Answer → Type 0) (old new : Got) : ℕ → Type 0 where
  whole : (a : Answer) → Allowed a → Appends old.text new.text a.text → Ends Allowed old new a.status
  cut_short : HasRisen old.faults new.faults → IsPart Allowed old new → Ends Allowed old new 6
  no_memory : Appends old.text new.text [] → Ends Allowed old new 7
  no_memory_left : IsPart Allowed old new → Ends Allowed old new 7

-- the answer was put whole and its status is given, or memory ran out
abbrev pub IsAnswered : Answer → Got → Got → ℕ → Type 0
IsAnswered a old new status = ((status ≡ a.status) × Appends old.text new.text a.text) ⊎ (status ≡ 7)
