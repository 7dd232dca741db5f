-- How a report was put.
use Rattle.std.specs.Prelude.{ℕ, List, take}
use Rattle.ccac_ports.specs.Ports.{Appends, Got, HasRisen}

-- the text was put whole and the report's status is given, or a part of it was put and the sink failed or memory ran out
pub data IsPut (status : ℕ) (text : List ℕ) (old new : Got) : ℕ → Type 0 where
  put_whole : Appends old.text new.text text → IsPut status text old new status
  put_failed : HasRisen old.faults new.faults → (n : ℕ) → Appends old.text new.text (take n text) → IsPut status text old new 6
  put_without_memory : (n : ℕ) → Appends old.text new.text (take n text) → IsPut status text old new 7
