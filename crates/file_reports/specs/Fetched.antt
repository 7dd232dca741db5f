-- What the fetch of a file can come to.
use Rattle.std.specs.Prelude.{◌≡◌, ℕ, ◌-◌, ◌^◌, ◌<◌, ◌≤◌, List, [], ◌∷◌, length, Some, IfSome}
use Rattle.ccac_ports.specs.Ports.{HasRisen, Tells, Told}
use Rattle.file_reports.specs.Reports.{Answer, read_fault, too_long}
use Rattle.file_reports.specs.Sources.{limit_of}
use Rattle.file_reports.specs.declared.sources.Source.{Source}

-- neither count of any name fell, and no content changed
pub record IsLater (old new : Told) : Type 0 where
  pub faults_stay : (name : List ℕ) → old.faults name ≤ new.faults name
  pub excesses_stay : (name : List ℕ) → old.excesses name ≤ new.excesses name
  pub kept : (name : List ℕ) → new.content name ≡ old.content name

-- the bytes are those of the name, as far as that is told, and not too many
pub record IsFetched (folder : Told) (source : Source) (name bytes : List ℕ) : Type 0 where
  pub told : Tells (folder.content name) bytes
  pub within : length bytes ≤ limit_of source

-- the texts are the bytes of the names, of which each stands for the file at its place; the last files may have no name
pub data AreFetched (folder : Told) : List Source → List (List ℕ) → List (List ℕ) → Type 0 where
  no_more : (files : List Source) → AreFetched folder files [] []
  one_more : (source : Source) (files : List Source) (name bytes : List ℕ) (names texts : List (List ℕ)) → IsFetched folder source name bytes
      → AreFetched folder files names texts → AreFetched folder (source ∷ files) (name ∷ names) (bytes ∷ texts)

-- texts whose lines can be numbered below 2 ^ 32
abbrev pub AreShort : List (List ℕ) → Type 0
AreShort [] = Unit {0}
AreShort (text ∷ texts) = (length text < 2 ^ 32 - 1) × AreShort texts

-- the answer that ends a command at the fetch of a file, with its cause
pub data FetchEnds (old new : Told) (source : Source) (name : List ℕ) : Answer → Type 0 where
  faulty : HasRisen (old.faults name) (new.faults name) → FetchEnds old new source name (read_fault source)
  longer : HasRisen (old.excesses name) (new.excesses name) → IfSome (old.content name) (λ held. limit_of source < length held)
      → FetchEnds old new source name (too_long source)

-- a file is fetched: that ends the command, or its bytes decide what is answered
pub data Fetches (old new : Told) (source : Source) (name : List ℕ) (Then : List ℕ → Answer → Type 0) (a : Answer) : Type 0 where
  stops : FetchEnds old new source name a → Fetches old new source name Then a
  goes_on : (bytes : List ℕ) → IsFetched old source name bytes → Then bytes a → Fetches old new source name Then a

-- the folder tells what the file holds, which isn't too much, and it counted no fault of this file
pub record IsTold (old new : Told) (source : Source) (name bytes : List ℕ) : Type 0 where
  pub content : old.content name ≡ Some bytes
  pub within : length bytes ≤ limit_of source
  pub no_fault : HasRisen (old.faults name) (new.faults name) → ⊥

-- what the file holds is told, and decides what is answered
pub record Holds (old new : Told) (source : Source) (name : List ℕ) (Then : List ℕ → Answer → Type 0) (a : Answer) : Type 0 where
  pub bytes : List ℕ
  pub told : IsTold old new source name bytes
  pub decides : Then bytes a
