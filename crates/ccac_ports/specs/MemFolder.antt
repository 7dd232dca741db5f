use Rattle.std.specs.Prelude.{◌≡◌, ℕ, ◌≤◌, List, Bool, Option, None, Some, Result, Ok, Err, length, nat_lt, if◌then◌else◌, MatchResult}
use Rattle.std.specs.Global.{Vec}
use Rattle.std.specs.Option.{option_map}
use Rattle.std.specs.Ordering.{nat_cmp}
use Rattle.std.specs.BTreeMap.{get_by_text}
use Rattle.std.specs.BTreeSet.{contains}
use Rattle.ccac_ports.specs.declared.mem_folder.MemFolder.{MemFolder}
use Rattle.ccac_ports.specs.declared.ports.FetchFault.{FetchFault}
use Rattle.ccac_ports.specs.declared.ports.FetchFault.TheVariants.{Failed, TooLong, NoMemory}
use Rattle.ccac_ports.specs.Ports.{one_more}

-- the bytes that a name holds
abbrev pub held : MemFolder → List ℕ → Option (List ℕ)
held folder name = option_map (λ bytes. bytes.items) (get_by_text folder.files name)

-- whether the call of `fetch` with this number is planned to fail
abbrev pub fails_at : MemFolder → ℕ → Bool
fails_at folder call = contains nat_cmp folder.failing call

-- how many calls of `fetch` there were
abbrev pub calls : MemFolder → ℕ
calls folder = folder.calls

-- how many of them failed
abbrev pub faults : MemFolder → ℕ
faults folder = folder.faults

-- how many of them met a file that was too long
abbrev pub excesses : MemFolder → ℕ
excesses folder = folder.excesses

pub record SameCounts (old new : MemFolder) : Type 0 where
  pub calls : new.calls ≡ old.calls
  pub faults : new.faults ≡ old.faults
  pub excesses : new.excesses ≡ old.excesses

abbrev pub SameContent : MemFolder → MemFolder → Type 0
SameContent old new = (name : List ℕ) → held new name ≡ held old name

abbrev pub SamePlan : MemFolder → MemFolder → Type 0
SamePlan old new = (call : ℕ) → fails_at new call ≡ fails_at old call

-- only what the names hold may differ
abbrev pub SameButContent : MemFolder → MemFolder → Type 0
SameButContent old new = SamePlan old new × SameCounts old new

-- only the planned failures may differ
abbrev pub SameButPlan : MemFolder → MemFolder → Type 0
SameButPlan old new = SameContent old new × SameCounts old new

abbrev pub IsUnchanged : MemFolder → MemFolder → Type 0
IsUnchanged old new = SameContent old new × SamePlan old new × SameCounts old new

-- the file, or the fault, that a name with these bytes or none gives
abbrev pub within : ℕ → Option (List ℕ) → Result (List ℕ) FetchFault
within limit None = Err Failed
within limit (Some bytes) = if nat_lt limit (length bytes) then Err TooLong else Ok bytes

-- what the next call of `fetch` answers where memory suffices
abbrev pub answer : MemFolder → List ℕ → ℕ → Result (List ℕ) FetchFault
answer folder name limit =
    if fails_at folder (one_more (calls folder)) then Err Failed else within limit (held folder name)

-- a call gives this answer, but that memory can run out where a file is to be given
abbrev pub Gives : Result (List ℕ) FetchFault → Result (Vec ℕ) FetchFault → Type 0
Gives (Ok bytes) result = MatchResult result (λ copy. copy.items ≡ bytes) (λ fault. fault ≡ NoMemory)
Gives (Err fault) result = result ≡ Err fault

-- each call is counted, and each fault and excess
abbrev pub faults_after : ℕ → Result (Vec ℕ) FetchFault → ℕ
faults_after count (Err Failed) = one_more count
faults_after count _ = count

abbrev pub excesses_after : ℕ → Result (Vec ℕ) FetchFault → ℕ
excesses_after count (Err TooLong) = one_more count
excesses_after count _ = count

pub record Counts (old new : MemFolder) (result : Result (Vec ℕ) FetchFault) : Type 0 where
  pub calls : new.calls ≡ one_more old.calls
  pub faults : new.faults ≡ faults_after old.faults result
  pub excesses : new.excesses ≡ excesses_after old.excesses result
  pub faults_stay : old.faults ≤ new.faults
  pub excesses_stay : old.excesses ≤ new.excesses
