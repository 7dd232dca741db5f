use Rattle.std.specs.Prelude.{◌≡◌, ℕ, List, ◌++◌, take, Option, None, Some, Result, Ok, Err}
use Rattle.std.specs.Ordering.{nat_cmp}
use Rattle.std.specs.BTreeMap.{get}
use Rattle.ccac_ports.specs.declared.mem_sink.MemSink.{MemSink}
use Rattle.ccac_ports.specs.declared.ports.PutFault.{PutFault}
use Rattle.ccac_ports.specs.declared.ports.PutFault.TheVariants.{Failed, NoMemory}
use Rattle.ccac_ports.specs.Ports.{one_more}

-- what the sink got
abbrev pub text_of : MemSink → List ℕ
text_of sink = sink.text.items

-- how many bytes the call of `put` with this number keeps before it fails, if it is planned to fail
abbrev pub keeps_at : MemSink → ℕ → Option ℕ
keeps_at sink call = get nat_cmp sink.failing call

-- how many calls of `put` there were
abbrev pub calls : MemSink → ℕ
calls sink = sink.calls

-- how many of them failed
abbrev pub faults : MemSink → ℕ
faults sink = sink.faults

-- only the planned failures may differ
pub record SameButPlan (old new : MemSink) : Type 0 where
  pub text : text_of new ≡ text_of old
  pub calls : new.calls ≡ old.calls
  pub faults : new.faults ≡ old.faults

abbrev pub SamePlan : MemSink → MemSink → Type 0
SamePlan old new = (call : ℕ) → keeps_at new call ≡ keeps_at old call

abbrev pub IsUnchanged : MemSink → MemSink → Type 0
IsUnchanged old new = SamePlan old new × SameButPlan old new

-- memory ran out, and the text is as it was
abbrev pub RanOut : MemSink → MemSink → PutFault → Type 0
RanOut old new fault = (fault ≡ NoMemory) × (text_of new ≡ text_of old)

-- a call appends all bytes and is Ok, or where it is planned to fail keeps some and fails; memory can run out
abbrev pub Puts : Option ℕ → MemSink → MemSink → List ℕ → Result (Unit {0}) PutFault → Type 0
Puts None old new bytes (Ok _) = text_of new ≡ text_of old ++ bytes
Puts None old new bytes (Err fault) = RanOut old new fault
Puts (Some keep) old new bytes (Ok _) = ⊥
Puts (Some keep) old new bytes (Err Failed) = text_of new ≡ text_of old ++ take keep bytes
Puts (Some keep) old new bytes (Err NoMemory) = text_of new ≡ text_of old

abbrev pub Gets : MemSink → MemSink → List ℕ → Result (Unit {0}) PutFault → Type 0
Gets old new bytes result = Puts (keeps_at old (one_more (calls old))) old new bytes result

-- each failure is counted
abbrev pub faults_after : ℕ → Result (Unit {0}) PutFault → ℕ
faults_after count (Err Failed) = one_more count
faults_after count _ = count
