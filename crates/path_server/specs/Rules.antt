-- The path rules as inequalities over all whole numbers, at every row where they apply. Sums and waste stand under flow 0.
-- Both sides are measured in units of 1 / (over * unit), in which the multiples of the rate and of the buffer are whole.
use Rattle.std.specs.Prelude.{◌≡◌, ℕ, zero, suc, ◌-◌, ◌<◌, ◌≤◌, ℤ, pos, ◌+ℤ◌, ◌-ℤ◌, ◌*ℤ◌, ◌≤ℤ◌, ◌<ℤ◌, Option, Some, None, length}
use Rattle.whole.specs.declared.answers.Pair.{Pair}
use Rattle.run_rows.specs.Runs.{arrived, flow_count, lost, over_flows, served, waste}
use Rattle.run_rows.specs.declared.rows.Run.{Run}
use Rattle.path_server.specs.Servers.{Server, server_of}
use Rattle.path_server.specs.declared.settings.Path.{Path}
use Rattle.path_server.specs.declared.path_rules.PathRule.{PathRule}
use Rattle.path_server.specs.declared.path_rules.PathRule.TheVariants.{Start, Growth, Service, Ceiling, Floor, Waste, Acceptance, Buffer, Loss, WasteRate}

abbrev pub buffer_den : Option Pair → ℤ
buffer_den None = pos 1
buffer_den (Some b) = b.den

abbrev pub unit : Server → ℤ
unit p = p.rate.den *ℤ buffer_den p.buffer

-- the rate C and the buffer B, each times the unit
abbrev pub rate : Server → ℤ
rate p = p.rate.num *ℤ buffer_den p.buffer

abbrev pub buffer : Server → Pair → ℤ
buffer p b = b.num *ℤ p.rate.den

-- A(i) - L(i), S(i) and L(i), each summed over the flows
abbrev pub all_accepted : Run → ℕ → ℤ
all_accepted r i = over_flows (arrived r i) (flow_count r 0) -ℤ over_flows (lost r i) (flow_count r 0)

abbrev pub all_served : Run → ℕ → ℤ
all_served r i = over_flows (served r i) (flow_count r 0)

abbrev pub all_lost : Run → ℕ → ℤ
all_lost r i = over_flows (lost r i) (flow_count r 0)

-- C*(i - d) + Q0 - W(max(i - d, 0)): the most that may have been served d rows before row i
abbrev pub allowed : Server → Run → ℕ → ℕ → ℤ
allowed p r i d = (rate p *ℤ (pos i -ℤ pos d)) *ℤ r.over +ℤ unit p *ℤ (r.credit -ℤ waste r (i - d))

abbrev pub FitsBuffer : Server → Run → ℕ → Option Pair → Type 0
FitsBuffer p r i None = Unit {0}
FitsBuffer p r i (Some b) = (unit p *ℤ all_accepted r i) ≤ℤ (allowed p r i 0 +ℤ buffer p b *ℤ r.over)

-- the queue of row i, as it was when row h ended, filled the buffer
abbrev pub FilledBuffer : Server → Run → ℕ → ℕ → Option Pair → Type 0
FilledBuffer p r i h None = ⊥
FilledBuffer p r i h (Some b) = (allowed p r h 0 +ℤ buffer p b *ℤ r.over) ≤ℤ (unit p *ℤ all_accepted r i)

-- the rule holds at row i for flow f
abbrev pub RuleHolds : Server → Run → PathRule → ℕ → ℕ → Type 0
RuleHolds p r Start zero zero = (waste r 0 ≡ pos 0) × (pos 0 ≤ℤ r.credit)
RuleHolds p r Start zero (suc f) = (served r 0 (suc f) ≡ pos 0) × (lost r 0 (suc f) ≡ pos 0) × (pos 0 ≤ℤ arrived r 0 (suc f))
RuleHolds p r Start (suc i) f = Unit {0}
RuleHolds p r Growth zero f = Unit {0}
RuleHolds p r Growth (suc i) zero = waste r i ≤ℤ waste r (suc i)
RuleHolds p r Growth (suc i) (suc f) =
    (arrived r i (suc f) ≤ℤ arrived r (suc i) (suc f)) × (served r i (suc f) ≤ℤ served r (suc i) (suc f))
    × (lost r i (suc f) ≤ℤ lost r (suc i) (suc f))
RuleHolds p r Service i zero = Unit {0}
RuleHolds p r Service i (suc f) = served r i (suc f) ≤ℤ (arrived r i (suc f) -ℤ lost r i (suc f))
RuleHolds p r Ceiling i zero = (unit p *ℤ all_served r i) ≤ℤ allowed p r i 0
RuleHolds p r Ceiling i (suc f) = Unit {0}
RuleHolds p r Floor i zero = allowed p r i p.jitter ≤ℤ (unit p *ℤ all_served r i)
RuleHolds p r Floor i (suc f) = Unit {0}
RuleHolds p r Waste zero f = Unit {0}
RuleHolds p r Waste (suc i) zero =
    waste r i <ℤ waste r (suc i) → (unit p *ℤ all_accepted r (suc i)) ≤ℤ allowed p r (suc i) 0
RuleHolds p r Waste (suc i) (suc f) = Unit {0}
RuleHolds p r Acceptance zero f = Unit {0}
RuleHolds p r Acceptance (suc i) zero = Unit {0}
RuleHolds p r Acceptance (suc i) (suc f) =
    (arrived r i (suc f) -ℤ lost r i (suc f)) ≤ℤ (arrived r (suc i) (suc f) -ℤ lost r (suc i) (suc f))
RuleHolds p r Buffer i zero = FitsBuffer p r i p.buffer
RuleHolds p r Buffer i (suc f) = Unit {0}
RuleHolds p r Loss zero f = Unit {0}
RuleHolds p r Loss (suc i) zero = all_lost r i <ℤ all_lost r (suc i) → FilledBuffer p r (suc i) i p.buffer
RuleHolds p r Loss (suc i) (suc f) = Unit {0}
RuleHolds p r WasteRate zero f = Unit {0}
RuleHolds p r WasteRate (suc i) zero = (unit p *ℤ (waste r (suc i) -ℤ waste r i)) ≤ℤ (rate p *ℤ r.over)
RuleHolds p r WasteRate (suc i) (suc f) = Unit {0}

-- every rule holds at row i
abbrev pub RowHolds : Server → Run → ℕ → Type 0
RowHolds p r i = (rule : PathRule) (f : ℕ) → f ≤ flow_count r 0 → RuleHolds p r rule i f

-- the run is one that the path admits
unfoldable pub Admitted : Path → Run → Type 0
Admitted p r = (rule : PathRule) (i f : ℕ) → i < length r.rows → f ≤ flow_count r 0 → RuleHolds (server_of p) r rule i f
