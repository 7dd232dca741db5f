-- What each line of a picture shows: the value of a quantity on a row, in units of 1 / (over * unit), in which the numbers
-- of the path are whole. The band is what the path's rules compare the service with.
use Rattle.std.specs.Prelude.{ℕ, ℤ, pos, ◌-ℤ◌, ◌*ℤ◌, Option, None, Some}
use Rattle.std.specs.Int.{int_max}
use Rattle.whole.specs.declared.answers.Pair.{Pair}
use Rattle.run_rows.specs.Runs.{arrived, lost, served, state_of}
use Rattle.run_rows.specs.declared.rows.Run.{Run}
use Rattle.path_server.specs.Rules.{all_accepted, all_served, allowed, buffer, unit}
use Rattle.path_server.specs.Servers.{Server}
use Rattle.trace_picture.specs.declared.lines.Entry.{Entry}
use Rattle.trace_picture.specs.declared.lines.Entry.TheVariants as entries
use Rattle.trace_picture.specs.declared.lines.Quantity.{Quantity}
use Rattle.trace_picture.specs.declared.lines.Quantity.TheVariants.{Sent, Accepted, Served, Lost, Waiting, State, Most, Least, AllAccepted, AllServed, Backlog, Buffer}

-- an entry of each flow
abbrev pub entry_of : Run → ℕ → Entry → ℕ → ℤ
entry_of r i entries.Arrived f = arrived r i f
entry_of r i entries.Served f = served r i f
entry_of r i entries.Lost f = lost r i f

abbrev pub room_of : Server → Run → Option Pair → ℤ
room_of p r None = pos 0
room_of p r (Some b) = buffer p b *ℤ r.over

abbrev pub measured : Server → Run → Quantity → ℕ → ℤ
measured p r (Sent f) i = unit p *ℤ arrived r i f
measured p r (Accepted f) i = unit p *ℤ (arrived r i f -ℤ lost r i f)
measured p r (Served f) i = unit p *ℤ served r i f
measured p r (Lost f) i = unit p *ℤ lost r i f
measured p r (Waiting f) i = unit p *ℤ ((arrived r i f -ℤ lost r i f) -ℤ served r i f)
measured p r (State f j) i = unit p *ℤ state_of r i f j
measured p r Most i = allowed p r i 0
measured p r Least i = int_max (allowed p r i p.jitter) (pos 0)
measured p r AllAccepted i = unit p *ℤ all_accepted r i
measured p r AllServed i = unit p *ℤ all_served r i
measured p r Backlog i = unit p *ℤ all_accepted r i -ℤ allowed p r i 0
measured p r Buffer i = room_of p r p.buffer
