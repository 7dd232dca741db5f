-- The names of the lines' styles, which no colour tells apart, and what the legends say.
use Rattle.std.specs.Prelude.{ℕ, ◌==◌, if◌then◌else◌, List, codes}
use Rattle.trace_picture.specs.declared.lines.Quantity.{Quantity}
use Rattle.trace_picture.specs.declared.lines.Quantity.TheVariants.{Sent, Accepted, Served, Lost, Waiting, State, Most, Least, AllAccepted, AllServed, Backlog, Buffer}
use Rattle.trace_picture.specs.declared.lines.Title.{Title}
use Rattle.trace_picture.specs.declared.lines.Title.TheVariants.{OfState}

abbrev pub flow_style : ℕ → List ℕ
flow_style f = if f == 1 then codes "flow1" else if f == 2 then codes "flow2" else if f == 3 then codes "flow3" else codes "flow4"

abbrev pub flow_label : ℕ → List ℕ
flow_label f = if f == 1 then codes "flow 1" else if f == 2 then codes "flow 2" else if f == 3 then codes "flow 3" else codes "flow 4"

abbrev pub style_of : Quantity → List ℕ
style_of (Sent f) = codes "sent"
style_of (Accepted f) = codes "accepted"
style_of (Served f) = codes "served"
style_of (Lost f) = codes "lost"
style_of (Waiting f) = flow_style f
style_of (State f j) = flow_style f
style_of Most = codes "most"
style_of Least = codes "least"
style_of AllAccepted = codes "accepted"
style_of AllServed = codes "served"
style_of Backlog = codes "backlog"
style_of Buffer = codes "limit"

abbrev pub label_of : Quantity → List ℕ
label_of (Sent f) = codes "sent"
label_of (Accepted f) = codes "accepted"
label_of (Served f) = codes "served"
label_of (Lost f) = codes "lost"
label_of (Waiting f) = flow_label f
label_of (State f j) = flow_label f
label_of Most = codes "band: most allowed"
label_of Least = codes "band: least allowed"
label_of AllAccepted = codes "accepted, all flows"
label_of AllServed = codes "served, all flows"
label_of Backlog = codes "beyond most allowed"
label_of Buffer = codes "buffer"

-- a state is an amount of data or a count, which a trace doesn't say
abbrev pub unit_of : Title → List ℕ
unit_of (OfState j) = codes "value"
unit_of _ = codes "units of data"
