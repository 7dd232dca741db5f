-- Where a point stands in its panel: in thousandths of a pica from the panel's lower left corner, rounded down.
use Rattle.std.specs.Prelude.{◌≡◌, ℕ, ◌+◌, ◌-◌, ◌*◌, ◌/◌, ◌≤◌, ℤ, pos, ◌+ℤ◌, ◌-ℤ◌, ◌*ℤ◌, unsigned_abs, List, map}
use Rattle.std.specs.List.{range_with_len}
use Rattle.run_rows.specs.declared.rows.Run.{Run}
use Rattle.path_server.specs.Servers.{Server}
use Rattle.trace_picture.specs.Measures.{measured}
use Rattle.trace_picture.specs.declared.lines.Quantity.{Quantity}
use Rattle.trace_picture.specs.declared.places.Point.{Point}
use Rattle.trace_picture.specs.declared.scales.Scale.{Scale}
use Rattle.trace_picture.specs.declared.scales.Tick.{Tick}

-- the width and the height of a panel
abbrev pub width : ℕ
width = 31000

abbrev pub height : ℕ
height = 6700

-- the rows divide the width evenly
abbrev pub across_of : ℕ → ℕ → ℕ
across_of last row = (row * width) / last

-- an amount above the panel's lower edge, in thousandths of the amounts' unit
abbrev pub above_edge : Scale → ℤ → ℤ
above_edge s amount = pos 1000 *ℤ amount +ℤ pos s.below *ℤ s.width

-- what the panel shows from its lower edge to its upper edge, in thousandths of the amounts' unit
abbrev pub range_of : Scale → ℕ
range_of s = (s.below + s.above) * unsigned_abs s.width

-- the amount's share of the range, as a share of the height
abbrev pub up_of : Scale → ℤ → ℕ
up_of s amount = (unsigned_abs (above_edge s amount) * height) / range_of s

-- the amount isn't below the panel's lower edge, nor above its upper edge
pub record Shows (s : Scale) (amount : ℤ) : Type 0 where
  pub part : ℕ
  pub from : above_edge s amount ≡ pos part
  pub to : up_of s amount ≤ height

-- the tick with this number, from the lower edge on, and its amount in thousandths of a unit of data
abbrev pub tick_of : Scale → ℕ → Tick
tick_of s n = record { up = (n * height) / (s.below + s.above); amount = (pos n -ℤ pos s.below) *ℤ pos s.step }

abbrev pub ticks_of : Scale → List Tick
ticks_of s = map (tick_of s) (range_with_len 0 (s.below + s.above + 1))

abbrev pub point_of : Server → Run → Quantity → Scale → ℕ → ℕ → Point
point_of p r q s last row = record { across = across_of last row; up = up_of s (measured p r q row) }

unfoldable pub points_of : Server → Run → Quantity → Scale → ℕ → ℕ → ℕ → List Point
points_of p r q s last first n = map (point_of p r q s last) (range_with_len first n)
