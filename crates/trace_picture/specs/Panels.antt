-- Which lines stand in which panel, and when a picture is that of a run.
use Rattle.std.specs.Prelude.{◌≡◌, ℕ, ◌+◌, ◌-◌, ◌*◌, ◌≤◌, ℤ, pos, ◌*ℤ◌, Option, Some, None, List, [], ◌∷◌, ◌++◌, map, All}
use Rattle.std.specs.List.{range_with_len}
use Rattle.whole.specs.declared.answers.Pair.{Pair}
use Rattle.run_rows.specs.declared.rows.Run.{Run}
use Rattle.run_rows.specs.declared.shapes.Shape.{Shape}
use Rattle.path_server.specs.Rules.{unit}
use Rattle.path_server.specs.Servers.{Server, server_of}
use Rattle.path_server.specs.declared.settings.Path.{Path}
use Rattle.trace_picture.specs.Places.{across_of, points_of, ticks_of}
use Rattle.trace_picture.specs.declared.lines.Quantity.{Quantity}
use Rattle.trace_picture.specs.declared.lines.Quantity.TheVariants.{Sent, Accepted, Served, Lost, Waiting, State, Most, Least, AllAccepted, AllServed, Backlog, Buffer}
use Rattle.trace_picture.specs.declared.lines.Title.{Title}
use Rattle.trace_picture.specs.declared.lines.Title.TheVariants.{OfPath, OfFlow, OfQueue, OfState}
use Rattle.trace_picture.specs.declared.panels.Line.{Line}
use Rattle.trace_picture.specs.declared.panels.Panel.{Panel}
use Rattle.trace_picture.specs.declared.panels.Picture.{Picture}
use Rattle.trace_picture.specs.declared.scales.Scale.{Scale}

-- the panels in their order: the path, each flow, the queue, each state
unfoldable pub titles_of : Shape → List Title
titles_of shape = ((OfPath ∷ []) ++ map OfFlow (range_with_len 1 shape.flows)) ++ ((OfQueue ∷ []) ++ map OfState (range_with_len 0 shape.states))

abbrev pub buffer_lines : Option Pair → List Quantity
buffer_lines None = []
buffer_lines (Some b) = Buffer ∷ []

abbrev pub state_of_flow : ℕ → ℕ → Quantity
state_of_flow j f = State f j

abbrev pub waiting_of_flow : ℕ → Quantity
waiting_of_flow f = Waiting f

unfoldable pub quantities_of : Option Pair → Shape → Title → List Quantity
quantities_of buffer shape OfPath = Most ∷ Least ∷ AllAccepted ∷ AllServed ∷ []
quantities_of buffer shape (OfFlow f) = Sent f ∷ Accepted f ∷ Served f ∷ Lost f ∷ []
quantities_of buffer shape OfQueue = ((Backlog ∷ []) ++ buffer_lines buffer) ++ map waiting_of_flow (range_with_len 1 shape.flows)
quantities_of buffer shape (OfState j) = map (state_of_flow j) (range_with_len 1 shape.flows)

-- the first row that a panel shows: states begin on the opening row
abbrev pub first_row : Shape → Title → ℕ
first_row shape (OfState j) = shape.h
first_row shape _ = 0

abbrev pub last_row : Shape → ℕ
last_row shape = shape.h + shape.t

-- a line of a panel: a point for each row
abbrev pub line_of : Server → Shape → Run → Title → Scale → Quantity → Line
line_of p shape r title s q =
    record { quantity = q; points = points_of p r q s (last_row shape) (first_row shape title) (last_row shape + 1 - first_row shape title) }

-- a scale's step is a whole number of thousandths of a unit of data, and a panel has five steps at most
pub record IsScale (p : Server) (r : Run) (s : Scale) : Type 0 where
  pub width_is : s.width ≡ pos s.step *ℤ (unit p *ℤ r.over)
  pub some : 1 ≤ s.above
  pub few : s.below + s.above ≤ 5

pub record IsPanel (p : Path) (shape : Shape) (r : Run) (panel : Panel) : Type 0 where
  pub scale_is : IsScale (server_of p) r panel.scale
  pub ticks_are : panel.ticks ≡ ticks_of panel.scale
  pub lines_are : panel.lines ≡ map (line_of (server_of p) shape r panel.title panel.scale) (quantities_of p.buffer shape panel.title)

abbrev pub title_of : Panel → Title
title_of panel = panel.title

pub record IsPicture (p : Path) (shape : Shape) (r : Run) (picture : Picture) : Type 0 where
  pub shape_is : picture.shape ≡ shape
  pub path_is : picture.path ≡ p
  pub columns_are : picture.columns ≡ map (across_of (last_row shape)) (range_with_len 0 (last_row shape + 1))
  pub opening_is : picture.opening ≡ across_of (last_row shape) shape.h
  pub titles_are : map title_of picture.panels ≡ titles_of shape
  pub panels_are : All (IsPanel p shape r) picture.panels
