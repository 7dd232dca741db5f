-- The text of a panel: its title, its areas, its axes, its lines and its legend.
use Rattle.std.specs.Prelude.{ℕ, ℤ, pos, if◌then◌else◌, List, [], ◌∷◌, ◌++◌, codes}
use Rattle.std.specs.Fmt.{decimal}
use Rattle.std.specs.Ordering.{int_eq}
use Rattle.text_lines.specs.Steps.{numbered}
use Rattle.trace_picture.specs.declared.lines.Quantity.{Quantity}
use Rattle.trace_picture.specs.declared.lines.Quantity.TheVariants.{Most, Least}
use Rattle.trace_picture.specs.declared.lines.Title.{Title}
use Rattle.trace_picture.specs.declared.lines.Title.TheVariants.{OfPath, OfFlow, OfQueue, OfState}
use Rattle.trace_picture.specs.declared.panels.Line.{Line}
use Rattle.trace_picture.specs.declared.panels.Panel.{Panel}
use Rattle.trace_picture.specs.declared.panels.Picture.{Picture}
use Rattle.trace_picture.specs.declared.places.Point.{Point}
use Rattle.trace_picture.specs.declared.scales.Tick.{Tick}
use Rattle.picture_svg.specs.Names.{label_of, style_of, unit_of}
use Rattle.picture_svg.specs.Shapes.{area_text, column_text, grid_text, listed, polyline_text, sample_text, signed_thousandths}

abbrev pub name_text : Title → List ℕ
name_text OfPath = codes "path: served by each row, and the band that its rules allow"
name_text (OfFlow f) = codes "flow " ++ (decimal f ++ codes ": by each row")
name_text OfQueue = codes "queue: accepted and not yet served"
name_text (OfState j) = codes "state " ++ (decimal j ++ codes ", where 0 is the controller's first")

unfoldable pub title_text : Title → List ℕ
title_text t =
    codes "<text class='title' y='-7050'>"
    ++ (name_text t ++ ((codes "</text>" ++ (10 ∷ codes "<text text-anchor='middle' transform='translate(-3000 -3350) rotate(-90)'>"))
    ++ (unit_of t ++ (codes "</text>" ++ (10 ∷ [])))))

-- what may have been served is an area, and what has to have been is left blank over it
abbrev pub area_by : Quantity → List Point → List ℕ
area_by Most points = area_text (codes "band") points
area_by Least points = area_text (codes "blank") points
area_by _ points = []

abbrev pub area_of : Line → List ℕ
area_of line = area_by line.quantity line.points

abbrev pub tick_style : ℤ → List ℕ
tick_style amount = if int_eq amount (pos 0) then codes "zero" else codes "grid"

unfoldable pub tick_text : Tick → List ℕ
tick_text t =
    grid_text (tick_style t.amount) t.up
    ++ ((codes "<text text-anchor='end' dy='230' x='-400' y='-" ++ (decimal t.up ++ codes "'>"))
    ++ (signed_thousandths t.amount ++ (codes "</text>" ++ (10 ∷ []))))

-- a tick for each row
abbrev pub columns_text : List ℕ → List ℕ
columns_text columns = numbered column_text 0 columns

unfoldable pub frame_text : ℕ → List ℕ
frame_text opening =
    (codes "<path class='opening' d='M" ++ (decimal opening ++ (codes ",0V-6700'/>" ++ (10 ∷ []))))
    ++ ((codes "<text x='32200' y='900'>row (one step of time)</text>" ++ (10 ∷ []))
    ++ (codes "<path class='axis' d='M0,-6700V0H31000V-6700z'/>" ++ (10 ∷ [])))

unfoldable pub axes_text : Picture → Panel → List ℕ
axes_text p panel = listed tick_text panel.ticks ++ (columns_text p.columns ++ frame_text p.opening)

abbrev pub line_text : Line → List ℕ
line_text line = polyline_text (style_of line.quantity) line.points

abbrev pub sample_of : ℕ → Line → List ℕ
sample_of number line = sample_text number (style_of line.quantity) (label_of line.quantity)

abbrev pub legend_text : List Line → List ℕ
legend_text lines = (codes "<g transform='translate(0 -6200)'>" ++ (10 ∷ [])) ++ (numbered sample_of 0 lines ++ (codes "</g>" ++ (10 ∷ [])))

unfoldable pub panel_text : Picture → ℕ → Panel → List ℕ
panel_text p number panel =
    (codes "<g transform='translate(4000 " ++ (decimal number ++ (codes "0000) translate(0 10700)'>" ++ (10 ∷ []))))
    ++ (title_text panel.title ++ (listed area_of panel.lines ++ (axes_text p panel
    ++ (listed line_text panel.lines ++ (legend_text panel.lines ++ (codes "</g>" ++ (10 ∷ [])))))))
