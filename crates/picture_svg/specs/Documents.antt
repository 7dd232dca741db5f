-- The text of a picture as an SVG document: its size, the marks and styles, what the run is on, and each panel below the last.
use Rattle.std.specs.Prelude.{ℕ, pos, Option, None, Some, if◌then◌else◌, List, [], ◌∷◌, ◌++◌, codes, length}
use Rattle.std.specs.Fmt.{decimal, signed_decimal}
use Rattle.std.specs.Ordering.{int_eq}
use Rattle.text_lines.specs.Steps.{numbered}
use Rattle.whole.specs.declared.answers.Pair.{Pair}
use Rattle.path_server.specs.declared.settings.Path.{Path}
use Rattle.trace_picture.specs.declared.panels.Picture.{Picture}
use Rattle.picture_svg.specs.declared.styles.TheConstants.{MARKS, STYLES}
use Rattle.picture_svg.specs.Panels.{panel_text}

unfoldable pub opening_text : ℕ → List ℕ
opening_text panels =
    codes "<svg xmlns='http://www.w3.org/2000/svg' "
    ++ ((codes "width='48pc' height='" ++ (decimal panels ++ codes "2.5pc' "))
    ++ (codes "viewBox='0 0 48000 " ++ (decimal panels ++ (codes "2500'>" ++ (10 ∷ [])))))

unfoldable pub pair_text : Pair → List ℕ
pair_text p = if int_eq p.den (pos 1) then signed_decimal p.num else signed_decimal p.num ++ (codes "/" ++ signed_decimal p.den)

abbrev pub buffer_text : Option Pair → List ℕ
buffer_text None = codes "none"
buffer_text (Some b) = pair_text b

abbrev pub path_text : Path → List ℕ
path_text p = pair_text p.rate ++ ((codes ", jitter " ++ (decimal p.jitter ++ codes ", buffer ")) ++ buffer_text p.buffer)

unfoldable pub head_text : Picture → List ℕ
head_text p =
    (codes "<text class='head' x='4000' y='1100'>flows " ++ (decimal p.shape.flows ++ codes ", rate "))
    ++ (path_text p.path ++ ((codes "</text>" ++ (10 ∷ []))
    ++ (codes "<text x='4000' y='2100'>amounts since row 0; the dotted upright is the opening row, row "
    ++ (decimal p.shape.h ++ (codes "</text>" ++ (10 ∷ []))))))

unfoldable pub document_text : Picture → List ℕ
document_text p =
    opening_text (length p.panels)
    ++ (MARKS.now ++ (STYLES.now ++ (head_text p ++ (numbered (panel_text p) 0 p.panels ++ (codes "</svg>" ++ (10 ∷ []))))))
