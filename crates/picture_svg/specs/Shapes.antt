-- The texts of the drawing primitives. What is up in a panel is below 0 in SVG.
use Rattle.std.specs.Prelude.{ℕ, ◌==◌, ◌/◌, ◌%◌, ℤ, unsigned_abs, if◌then◌else◌, List, [], ◌∷◌, ◌++◌, codes}
use Rattle.std.specs.Fmt.{decimal}
use Rattle.std.specs.Int.{is_negative}
use Rattle.trace_picture.specs.declared.places.Point.{Point}

-- the text of each value, in order
unfoldable pub listed : {X : Type 0} → (X → List ℕ) → List X → List ℕ
listed item [] = []
listed item (x ∷ xs) = item x ++ listed item xs

abbrev pub point_text : Point → List ℕ
point_text p = decimal p.across ++ (codes ",-" ++ (decimal p.up ++ codes " "))

unfoldable pub polyline_text : List ℕ → List Point → List ℕ
polyline_text style points =
    (codes "<polyline class='" ++ (style ++ codes "' points='")) ++ (listed point_text points ++ (codes "'/>" ++ (10 ∷ [])))

unfoldable pub area_text : List ℕ → List Point → List ℕ
area_text style points =
    (codes "<polygon class='" ++ (style ++ codes "' points='0,0 ")) ++ (listed point_text points ++ (codes "31000,0'/>" ++ (10 ∷ [])))

unfoldable pub grid_text : List ℕ → ℕ → List ℕ
grid_text style up = codes "<path class='" ++ (style ++ (codes "' d='M0,-" ++ (decimal up ++ (codes "H31000'/>" ++ (10 ∷ [])))))

-- the digits behind the point, without the last ones that are 0
unfoldable pub fraction_text : ℕ → List ℕ
fraction_text rest =
    if rest == 0 then []
    else if rest % 100 == 0 then codes "." ++ decimal (rest / 100)
    else if rest % 10 == 0 then codes "." ++ (decimal (rest / 100) ++ decimal (rest / 10 % 10))
    else codes "." ++ (decimal (rest / 100) ++ (decimal (rest / 10 % 10) ++ decimal (rest % 10)))

-- a number of thousandths as a decimal fraction
unfoldable pub thousandths : ℕ → List ℕ
thousandths size = decimal (size / 1000) ++ fraction_text (size % 1000)

unfoldable pub signed_thousandths : ℤ → List ℕ
signed_thousandths amount = (if is_negative amount then codes "-" else []) ++ thousandths (unsigned_abs amount)

unfoldable pub column_text : ℕ → ℕ → List ℕ
column_text row across =
    (codes "<path class='axis' d='M" ++ (decimal across ++ (codes ",0v250'/>" ++ (10 ∷ []))))
    ++ (codes "<text text-anchor='middle' x='" ++ (decimal across ++ (codes "' y='900'>" ++ (decimal row ++ (codes "</text>" ++ (10 ∷ []))))))

unfoldable pub sample_text : ℕ → List ℕ → List ℕ → List ℕ
sample_text number style label =
    (codes "<g transform='translate(32200 " ++ (decimal number ++ codes "000)'>"))
    ++ ((codes "<polyline class='" ++ (style ++ codes "' points='0,0 1250,0 2500,0'/>"))
    ++ (codes "<text dy='230' x='3000'>" ++ (label ++ (codes "</text></g>" ++ (10 ∷ [])))))
