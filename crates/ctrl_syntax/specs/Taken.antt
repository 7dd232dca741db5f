-- What a line that was taken leaves.
use Rattle.std.specs.Prelude.{◌≡◌, List, [], ◌∷◌, Option, None, Some}
use Rattle.source_text.specs.Shown.{Ahead}

-- the line's front, if there is one, before those of the others
abbrev pub front_then : Option Ahead → List Ahead → List Ahead
front_then None others = []
front_then (Some a) others = a ∷ others

-- the first line was taken, if one was there
abbrev pub TakesLine : Option Ahead → List Ahead → List Ahead → Type 0
TakesLine None old new = (old ≡ []) × (new ≡ [])
TakesLine (Some a) old new = old ≡ a ∷ new
